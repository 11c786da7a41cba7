-- The state of each module by its position.
use Rattle.std.proofs.Common.{◌≡◌, ℕ, ◌+◌, ◌<◌, ◌≤◌, ◌==◌, ◌||◌, nat_lt, Bool, true, false, cond, List, [], ◌∷◌, Some, get_or, replicate, refl, arith, ap, sym, ◌∙◌}
use Rattle.std.proofs.lemmas.Bool.Decides.{nat_tests}
use Rattle.std.proofs.lemmas.List.{get_or-replicate, get_or_past, length-replicate}
use Rattle.ndis_base.specs.declared.ModuleId.TheVariants.{Filter}
use Rattle.ndis_base.specs.declared.ModuleState.{ModuleState}
use Rattle.ndis_base.specs.declared.ModuleState.TheVariants as state
use Rattle.stack_rules.specs.declared.Attached.{Attached}
use Rattle.stack_rules.specs.Tests.{is_paused, is_running}
use Rattle.stack_rules.specs.Net.{Modules, attached}
use Rattle.stack_rules.specs.Places.{above, position, state_in}
use Rattle.stack_rules.specs.Rewires.{is_in}
use Rattle.state_laws.specs.Shape.{state_at, FiltersAre, StatesAre, AllIn}

-- a filter of the order has the state of its position
pub filter_at : (states : ℕ → ModuleState) (entries : List Attached) (p f : ℕ) (fs : List ℕ) → FiltersAre states entries p fs → is_in f fs ≡ true → state_in (attached f entries) ≡ states (p + above f fs)
filter_at states entries p f [] h i = cc
filter_at states entries p f (g ∷ fs) h i =
    let cases : (b : Bool) → (g == f) ≡ b → (b || is_in f fs) ≡ true → state_in (attached f entries) ≡ states (p + cond b 0 (above f fs + 1)) = elim [
      | true ↦ λ t i.
          let same : g ≡ f = grind (arith, nat_tests) in
          let at : p ≡ p + 0 = omega arith in
          ap (λ x. state_in (attached x entries)) (sym same) ∙ h.0 ∙ ap states at
      | false ↦ λ t i.
          let at : p + 1 + above f fs ≡ p + (above f fs + 1) = omega arith in
          filter_at states entries (p + 1) f fs h.1 i ∙ ap states at
    ] in
    cases (g == f) refl i

-- what is attached is in the order
attached_in : (f : ℕ) (order : List ℕ) (entries : List Attached) (a : Attached) → AllIn order entries → attached f entries ≡ Some a → is_in f order ≡ true
attached_in f order [] a h e = cc
attached_in f order (x ∷ entries) a h e =
    let cases : (b : Bool) → (x.filter == f) ≡ b → cond b (Some x) (attached f entries) ≡ Some a → is_in f order ≡ true = elim [
      | true ↦ λ t e. let same : x.filter ≡ f = grind (arith, nat_tests) in ap (λ g. is_in g order) (sym same) ∙ h.0
      | false ↦ λ t e. attached_in f order entries a h.1 e
    ] in
    cases (x.filter == f) refl e

pub attached_state : (many : ℕ) (ms : Modules) (states : ℕ → ModuleState) (f : ℕ) (a : Attached) → AllIn ms.order ms.filters → StatesAre many ms states → attached f ms.filters ≡ Some a → a.state ≡ states (position ms.order (Filter f))
attached_state many ms states f a i h e =
    let at : 1 + above f ms.order ≡ position ms.order (Filter f) = omega arith in
    sym (ap state_in e) ∙ filter_at states ms.filters 1 f ms.order h.filters (attached_in f ms.order ms.filters a i e) ∙ ap states at

-- a position that is Paused is above the front, and one that runs is not
pub paused_above : (q r i : ℕ) → is_paused (state_at q r i) ≡ true → i < q
paused_above q r i h = by (nat_lt i q) (nat_lt i r) refl h
  where
    by : (a b : Bool) → nat_lt i q ≡ a → is_paused (cond a state.Paused (cond b state.Pausing state.Running)) ≡ true → i < q
    by true b e h = grind (arith, nat_tests)
    by false true e h = cc
    by false false e h = cc

pub running_below : (q r i : ℕ) → is_running (state_at q r i) ≡ true → q ≤ i
running_below q r i h = by (nat_lt i q) (nat_lt i r) refl h
  where
    by : (a b : Bool) → nat_lt i q ≡ a → is_running (cond a state.Paused (cond b state.Pausing state.Running)) ≡ true → q ≤ i
    by true b e h = cc
    by false true e h = cc
    by false false e h = grind (arith, nat_tests)

-- a binding that there is has the state of the top
pub binding_state : (many : ℕ) (bindings : List ModuleState) (s : ModuleState) (b : ℕ) → bindings ≡ replicate many s → is_paused (get_or bindings b state.Unbound) ≡ true → get_or bindings b state.Unbound ≡ s
binding_state many bindings s b e h =
    let cases : (c : Bool) → nat_lt b many ≡ c → get_or bindings b state.Unbound ≡ s = elim [
      | true ↦ λ t. let less : b < many = grind (arith, nat_tests) in ap (λ ss. get_or ss b state.Unbound) e ∙ get_or-replicate many b s state.Unbound less
      | false ↦ λ t.
          let more : many ≤ b = grind (arith, nat_tests) in
          let past : get_or bindings b state.Unbound ≡ state.Unbound = ap (λ ss. get_or ss b state.Unbound) e ∙ get_or_past (replicate many s) b state.Unbound (omega (arith, length-replicate many s, more)) in
          absurd (cc (h, ap is_paused past))
    ] in
    cases (nat_lt b many) refl
