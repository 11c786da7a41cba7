-- A position takes a state.
use Rattle.std.proofs.Common.{◌≡◌, ℕ, zero, suc, ◌+◌, ◌<◌, ◌≤◌, ◌==◌, ◌||◌, not, Bool, true, false, cond, List, [], ◌∷◌, ◌++◌, Option, Some, None, option_map, length, set, get_or, replicate, filter, find, refl, arith, ap, sym, subst, append_assoc, map, ◌∙◌, if◌then◌else◌}
use Rattle.std.proofs.lemmas.Bool.Decides.{nat_tests}
use Rattle.std.proofs.lemmas.List.{set_at, length_push, length-replicate}
use Rattle.ndis_base.specs.declared.ModuleId.TheVariants.{Miniport, Filter}
use Rattle.ndis_base.specs.declared.ModuleState.{ModuleState}
use Rattle.stack_rules.specs.declared.Attached.{Attached}
use Rattle.stack_rules.specs.Net.{Net, Modules, after, after_rows, attached, with_state, is_detached, filter_after, handlers_of}
use Rattle.stack_rules.specs.Places.{state_in}
use Rattle.stack_rules.specs.Rewires.{is_in}
use Rattle.stack_rules.specs.Targets.{has_receive}
use Rattle.stack_rules.specs.Pauses.{binding_ids, state_row, state_rows}
use Rattle.rule_basics.proofs.Finds.{find-map}
use Rattle.state_laws.specs.Shape.{FiltersAre, StatesAre, IsDistinct, AllIn}

-- the states with another one at a position
abbrev pub put : (ℕ → ModuleState) → ℕ → ModuleState → ℕ → ModuleState
put states i s p = if p == i then s else states p

-- no position has this state
abbrev pub NoneDetached : (ℕ → ModuleState) → Type 0
NoneDetached states = (p : ℕ) → is_detached (states p) ≡ false

-- a position takes a state, and all else stays
pub record IsPut (net next : Net) (i : ℕ) (s : ModuleState) : Type 0 where
  pub head : next.head ≡ net.head
  pub phase : next.phase ≡ net.phase
  pub order : next.modules.order ≡ net.modules.order
  pub filter : next.next.filter ≡ net.next.filter
  pub list : next.next.list ≡ net.next.list
  pub things : next.things ≡ net.things
  pub receives : (f : ℕ) → has_receive next.modules f ≡ has_receive net.modules f
  pub within : (order : List ℕ) → AllIn order net.modules.filters → AllIn order next.modules.filters
  pub states : (many : ℕ) (states : ℕ → ModuleState) → NoneDetached states → StatesAre many net.modules states → StatesAre many next.modules (put states i s)

-- bindings
abbrev pub with_bindings : Net → List ModuleState → Net
with_bindings net states = record net { modules = record net.modules { bindings = states } }

push_front : (front rest : List ModuleState) (s : ModuleState) → front ++ s ∷ rest ≡ (front ++ s ∷ []) ++ rest
push_front front rest s = sym (append_assoc front (s ∷ []) rest)

one_from : (net : Net) (s : ModuleState) (b : ℕ) (front rest : List ModuleState) → length front ≡ b →
    after_rows (with_bindings net (front ++ rest)) (state_rows (s ∷ []) (binding_ids b rest)) ≡ with_bindings net (front ++ replicate (length rest) s)
one_from net s b front [] e = refl
one_from net s b front (r ∷ rest) e =
    let here : set (front ++ r ∷ rest) b s ≡ (front ++ s ∷ []) ++ rest = set_at front r rest s b e ∙ push_front front rest s in
    ap (λ states. after_rows (with_bindings net states) (state_rows (s ∷ []) (binding_ids (b + 1) rest))) here
    ∙ one_from net s (b + 1) (front ++ s ∷ []) rest (omega (arith, length_push front s))
    ∙ ap (λ states. with_bindings net states) (sym (push_front front (replicate (length rest) s) s))

-- all bindings take a state
pub all_take : (net : Net) (s : ModuleState) →
    after_rows net (state_rows (s ∷ []) (binding_ids 0 net.modules.bindings)) ≡ with_bindings net (replicate (length net.modules.bindings) s)
all_take net s = one_from net s 0 [] net.modules.bindings refl

two_from : (net : Net) (q s : ModuleState) (b : ℕ) (front rest : List ModuleState) → length front ≡ b →
    after_rows (with_bindings net (front ++ rest)) (state_rows (q ∷ s ∷ []) (binding_ids b rest)) ≡ with_bindings net (front ++ replicate (length rest) s)
two_from net q s b front [] e = refl
two_from net q s b front (r ∷ rest) e =
    let first : set (front ++ r ∷ rest) b q ≡ front ++ q ∷ rest = set_at front r rest q b e in
    let here : set (front ++ q ∷ rest) b s ≡ (front ++ s ∷ []) ++ rest = set_at front q rest s b e ∙ push_front front rest s in
    ap (λ states. after_rows (with_bindings net states) (state_rows (q ∷ s ∷ []) (binding_ids (b + 1) rest))) (ap (λ states. set states b s) first ∙ here)
    ∙ two_from net q s (b + 1) (front ++ s ∷ []) rest (omega (arith, length_push front s))
    ∙ ap (λ states. with_bindings net states) (sym (push_front front (replicate (length rest) s) s))

-- all bindings take two states, one after the other
pub all_take_two : (net : Net) (q s : ModuleState) →
    after_rows net (state_rows (q ∷ s ∷ []) (binding_ids 0 net.modules.bindings)) ≡ with_bindings net (replicate (length net.modules.bindings) s)
all_take_two net q s = two_from net q s 0 [] net.modules.bindings refl

-- states that are the same where it counts
pub FiltersAre-same : (states others : ℕ → ModuleState) (entries : List Attached) (p : ℕ) (fs : List ℕ) → ((i : ℕ) → p ≤ i → i < p + length fs → states i ≡ others i) → FiltersAre states entries p fs → FiltersAre others entries p fs
FiltersAre-same states others entries p [] e h = tt
FiltersAre-same states others entries p (f ∷ fs) e h =
    (h.0 ∙ e p (omega arith) (omega arith), FiltersAre-same states others entries (p + 1) fs (λ i a b. e i (omega arith) (omega arith)) h.1)

pub StatesAre-same : (states others : ℕ → ModuleState) (many : ℕ) (ms : Modules) → ((i : ℕ) → i ≤ length ms.order + 1 → states i ≡ others i) → StatesAre many ms states → StatesAre many ms others
StatesAre-same states others many ms e h = record {
  bindings = h.bindings ∙ ap (replicate many) (e 0 (omega arith));
  filters = FiltersAre-same states others ms.filters 1 ms.order (λ i a b. e i (omega arith)) h.filters;
  miniport = h.miniport ∙ e (length ms.order + 1) (omega arith);
}

put-there : (states : ℕ → ModuleState) (i : ℕ) (s : ModuleState) (p : ℕ) → p ≡ i → s ≡ put states i s p
put-there states i s p e = grind (arith, nat_tests)

put-apart : (states : ℕ → ModuleState) (i : ℕ) (s : ModuleState) (p : ℕ) → (p ≡ i → ⊥) → states p ≡ put states i s p
put-apart states i s p e = grind (arith, nat_tests)

-- the bindings are position 0
bindings_put : (net : Net) (s : ModuleState) → IsPut net (with_bindings net (replicate (length net.modules.bindings) s)) 0 s
bindings_put net s = record {
  head = refl;
  phase = refl;
  order = refl;
  filter = refl;
  list = refl;
  things = refl;
  receives = λ f. refl;
  within = λ order h. h;
  states = λ many states d h. record {
    bindings = ap (λ n. replicate n s) (ap length h.bindings ∙ length-replicate many (states 0));
    filters = FiltersAre-same states (put states 0 s) net.modules.filters 1 net.modules.order (λ i a b. put-apart states 0 s i (λ e. absurd (omega arith))) h.filters;
    miniport = h.miniport ∙ put-apart states 0 s (length net.modules.order + 1) (λ e. absurd (omega arith));
  };
}

pub put_bindings : (net : Net) (s : ModuleState) → IsPut net (after_rows net (state_rows (s ∷ []) (binding_ids 0 net.modules.bindings))) 0 s
put_bindings net s = subst (λ next. IsPut net next 0 s) (sym (all_take net s)) (bindings_put net s)

pub put_bindings_two : (net : Net) (q s : ModuleState) → IsPut net (after_rows net (state_rows (q ∷ s ∷ []) (binding_ids 0 net.modules.bindings))) 0 s
put_bindings_two net q s = subst (λ next. IsPut net next 0 s) (sym (all_take_two net q s)) (bindings_put net s)

-- the miniport is the last position
pub put_miniport : (net : Net) (s : ModuleState) → IsPut net (after net (state_row s Miniport)) (length net.modules.order + 1) s
put_miniport net s = record {
  head = refl;
  phase = refl;
  order = refl;
  filter = refl;
  list = refl;
  things = refl;
  receives = λ f. refl;
  within = λ order h. h;
  states = λ many states d h. record {
    bindings = h.bindings ∙ ap (replicate many) (put-apart states (length net.modules.order + 1) s 0 (λ e. absurd (omega arith)));
    filters = FiltersAre-same states (put states (length net.modules.order + 1) s) net.modules.filters 1 net.modules.order (λ i a b. put-apart states (length net.modules.order + 1) s i (λ e. absurd (omega arith))) h.filters;
    miniport = put-there states (length net.modules.order + 1) s (length net.modules.order + 1) refl;
  };
}

-- a filter
same_number : (f : ℕ) (s : ModuleState) (a : Attached) → (with_state f s a).filter ≡ a.filter
same_number f s a = elim (a.filter == f) as (λ b. (cond b (record a { state = s }) a).filter ≡ a.filter) [ true ↦ refl | false ↦ refl ]

find-test : (p q : Attached → Bool) → ((a : Attached) → p a ≡ q a) → (entries : List Attached) → find p entries ≡ find q entries
find-test p q e [] = refl
find-test p q e (a ∷ entries) = rw (e a, find-test p q e entries) refl

pub attached-with_state : (g f : ℕ) (s : ModuleState) (entries : List Attached) → attached g (map (with_state f s) entries) ≡ option_map (with_state f s) (attached g entries)
attached-with_state g f s entries =
    find-map (λ a. a.filter == g) (with_state f s) entries
    ∙ ap (option_map (with_state f s)) (find-test (λ a. (with_state f s a).filter == g) (λ a. a.filter == g) (λ a. ap (λ n. n == g) (same_number f s a)) entries)

pub attached-is : (g : ℕ) (entries : List Attached) (a : Attached) → attached g entries ≡ Some a → a.filter ≡ g
attached-is g [] a h = cc
attached-is g (x ∷ entries) a h =
    let cases : (b : Bool) → (x.filter == g) ≡ b → cond b (Some x) (attached g entries) ≡ Some a → a.filter ≡ g = elim [
      | true ↦ λ t e. let same : x ≡ a = cc in subst (λ (y : Attached). y.filter ≡ g) same (grind (arith, nat_tests))
      | false ↦ λ t e. attached-is g entries a e
    ] in
    cases (x.filter == g) refl h

-- the state of the filter that takes one, and of another one
state_there : (g f : ℕ) (s : ModuleState) (entries : List Attached) → g ≡ f → is_detached (state_in (attached g entries)) ≡ false → state_in (attached g (map (with_state f s) entries)) ≡ s
state_there g f s entries e d = ap state_in (attached-with_state g f s entries) ∙ at (attached g entries) refl d
  where
    set_state : (a : Attached) → (a.filter == f) ≡ true → (with_state f s a).state ≡ s
    set_state a t = rw t refl

    at : (o : Option Attached) → attached g entries ≡ o → is_detached (state_in o) ≡ false → state_in (option_map (with_state f s) o) ≡ s
    at None is d = cc
    at (Some a) is d = let same : a.filter ≡ g = attached-is g entries a is in set_state a (grind (arith, nat_tests))

state_apart : (g f : ℕ) (s : ModuleState) (entries : List Attached) → (g == f) ≡ false → state_in (attached g (map (with_state f s) entries)) ≡ state_in (attached g entries)
state_apart g f s entries e = ap state_in (attached-with_state g f s entries) ∙ at (attached g entries) refl
  where
    stays : (a : Attached) → (a.filter == f) ≡ false → (with_state f s a).state ≡ a.state
    stays a t = rw t refl

    at : (o : Option Attached) → attached g entries ≡ o → state_in (option_map (with_state f s) o) ≡ state_in o
    at None is = refl
    at (Some a) is = let same : a.filter ≡ g = attached-is g entries a is in stays a (grind (arith, nat_tests))

-- filters that aren't the one
others_stay : (states : ℕ → ModuleState) (f : ℕ) (s : ModuleState) (entries : List Attached) (p : ℕ) (fs : List ℕ) → is_in f fs ≡ false → FiltersAre states entries p fs → FiltersAre states (map (with_state f s) entries) p fs
others_stay states f s entries p [] n h = tt
others_stay states f s entries p (g ∷ fs) n h =
    let here : (g == f) ≡ false = grind (arith, nat_tests) in
    let rest : is_in f fs ≡ false = grind (arith, nat_tests) in
    (state_apart g f s entries here ∙ h.0, others_stay states f s entries (p + 1) fs rest h.1)

pub in_at : (fs : List ℕ) (j : ℕ) → j < length fs → is_in (get_or fs j 0) fs ≡ true
in_at [] j h = absurd (omega arith)
in_at (f ∷ fs) zero h = grind (arith, nat_tests)
in_at (f ∷ fs) (suc j) h =
    let rest : is_in (get_or fs j 0) fs ≡ true = in_at fs j (omega arith) in
    or_true (f == get_or fs j 0) (is_in (get_or fs j 0) fs) rest
  where
    or_true : (a b : Bool) → b ≡ true → (a || b) ≡ true
    or_true true b h = refl
    or_true false b h = h

apart_in : (f g : ℕ) (fs : List ℕ) → is_in f fs ≡ false → is_in g fs ≡ true → (f == g) ≡ false
apart_in f g fs n i =
    let cases : (b : Bool) → (f == g) ≡ b → (f == g) ≡ false = elim [
      | true ↦ λ t. let same : f ≡ g = grind (arith, nat_tests) in absurd (cc (ap (λ x. is_in x fs) same))
      | false ↦ λ t. t
    ] in
    cases (f == g) refl

filters_put : (states : ℕ → ModuleState) → NoneDetached states → (s : ModuleState) (entries : List Attached) (p : ℕ) (fs : List ℕ) (j i : ℕ) → i ≡ p + j → j < length fs → IsDistinct fs → FiltersAre states entries p fs → FiltersAre (put states i s) (map (with_state (get_or fs j 0) s) entries) p fs
filters_put states d s entries p [] j i e l t h = tt
filters_put states d s entries p (f ∷ fs) zero i e l t h =
    let attached_now : is_detached (state_in (attached f entries)) ≡ false = ap is_detached h.0 ∙ d p in
    let here : state_in (attached f (map (with_state f s) entries)) ≡ put states i s p = state_there f f s entries refl attached_now ∙ put-there states i s p (omega arith) in
    let rest : FiltersAre states (map (with_state f s) entries) (p + 1) fs = others_stay states f s entries (p + 1) fs t.0 h.1 in
    (here, FiltersAre-same states (put states i s) (map (with_state f s) entries) (p + 1) fs (λ k a b. put-apart states i s k (λ q. absurd (omega arith))) rest)
filters_put states d s entries p (f ∷ fs) (suc j) i e l t h =
    let other : (f == get_or fs j 0) ≡ false = apart_in f (get_or fs j 0) fs t.0 (in_at fs j (omega arith)) in
    let here : state_in (attached f (map (with_state (get_or fs j 0) s) entries)) ≡ put states i s p = state_apart f (get_or fs j 0) s entries other ∙ h.0 ∙ put-apart states i s p (λ q. absurd (omega arith)) in
    (here, filters_put states d s entries (p + 1) fs j i (omega arith) (omega arith) t.1 h.1)

pub AllIn-with_state : (order : List ℕ) (f : ℕ) (s : ModuleState) (entries : List Attached) → AllIn order entries → AllIn order (map (with_state f s) entries)
AllIn-with_state order f s [] h = tt
AllIn-with_state order f s (a ∷ entries) h = (ap (λ n. is_in n order) (same_number f s a) ∙ h.0, AllIn-with_state order f s entries h.1)

receives_same : (g f : ℕ) (s : ModuleState) (entries : List Attached) → (handlers_of (attached g (map (with_state f s) entries))).receive ≡ (handlers_of (attached g entries)).receive
receives_same g f s entries = ap (λ o. (handlers_of o).receive) (attached-with_state g f s entries) ∙ at (attached g entries)
  where
    stays : (a : Attached) → (handlers_of (Some (with_state f s a))).receive ≡ (handlers_of (Some a)).receive
    stays a = elim (a.filter == f) as (λ b. (handlers_of (Some (cond b (record a { state = s }) a))).receive ≡ (handlers_of (Some a)).receive) [ true ↦ refl | false ↦ refl ]

    at : (o : Option Attached) → (handlers_of (option_map (with_state f s) o)).receive ≡ (handlers_of o).receive
    at None = refl
    at (Some a) = stays a

-- the filter at place j from the top is position j + 1
pub put_filter : (net : Net) (s : ModuleState) (j : ℕ) → j < length net.modules.order → IsDistinct net.modules.order → is_detached s ≡ false → ((f n : ℕ) → filter_after (Filter f) s n ≡ n) → IsPut net (after net (state_row s (Filter (get_or net.modules.order j 0)))) (j + 1) s
put_filter net s j l t d c =
    let f : ℕ = get_or net.modules.order j 0 in
    let entries : List Attached = map (with_state f s) net.modules.filters in
    let next : Net = record net { modules = record net.modules { filters = entries } } in
    let put_next : IsPut net next (j + 1) s = record {
      head = refl;
      phase = refl;
      order = refl;
      filter = refl;
      list = refl;
      things = refl;
      receives = λ g. receives_same g f s net.modules.filters;
      within = λ order h. AllIn-with_state order f s net.modules.filters h;
      states = λ many states n h. record {
        bindings = h.bindings ∙ ap (replicate many) (put-apart states (j + 1) s 0 (λ e. absurd (omega arith)));
        filters = filters_put states n s net.modules.filters 1 net.modules.order j (j + 1) (omega arith) l t h.filters;
        miniport = h.miniport ∙ put-apart states (j + 1) s (length net.modules.order + 1) (λ e. absurd (omega arith));
      };
    } in
    let is : after net (state_row s (Filter f)) ≡ next =
    ap (λ b. record net { modules = record net.modules { filters = cond b (filter (λ a. not (a.filter == f)) net.modules.filters) entries }; next = record net.next { filter = filter_after (Filter f) s net.next.filter } }) d
    ∙ ap (λ n. record net { modules = record net.modules { filters = entries }; next = record net.next { filter = n } }) (c f net.next.filter) in
    subst (λ n. IsPut net n (j + 1) s) (sym is) put_next
