-- Initialising and halting a stack.
use Rattle.std.proofs.Common.{◌≡◌, ℕ, ◌+◌, ◌==◌, ◌||◌, not, Bool, true, false, cond, List, [], ◌∷◌, ◌++◌, inr, length, replicate, filter, refl, arith, ap, sym, subst, map, ◌∙◌}
use Rattle.std.proofs.lemmas.Bool.Decides.{nat_tests}
use Rattle.std.proofs.lemmas.List.{length-replicate}
use Rattle.ndis_base.specs.declared.ModuleId.TheVariants.{Miniport, Filter}
use Rattle.ndis_base.specs.declared.ModuleState.{ModuleState}
use Rattle.ndis_base.specs.declared.ModuleState.TheVariants as state
use Rattle.ndis_base.specs.declared.Phase.TheVariants as phase
use Rattle.journal_types.specs.declared.PhaseOf.TheVariants as of
use Rattle.journal_types.specs.declared.Row.{Row}
use Rattle.journal_types.specs.declared.Row.TheVariants as row
use Rattle.stack_rules.specs.declared.Attached.{Attached}
use Rattle.stack_rules.specs.Net.{Net, after, after_rows}
use Rattle.stack_rules.specs.Outcome.{config_no}
use Rattle.stack_rules.specs.Rewires.{is_in}
use Rattle.stack_rules.specs.Pauses.{binding_ids, state_row, state_rows, initialize_rows, halt_rows}
use Rattle.state_laws.specs.Shape.{StatesAre, AllIn, IsWired, IsHalted, IsShaped}
use Rattle.state_laws.proofs.Rows.{after_rows-append}
use Rattle.state_laws.proofs.Takes.{with_bindings, all_take_two}
use Rattle.state_laws.proofs.Changes.{IsChanged}

-- as many bindings as there were
same_many : (net : Net) (q s : ModuleState) → net.modules.bindings ≡ replicate (length net.head.bindings) q → replicate (length net.modules.bindings) s ≡ replicate (length net.head.bindings) s
same_many net q s e = ap (λ n. replicate n s) (ap length e ∙ length-replicate (length net.head.bindings) q)

-- nothing is in an empty order
pub none_in : (entries : List Attached) → AllIn [] entries → entries ≡ []
none_in [] h = refl
none_in (a ∷ entries) h = cc

pub initialized : (net : Net) (s : IsShaped net) → IsHalted (length net.head.bindings) net.modules → s.front ≡ length net.modules.order + 2 → IsChanged net (after_rows net (initialize_rows net)) s
initialized net s h f =
    let low : Net = after net (state_row state.Paused Miniport) in
    let last : List Row = row.Phase (of.Stack phase.Paused) ∷ row.Config (config_no 1) [] ∷ [] in
    let is : after_rows net (initialize_rows net) ≡ after_rows (with_bindings low (replicate (length net.modules.bindings) state.Paused)) last =
    after_rows-append low (state_rows (state.Opening ∷ state.Paused ∷ []) (binding_ids 0 net.modules.bindings)) last ∙ ap (λ n. after_rows n last) (all_take_two low state.Opening state.Paused) in
    subst (λ n. IsChanged net n s) (sym is) record {
      head = refl;
      list = refl;
      things = refl;
      shape = record {
        front = 2;
        fits = (
          record { distinct = tt; below = tt; within = subst (AllIn []) (sym h.filters) tt },
          (record { bindings = same_many net state.Unbound state.Paused h.bindings; filters = tt; miniport = refl }, refl),
        );
      };
      kind = inr f;
    }

-- detaching the filters of an order
abbrev pub less : ℕ → List Attached → List Attached
less f entries = filter (λ a. not (a.filter == f)) entries

abbrev pub less_all : List ℕ → List Attached → List Attached
less_all [] entries = entries
less_all (f ∷ fs) entries = less_all fs (less f entries)

abbrev with_filters : Net → List Attached → Net
with_filters net entries = record net { modules = record net.modules { filters = entries } }

detach_all : (net : Net) (fs : List ℕ) → after_rows net (state_rows (state.Detached ∷ []) (map Filter fs)) ≡ with_filters net (less_all fs net.modules.filters)
detach_all net [] = refl
detach_all net (f ∷ fs) = detach_all (with_filters net (less f net.modules.filters)) fs

AllIn-less : (f : ℕ) (fs : List ℕ) (entries : List Attached) → AllIn (f ∷ fs) entries → AllIn fs (less f entries)
AllIn-less f fs [] h = tt
AllIn-less f fs (a ∷ entries) h =
    let rest : AllIn fs (less f entries) = AllIn-less f fs entries h.1 in
    let cases : (b : Bool) → (a.filter == f) ≡ b → AllIn fs (cond (not b) (a ∷ less f entries) (less f entries)) = elim [
      | true ↦ λ t. rest
      | false ↦ λ t. (other a.filter f (is_in a.filter fs) t h.0, rest)
    ] in
    cases (a.filter == f) refl
  where
    other : (a f : ℕ) (b : Bool) → (a == f) ≡ false → ((f == a) || b) ≡ true → b ≡ true
    other a f b t h = grind (arith, nat_tests)

less_all-none : (fs : List ℕ) (entries : List Attached) → AllIn fs entries → less_all fs entries ≡ []
less_all-none [] entries h = none_in entries h
less_all-none (f ∷ fs) entries h = less_all-none fs (less f entries) (AllIn-less f fs entries h)

pub halted : (net : Net) (s : IsShaped net) → IsWired net.next.filter net.modules → StatesAre (length net.head.bindings) net.modules (λ p. state.Paused) → s.front ≡ length net.modules.order + 2 → IsChanged net (after_rows net (halt_rows net)) s
halted net s w h f =
    let filters : List Row = state_rows (state.Detached ∷ []) (map Filter net.modules.order) in
    let last : List Row = state_row state.Halted Miniport ∷ row.Phase (of.Stack phase.Halted) ∷ [] in
    let top : Net = with_bindings net (replicate (length net.modules.bindings) state.Unbound) in
    let low : Net = with_filters top (less_all net.modules.order net.modules.filters) in
    let is : after_rows net (halt_rows net) ≡ after_rows low last =
    after_rows-append net (state_rows (state.Closing ∷ state.Unbound ∷ []) (binding_ids 0 net.modules.bindings)) (filters ++ last)
    ∙ ap (λ n. after_rows n (filters ++ last)) (all_take_two net state.Closing state.Unbound)
    ∙ after_rows-append top filters last
    ∙ ap (λ n. after_rows n last) (detach_all top net.modules.order) in
    subst (λ n. IsChanged net n s) (sym is) record {
      head = refl;
      list = refl;
      things = refl;
      shape = record {
        front = length net.modules.order + 2;
        fits = (
          record { distinct = w.distinct; bindings = same_many net state.Paused state.Unbound h.bindings; filters = less_all-none net.modules.order net.modules.filters w.within; miniport = refl },
          refl,
        );
      };
      kind = inr f;
    }
