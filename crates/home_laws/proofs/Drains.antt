-- The rows of drains fit.
use Rattle.std.proofs.Common.{ℕ, Bool, List, [], ◌∷◌, ◌++◌, Option, Some, None, map, refl}
use Rattle.ndis_base.specs.declared.ListStatus.TheVariants.{Success, Paused}
use Rattle.ndis_base.specs.declared.ModuleId.TheVariants.{Miniport, Filter, Binding}
use Rattle.journal_types.specs.declared.Row.{Row}
use Rattle.stack_rules.specs.declared.LiveList.{LiveList}
use Rattle.stack_rules.specs.Tests.{phase_is_running, is_retain, is_virtual}
use Rattle.stack_rules.specs.Heads.{kind_of_binding, binding_numbers}
use Rattle.stack_rules.specs.Net.{Net}
use Rattle.stack_rules.specs.Places.{position, ready_lists}
use Rattle.stack_rules.specs.Sends.{first_of}
use Rattle.stack_rules.specs.Cancels.{is_hold_filter}
use Rattle.stack_rules.specs.Pumps.{is_pump_moving}
use Rattle.stack_rules.specs.Drains.{returned_by, returns_all, passed_by, passes_all, empties, empties_ring, first_rows, drain_rows, drained, drain_outcome}
use Rattle.rule_basics.specs.Live.{Each}
use Rattle.home_laws.proofs.Fits.{Register, AllFit, IsSane}
use Rattle.home_laws.proofs.Agreed.{Agrees}
use Rattle.home_laws.proofs.Known.{by_test, Knows, Each-first_of, live_as, onward_fits, homeward_fits, turned_back_fits}
use Rattle.home_laws.proofs.Issues.{FitOutcome, KnowsFound}
use Rattle.home_laws.proofs.Sends.{transmitted_fits}
use Rattle.home_laws.proofs.Cancels.{ready_known}
use Rattle.home_laws.proofs.Pumps.{pump_fits}

-- a binding returns all that it keeps, a filter passes on all that it keeps
returned_fit : (net : Net) (reg : Register) (ls : List LiveList) → Each (Knows reg) ls → AllFit reg (map (returned_by net) ls)
returned_fit net reg [] k = tt
returned_fit net reg (l ∷ ls) k = homeward_fits reg net.modules l 0 Success (map (returned_by net) ls) k.0 (returned_fit net reg ls k.1)

passed_fit : (net : Net) (reg : Register) (f : ℕ) (ls : List LiveList) → Each (Knows reg) ls → AllFit reg (map (passed_by net f) ls)
passed_fit net reg f [] k = tt
passed_fit net reg f (l ∷ ls) k =
    onward_fits reg net.modules l.list l.direction (position net.modules.order (Filter f)) (map (passed_by net f) ls) (live_as reg l k.0) (passed_fit net reg f ls k.1)

returns_fit : (net : Net) (reg : Register) (b : ℕ) → Agrees net reg → AllFit reg (returns_all net b)
returns_fit net reg b h =
    by_test (AllFit reg) (is_retain (kind_of_binding net.head b)) _ _
    (λ _. returned_fit net reg (ready_lists net (Binding b)) (ready_known net reg (Binding b) h))
    (λ _. tt)

passes_fit : (net : Net) (reg : Register) (f : ℕ) → Agrees net reg → AllFit reg (passes_all net f)
passes_fit net reg f h =
    by_test (AllFit reg) (is_hold_filter net.modules f) _ _
    (λ _. passed_fit net reg f (ready_lists net (Filter f)) (ready_known net reg (Filter f) h))
    (λ _. tt)

empties_fit : (net : Net) (reg : Register) (o : Option LiveList) → Agrees net reg → IsSane reg → KnowsFound reg o → AllFit reg (empties net o)
empties_fit net reg None h s k = tt
empties_fit net reg (Some l) h s k =
    by_test (AllFit reg) (is_virtual net.head.kind) _ _
    (λ _. by_test (AllFit reg) (phase_is_running net.phase) _ _ (λ _. tt) (λ _. turned_back_fits reg net.modules l Miniport Paused (k l refl)))
    (λ _. transmitted_fits net reg l h s (k l refl))

ring_fits : (net : Net) (reg : Register) → Agrees net reg → IsSane reg → AllFit reg (empties_ring net)
ring_fits net reg h s =
    empties_fit net reg (first_of (ready_lists net Miniport)) h s (λ l e. Each-first_of (Knows reg) (ready_lists net Miniport) l (ready_known net reg Miniport h) e)

-- each of some lists of rows fits
abbrev EachFits : Register → List (List Row) → Type 0
EachFits reg [] = Unit {0}
EachFits reg (rows ∷ others) = AllFit reg rows × EachFits reg others

first_fits : (reg : Register) (all : List (List Row)) → EachFits reg all → AllFit reg (first_rows all)
first_fits reg [] f = tt
first_fits reg ([] ∷ others) f = first_fits reg others f.1
first_fits reg ((r ∷ rows) ∷ others) f = f.0

EachFits-append : (reg : Register) (all others : List (List Row)) → EachFits reg all → EachFits reg others → EachFits reg (all ++ others)
EachFits-append reg [] others f g = g
EachFits-append reg (rows ∷ all) others f g = (f.0, EachFits-append reg all others f.1 g)

EachFits-map : (reg : Register) (rows : ℕ → List Row) → ((n : ℕ) → AllFit reg (rows n)) → (ns : List ℕ) → EachFits reg (map rows ns)
EachFits-map reg rows f [] = tt
EachFits-map reg rows f (n ∷ ns) = (f n, EachFits-map reg rows f ns)

drain_rows_fit : (net : Net) (reg : Register) → Agrees net reg → IsSane reg → AllFit reg (drain_rows net)
drain_rows_fit net reg h s =
    let returns = map (returns_all net) (binding_numbers net.head) in
    let passes = map (passes_all net) net.modules.order in
    first_fits reg (returns ++ (passes ++ empties_ring net ∷ []))
    (EachFits-append reg returns (passes ++ empties_ring net ∷ []) (EachFits-map reg (returns_all net) (λ b. returns_fit net reg b h) (binding_numbers net.head))
    (EachFits-append reg passes (empties_ring net ∷ []) (EachFits-map reg (passes_all net) (λ f. passes_fit net reg f h) net.modules.order) (ring_fits net reg h s, tt)))

drained_fits : (reg : Register) (rows : List Row) → AllFit reg rows → FitOutcome reg (drained rows)
drained_fits reg [] f = tt
drained_fits reg (r ∷ rows) f = f

pub drain_fits : (net : Net) (reg : Register) (keeps : Bool) → Agrees net reg → IsSane reg → FitOutcome reg (drain_outcome net keeps)
drain_fits net reg keeps h s =
    by_test (FitOutcome reg) (is_pump_moving net) _ _ (λ _. pump_fits net reg keeps h s) (λ _. drained_fits reg (drain_rows net) (drain_rows_fit net reg h s))
