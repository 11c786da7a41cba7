-- Cancels and drains: several lists move in one turn.
use Rattle.std.proofs.Common.{◌≡◌, ℕ, List, [], ◌∷◌, ◌++◌, Option, Some, None, map, refl, arith, sym, subst}
use Rattle.std.specs.List.{flat_map}
use Rattle.ndis_base.specs.declared.ModuleId.{ModuleId}
use Rattle.ndis_base.specs.declared.ModuleId.TheVariants.{Miniport, Filter, Binding}
use Rattle.ndis_base.specs.declared.ListStatus.TheVariants.{Success, Paused, Aborted}
use Rattle.journal_types.specs.declared.Row.{Row}
use Rattle.stack_rules.specs.declared.LiveList.{LiveList}
use Rattle.stack_rules.specs.Tests.{is_down, is_retain, is_virtual, phase_is_running}
use Rattle.stack_rules.specs.Heads.{kind_of_binding, binding_numbers}
use Rattle.stack_rules.specs.Net.{Net, after, after_rows}
use Rattle.stack_rules.specs.Places.{position, ready_lists}
use Rattle.stack_rules.specs.Sends.{first_of}
use Rattle.stack_rules.specs.Cancels.{cancel_outcome, cancel_rows_at, cancelled_at, aborted, queues, is_named, is_hold_filter}
use Rattle.stack_rules.specs.Drains.{returned_by, returns_all, passed_by, passes_all, empties, empties_ring, drain_rows, drained}
use Rattle.rule_basics.specs.Live.{Each}
use Rattle.state_laws.proofs.Rows.{by_test, after_rows-append}
use Rattle.state_laws.proofs.Calm.{All-append, All-map, first_of_all}
use Rattle.pause_laws.proofs.Works.{each_first}
use Rattle.pause_laws.proofs.Keepers.{each_of}
use Rattle.place_laws.proofs.Good.{IsPast, StandsAt}
use Rattle.place_laws.proofs.Routes.{home_from, back_from, on_from}
use Rattle.place_laws.proofs.Keepers.{Going, Facts, IsReady, ready_all}
use Rattle.place_laws.proofs.Clones.{Leaves}
use Rattle.place_laws.proofs.Sends.{begins, transmitted_leaves}

-- the lists one after the other
steps_map : (Q : Net → Type 0) (R : LiveList → Type 0) (row_of : LiveList → Row) → ((next : Net) (l : LiveList) → R l → Q next → Q (after next (row_of l))) → (ls : List LiveList) (next : Net) → Each R ls → Q next → Q (after_rows next (map row_of ls))
steps_map Q R row_of step [] next h q = q
steps_map Q R row_of step (l ∷ ls) next h q = steps_map Q R row_of step ls (after next (row_of l)) h.1 (step next l h.0 q)

steps_lists : (Q : Net → Type 0) (R : LiveList → Type 0) (rows_of : LiveList → List Row) → ((next : Net) (l : LiveList) → R l → Q next → Q (after_rows next (rows_of l))) → (ls : List LiveList) (next : Net) → Each R ls → Q next → Q (after_rows next (flat_map rows_of ls))
steps_lists Q R rows_of step [] next h q = q
steps_lists Q R rows_of step (l ∷ ls) next h q =
    subst Q (sym (after_rows-append next (rows_of l) (flat_map rows_of ls))) (steps_lists Q R rows_of step ls (after_rows next (rows_of l)) h.1 (step next l h.0 q))

steps_modules : (Q : Net → Type 0) (rows_of : ModuleId → List Row) → ((next : Net) (m : ModuleId) → Q next → Q (after_rows next (rows_of m))) → (ms : List ModuleId) (next : Net) → Q next → Q (after_rows next (flat_map rows_of ms))
steps_modules Q rows_of step [] next q = q
steps_modules Q rows_of step (m ∷ ms) next q =
    subst Q (sym (after_rows-append next (rows_of m) (flat_map rows_of ms))) (steps_modules Q rows_of step ms (after_rows next (rows_of m)) (step next m q))

-- a cancel
pub cancel_leaves : (net : Net) → Facts net → (id : ℕ) → Leaves net (cancel_outcome net id).rows
cancel_leaves net facts id =
    let all : Going net (after_rows net (flat_map (cancel_rows_at net id) (queues net.modules))) =
    steps_modules (Going net) (cancel_rows_at net id)
    (λ next m q. steps_lists (Going net) (IsReady net m) (aborted net m) (λ later l r g. back_from net.modules (is_virtual net.head.kind) facts.distinct net later l m Aborted r.free g) (cancelled_at net id m) next
    (each_of (IsReady net m) (is_named id) (ready_lists net m) (ready_all net m facts.apart)) q)
    (queues net.modules) net (begins net facts) in
    all.now

-- what a binding returns
returns_leaves : (net : Net) → Facts net → (b : ℕ) → Leaves net (returns_all net b)
returns_leaves net facts b =
    by_test (Leaves net) (is_retain (kind_of_binding net.head b)) _ _
    (λ _.
    let all : Going net (after_rows net (map (returned_by net) (ready_lists net (Binding b)))) =
    steps_map (Going net) (IsReady net (Binding b)) (returned_by net) (λ next l r g. home_from net.modules (is_virtual net.head.kind) facts.distinct net next l 0 Success r.free g) (ready_lists net (Binding b)) net (ready_all net (Binding b) facts.apart) (begins net facts) in
    all.now)
    (λ _. facts.good)

-- what a filter passes on
passes_step : (net next : Net) → Facts net → (f : ℕ) (l : LiveList) → IsReady net (Filter f) l → Going net next → Going net (after next (passed_by net f l))
passes_step net next facts f l r g =
    let past : IsPast net.modules.order (is_down l.direction) l.owner f = subst (StandsAt net.modules.order (is_down l.direction) l.owner) r.stand (facts.good.good.well l.list.0 l r.free.found).stands in
    on_from net.modules (is_virtual net.head.kind) facts.distinct net next l (position net.modules.order (Filter f)) r.free (λ t. omega (arith, past.sent t)) (λ t. omega (arith, past.risen t)) g

passes_leaves : (net : Net) → Facts net → (f : ℕ) → Leaves net (passes_all net f)
passes_leaves net facts f =
    by_test (Leaves net) (is_hold_filter net.modules f) _ _
    (λ _.
    let all : Going net (after_rows net (map (passed_by net f) (ready_lists net (Filter f)))) =
    steps_map (Going net) (IsReady net (Filter f)) (passed_by net f) (λ next l r g. passes_step net next facts f l r g) (ready_lists net (Filter f)) net (ready_all net (Filter f) facts.apart) (begins net facts) in
    all.now)
    (λ _. facts.good)

-- what the miniport's ring gives away
empties_leaves : (net : Net) → Facts net → (o : Option LiveList) → ((l : LiveList) → o ≡ Some l → IsReady net Miniport l) → Leaves net (empties net o)
empties_leaves net facts None w = facts.good
empties_leaves net facts (Some l) w =
    by_test (Leaves net) (is_virtual net.head.kind) _ _
    (λ _. by_test (Leaves net) (phase_is_running net.phase) _ _ (λ _. facts.good)
    (λ _. (back_from net.modules (is_virtual net.head.kind) facts.distinct net net l Miniport Paused (w l refl).free (begins net facts)).now))
    (λ _. transmitted_leaves net facts l (w l refl).free)

pub drained_leaves : (net : Net) → Facts net → Leaves net (drained (drain_rows net)).rows
drained_leaves net facts =
    moved (drain_rows net)
    (first_of_all (Leaves net) facts.good (map (returns_all net) (binding_numbers net.head) ++ (map (passes_all net) net.modules.order ++ empties_ring net ∷ []))
    (All-append (Leaves net) (map (returns_all net) (binding_numbers net.head)) _ (All-map (Leaves net) (returns_all net) (binding_numbers net.head) (returns_leaves net facts))
    (All-append (Leaves net) (map (passes_all net) net.modules.order) _ (All-map (Leaves net) (passes_all net) net.modules.order (passes_leaves net facts))
    (empties_leaves net facts (first_of (ready_lists net Miniport)) (λ l e. each_first (IsReady net Miniport) (ready_lists net Miniport) l (ready_all net Miniport facts.apart) e), tt))))
  where
    moved : (rows : List Row) → Leaves net rows → Leaves net (drained rows).rows
    moved [] h = h
    moved (r ∷ rows) h = h
