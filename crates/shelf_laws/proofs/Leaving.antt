-- Rows that detach no filter leave the shelf.
use Rattle.std.proofs.Common.{◌≡◌, ◌==◌, ◌||◌, ◌+◌, nat_lt, length, reverse, slice_index_or, Bool, true, false, List, [], ◌∷◌, ◌++◌, refl, ap, ◌∙◌, if◌then◌else◌}
use Rattle.ndis_base.specs.declared.ModuleId.{ModuleId}
use Rattle.ndis_base.specs.declared.ModuleId.TheVariants.{Miniport, Filter, Binding}
use Rattle.ndis_base.specs.declared.ModuleState.{ModuleState}
use Rattle.ndis_base.specs.declared.ModuleState.TheVariants as state
use Rattle.ndis_base.specs.declared.Phase.TheVariants as phase
use Rattle.journal_types.specs.declared.Event.TheVariants as event
use Rattle.journal_types.specs.declared.PhaseOf.TheVariants as of
use Rattle.journal_types.specs.declared.Row.{Row}
use Rattle.journal_types.specs.declared.Row.TheVariants as row
use Rattle.stack_rules.specs.Net.{Net, is_detached}
use Rattle.stack_rules.specs.Outcome.{Outcome, config_no}
use Rattle.stack_rules.specs.Pauses.{state_row, state_rows, initialize_outcome, begin_outcome, pause_outcome, restart_outcome, first_unpaused, running_floors, is_top, floors, binding_ids}
use Rattle.stack_rules.specs.Places.{outstanding}
use Rattle.stack_rules.specs.Sound.{outcome}
use Rattle.stack_rules.specs.Tests.{phase_is_halted, phase_is_running, phase_is_pausing, phase_is_paused, phase_is_restarting}
use Rattle.promise_rules.specs.Drivers.{Shelf, shelf_at, shelf_in_rows}
use Rattle.state_laws.proofs.Rows.{by_test, is_quiet, AreQuiet}
use Rattle.state_laws.proofs.Quiet.{quiet_event}
use Rattle.shelf_laws.specs.Shelves.{LeavesShelf, EachLeavesShelf}

-- a quiet row
row_leaves : (r : Row) → is_quiet r ≡ true → (shelf : Shelf) → shelf_at r shelf ≡ shelf
row_leaves (row.Issue list owner config direction cancel origin frames) q shelf = refl
row_leaves (row.Give list m handler) q shelf = refl
row_leaves (row.TurnBack list m status) q shelf = refl
row_leaves (row.Pass list way to) q shelf = refl
row_leaves (row.Keep list m) q shelf = refl
row_leaves (row.Home list owner status) q shelf = refl
row_leaves (row.Wire list frames) q shelf = refl
row_leaves (row.Deliver list binding how frames) q shelf = refl
row_leaves (row.Phase whose) q shelf = absurd cc
row_leaves (row.Config config filters) q shelf = absurd cc
row_leaves (row.OidIssue request parent binding kind code value) q shelf = refl
row_leaves (row.OidGive request m) q shelf = refl
row_leaves (row.OidDone request status value) q shelf = refl
row_leaves (row.Status number name to) q shelf = refl
row_leaves (row.Seen number m) q shelf = refl
row_leaves (row.CrossOut message way frames) q shelf = refl
row_leaves (row.CrossIn stack message way frames) q shelf = refl

quiet_leave : (rows : List Row) → AreQuiet rows → LeavesShelf rows
quiet_leave [] q shelf = refl
quiet_leave (r ∷ rows) q shelf = ap (shelf_in_rows rows) (row_leaves r q.0 shelf) ∙ quiet_leave rows q.1 shelf

-- a state of a module, but Detached
state_leaves : (s : ModuleState) → is_detached s ≡ false → (m : ModuleId) (shelf : Shelf) → shelf_at (state_row s m) shelf ≡ shelf
state_leaves s other Miniport shelf = refl
state_leaves s other (Binding b) shelf = refl
state_leaves state.Halted other (Filter f) shelf = refl
state_leaves state.Detached other (Filter f) shelf = absurd cc
state_leaves state.Attaching other (Filter f) shelf = refl
state_leaves state.Unbound other (Filter f) shelf = refl
state_leaves state.Opening other (Filter f) shelf = refl
state_leaves state.Closing other (Filter f) shelf = refl
state_leaves state.Paused other (Filter f) shelf = refl
state_leaves state.Restarting other (Filter f) shelf = refl
state_leaves state.Running other (Filter f) shelf = refl
state_leaves state.Pausing other (Filter f) shelf = refl

one_leaves : (s : ModuleState) → is_detached s ≡ false → (ms : List ModuleId) (more : List Row) → LeavesShelf more → LeavesShelf (state_rows (s ∷ []) ms ++ more)
one_leaves s other [] more l shelf = l shelf
one_leaves s other (m ∷ ms) more l shelf = ap (shelf_in_rows (state_rows (s ∷ []) ms ++ more)) (state_leaves s other m shelf) ∙ one_leaves s other ms more l shelf

two_leave : (q s : ModuleState) → is_detached q ≡ false → is_detached s ≡ false → (ms : List ModuleId) (more : List Row) → LeavesShelf more → LeavesShelf (state_rows (q ∷ s ∷ []) ms ++ more)
two_leave q s qs ss [] more l shelf = l shelf
two_leave q s qs ss (m ∷ ms) more l shelf =
    ap (λ x. shelf_in_rows (state_rows (q ∷ s ∷ []) ms ++ more) (shelf_at (state_row s m) x)) (state_leaves q qs m shelf)
    ∙ ap (shelf_in_rows (state_rows (q ∷ s ∷ []) ms ++ more)) (state_leaves s ss m shelf)
    ∙ two_leave q s qs ss ms more l shelf

one_leaves_all : (s : ModuleState) → is_detached s ≡ false → (ms : List ModuleId) → LeavesShelf (state_rows (s ∷ []) ms)
one_leaves_all s other [] shelf = refl
one_leaves_all s other (m ∷ ms) shelf = ap (shelf_in_rows (state_rows (s ∷ []) ms)) (state_leaves s other m shelf) ∙ one_leaves_all s other ms shelf

abbrev Leaves : Outcome → Type 0
Leaves o = LeavesShelf o.rows

initialize_leaves : (net : Net) (refuses : Bool) → Leaves (initialize_outcome net refuses)
initialize_leaves net refuses =
    by_test Leaves (phase_is_halted net.phase) _ _
    (λ _. by_test Leaves refuses _ _ (λ _. λ shelf. refl) (λ _. λ shelf. two_leave state.Opening state.Paused refl refl (binding_ids 0 net.modules.bindings) (row.Phase (of.Stack phase.Paused) ∷ row.Config (config_no 1) [] ∷ []) (λ s. refl) shelf))
    (λ _. λ shelf. refl)

begin_leaves : (net : Net) → Leaves (begin_outcome net)
begin_leaves net = by_test Leaves (phase_is_running net.phase) _ _ (λ _. λ shelf. one_leaves_all state.Pausing refl (binding_ids 0 net.modules.bindings) shelf) (λ _. λ shelf. refl)

pause_leaves : (net : Net) → Leaves (pause_outcome net)
pause_leaves net =
    by_test Leaves (phase_is_pausing net.phase) _ _
    (λ _. by_test Leaves (outstanding net (first_unpaused net) == 0) _ _
    (λ _. one_leaves state.Paused refl (slice_index_or (floors net.modules) (first_unpaused net) []) _
    (by_test LeavesShelf (nat_lt (first_unpaused net + 1) (length (floors net.modules))) _ _
    (λ _. one_leaves_all state.Pausing refl (slice_index_or (floors net.modules) (first_unpaused net + 1) [])) (λ _. λ shelf. refl)))
    (λ _. λ shelf. refl))
    (λ _. λ shelf. refl)

told_leaves : (b : Bool) (more : List Row) → LeavesShelf more → LeavesShelf ((if b then row.Phase (of.Stack phase.Restarting) ∷ [] else []) ++ more)
told_leaves true more l shelf = l shelf
told_leaves false more l shelf = l shelf

restart_leaves : (net : Net) → Leaves (restart_outcome net)
restart_leaves net =
    by_test Leaves (phase_is_paused net.phase || phase_is_restarting net.phase) _ _
    (λ _. told_leaves (phase_is_paused net.phase) _
    (two_leave state.Restarting state.Running refl refl (slice_index_or (reverse (floors net.modules)) (running_floors net) []) _ (by_test LeavesShelf (is_top net (running_floors net)) _ _ (λ _. λ shelf. refl) (λ _. λ shelf. refl))))
    (λ _. λ shelf. refl)

pub each_leaves : EachLeavesShelf
each_leaves net event.Initialize c answer kinds shelf other = initialize_leaves net c.refuses shelf
each_leaves net event.BeginPause c answer kinds shelf other = begin_leaves net shelf
each_leaves net event.PauseNext c answer kinds shelf other = pause_leaves net shelf
each_leaves net event.RestartNext c answer kinds shelf other = restart_leaves net shelf
each_leaves net (event.Insert kind position setup) c answer kinds shelf other = absurd cc
each_leaves net (event.Remove filter) c answer kinds shelf other = absurd cc
each_leaves net (event.Replace filter kind setup) c answer kinds shelf other = absurd cc
each_leaves net event.Halt c answer kinds shelf other = absurd cc
each_leaves net e c answer kinds shelf other = quiet_leave (outcome net e c).rows (quiet_event net e c refl) shelf
