-- The order after each event has at most as many filters as a stack may have.
use Rattle.std.proofs.Common.{◌≡◌, ℕ, ◌+◌, ◌-◌, ◌≤◌, ◌==◌, ◌||◌, Bool, true, false, List, [], ◌∷◌, ◌++◌, length, map, refl, arith, ap, sym, subst}
use Rattle.std.proofs.lemmas.Bool.Decides.{nat_tests}
use Rattle.std.proofs.lemmas.List.{length-map}
use Rattle.ndis_base.specs.declared.FilterKind.{FilterKind}
use Rattle.ndis_base.specs.declared.ModuleId.TheVariants.{Miniport, Filter}
use Rattle.ndis_base.specs.declared.ModuleState.TheVariants as state
use Rattle.ndis_base.specs.declared.Phase.TheVariants as phase
use Rattle.journal_types.specs.declared.Event.{Event}
use Rattle.journal_types.specs.declared.Event.TheVariants as event
use Rattle.journal_types.specs.declared.PhaseOf.TheVariants as of
use Rattle.journal_types.specs.declared.Row.{Row}
use Rattle.journal_types.specs.declared.Row.TheVariants as row
use Rattle.journal_types.specs.declared.Setup.{Setup}
use Rattle.journal_types.specs.declared.Turn.{Turn}
use Rattle.stack_rules.specs.declared.Choice.{Choice}
use Rattle.stack_rules.specs.Tests.{phase_is_halted, phase_is_paused, phase_is_running, phase_is_pausing, phase_is_restarting}
use Rattle.stack_rules.specs.Net.{Net, Modules, start, after, after_rows, after_turn, after_turns}
use Rattle.stack_rules.specs.Outcome.{Outcome, config_no, max_filters}
use Rattle.stack_rules.specs.Places.{outstanding}
use Rattle.stack_rules.specs.Pauses.{binding_ids, live_items, halt_items, state_rows, initialize_rows, state_row, halt_rows, initialize_outcome, begin_outcome, pause_outcome, first_unpaused, paused_rows, restart_outcome, restart_rows, running_floors, halt_outcome}
use Rattle.stack_rules.specs.Rewires.{is_in, is_bad_position, swapped, insert_outcome, remove_outcome, replace_outcome}
use Rattle.stack_rules.specs.Sound.{outcome, SoundFrom}
use Rattle.state_laws.proofs.Rows.{by_test, after_rows-append}
use Rattle.state_laws.proofs.Quiet.{is_plain}
use Rattle.state_laws.proofs.Events.{state_after, plain_same, turn_is}
use Rattle.request_laws.proofs.Rows.{AreStill, still_rows}
use Rattle.request_laws.proofs.Phases.{state_rows_still, paused_still, restart_still}
use Rattle.order_laws.specs.Orders.{EachOrderFits}
use Rattle.order_laws.proofs.Lists.{length-insert, length-but}

-- as many filters as a stack may have, or fewer
abbrev Fits : Net → Type 0
Fits net = length net.modules.order ≤ 16

fits_by : (net next : Net) → next.modules.order ≡ net.modules.order → Fits net → Fits next
fits_by net next e h = subst (λ fs. length fs ≤ 16) (sym e) h

-- rows without a configuration
still_order : (net : Net) (rows : List Row) → AreStill rows → (after_rows net rows).modules.order ≡ net.modules.order
still_order net rows q = (still_rows net rows q).order

still_fits : (net : Net) (rows : List Row) → AreStill rows → Fits net → Fits (after_rows net rows)
still_fits net rows q h = fits_by net (after_rows net rows) (still_order net rows q) h

fits_initialize : (net : Net) (refuses : Bool) → Fits net → Fits (state_after net event.Initialize (initialize_outcome net refuses))
fits_initialize net refuses h =
    let K : Outcome → Type 0 = λ o. Fits (state_after net event.Initialize o) in
    by_test K (phase_is_halted net.phase) _ _ (λ _. by_test K refuses _ _ (λ _. h) (λ _. none)) (λ _. h)
  where
    none : Fits (after_rows net (initialize_rows net))
    none =
        let states : List Row = state_rows (state.Opening ∷ state.Paused ∷ []) (binding_ids 0 net.modules.bindings) in
        subst Fits (sym (after_rows-append (after net (state_row state.Paused Miniport)) states (row.Phase (of.Stack phase.Paused) ∷ row.Config (config_no 1) [] ∷ []))) (omega arith)

fits_begin : (net : Net) → Fits net → Fits (state_after net event.BeginPause (begin_outcome net))
fits_begin net h =
    by_test (λ o. Fits (state_after net event.BeginPause o)) (phase_is_running net.phase) _ _
    (λ _. still_fits net (row.Phase (of.Stack phase.Pausing) ∷ state_rows (state.Pausing ∷ []) (binding_ids 0 net.modules.bindings)) (refl, state_rows_still (state.Pausing ∷ []) (binding_ids 0 net.modules.bindings)) h)
    (λ _. h)

fits_pause : (net : Net) → Fits net → Fits (state_after net event.PauseNext (pause_outcome net))
fits_pause net h =
    let K : Outcome → Type 0 = λ o. Fits (state_after net event.PauseNext o) in
    by_test K (phase_is_pausing net.phase) _ _
    (λ _. by_test K (outstanding net (first_unpaused net) == 0) _ _ (λ _. still_fits net (paused_rows net (first_unpaused net)) (paused_still net (first_unpaused net)) h) (λ _. h))
    (λ _. h)

fits_restart : (net : Net) → Fits net → Fits (state_after net event.RestartNext (restart_outcome net))
fits_restart net h =
    by_test (λ o. Fits (state_after net event.RestartNext o)) (phase_is_paused net.phase || phase_is_restarting net.phase) _ _
    (λ _. still_fits net (restart_rows net (running_floors net)) (restart_still net (running_floors net)) h)
    (λ _. h)

fits_halt : (net : Net) → Fits net → Fits (state_after net event.Halt (halt_outcome net))
fits_halt net h =
    let K : Outcome → Type 0 = λ o. Fits (state_after net event.Halt o) in
    by_test K (phase_is_paused net.phase) _ _ (λ _. by_test K (halt_items net == 0) _ _ (λ _. halted) (λ _. h)) (λ _. h)
  where
    halted : Fits (after_rows net (halt_rows net))
    halted =
        let unbound : List Row = state_rows (state.Closing ∷ state.Unbound ∷ []) (binding_ids 0 net.modules.bindings) in
        let detached : List Row = state_rows (state.Detached ∷ []) (map Filter net.modules.order) in
        let last : List Row = state_row state.Halted Miniport ∷ row.Phase (of.Stack phase.Halted) ∷ [] in
        let one : Net = after_rows net unbound in
        let two : Net = after_rows one detached in
        let still : Fits two = still_fits one detached (state_rows_still (state.Detached ∷ []) (map Filter net.modules.order)) (still_fits net unbound (state_rows_still (state.Closing ∷ state.Unbound ∷ []) (binding_ids 0 net.modules.bindings)) h) in
        subst Fits (sym (after_rows-append net unbound (detached ++ last))) (subst Fits (sym (after_rows-append one detached last)) still)

fits_insert : (net : Net) (kind : FilterKind) (position : ℕ) (setup : Setup) (c : Choice) → Fits net → Fits (state_after net (event.Insert kind position setup) (insert_outcome net position c))
fits_insert net kind position setup c h =
    let K : Outcome → Type 0 = λ o. Fits (state_after net (event.Insert kind position setup) o) in
    by_test K (phase_is_paused net.phase) _ _
    (λ _. by_test K (live_items net == 0) _ _
    (λ _. by_test K (length net.modules.order == max_filters net.head) _ _ (λ _. h)
    (λ t. by_test K (is_bad_position net position) _ _ (λ _. h)
    (λ _. by_test K c.shelf_empty _ _ (λ _. h)
    (λ _. by_test K c.refuses _ _ (λ _. h)
    (λ _. subst (λ n. n ≤ 16) (sym (length-insert net.next.filter (position - 1) net.modules.order)) (room (length net.modules.order) h t))))))
    (λ _. h))
    (λ _. h)
  where
    room : (n : ℕ) → n ≤ 16 → (n == 16) ≡ false → n + 1 ≤ 16
    room n h t = grind (arith, nat_tests)

fits_remove : (net : Net) (f : ℕ) → Fits net → Fits (state_after net (event.Remove f) (remove_outcome net f))
fits_remove net f h =
    let K : Outcome → Type 0 = λ o. Fits (state_after net (event.Remove f) o) in
    by_test K (phase_is_paused net.phase) _ _
    (λ _. by_test K (live_items net == 0) _ _
    (λ _. by_test K (is_in f net.modules.order) _ _ (λ _. let less = length-but f net.modules.order in omega (arith, less, h)) (λ _. h))
    (λ _. h))
    (λ _. h)

fits_replace : (net : Net) (old : ℕ) (kind : FilterKind) (setup : Setup) (c : Choice) → Fits net → Fits (state_after net (event.Replace old kind setup) (replace_outcome net old c))
fits_replace net old kind setup c h =
    let K : Outcome → Type 0 = λ o. Fits (state_after net (event.Replace old kind setup) o) in
    by_test K (phase_is_paused net.phase) _ _
    (λ _. by_test K (live_items net == 0) _ _
    (λ _. by_test K (is_in old net.modules.order) _ _
    (λ _. by_test K c.shelf_empty _ _ (λ _. h)
    (λ _. by_test K c.refuses _ _ (λ _. h)
    (λ _. subst (λ n. n ≤ 16) (sym (length-map net.modules.order (swapped old net.next.filter))) h)))
    (λ _. h))
    (λ _. h))
    (λ _. h)

-- an event that initialises, pauses, restarts, halts or rewires
change_fits : (net : Net) (e : Event) (c : Choice) → is_plain e ≡ false → Fits net → Fits (state_after net e (outcome net e c))
change_fits net event.Initialize c p h = fits_initialize net c.refuses h
change_fits net (event.Insert kind position setup) c p h = fits_insert net kind position setup c h
change_fits net (event.Remove f) c p h = fits_remove net f h
change_fits net (event.Replace old kind setup) c p h = fits_replace net old kind setup c h
change_fits net event.BeginPause c p h = fits_begin net h
change_fits net event.PauseNext c p h = fits_pause net h
change_fits net event.RestartNext c p h = fits_restart net h
change_fits net event.Halt c p h = fits_halt net h
change_fits net _ c p h = cc

event_fits : (net : Net) (e : Event) (c : Choice) → Fits net → Fits (state_after net e (outcome net e c))
event_fits net e c h =
    let cases : (b : Bool) → is_plain e ≡ b → Fits (state_after net e (outcome net e c)) = elim [
      | true ↦ λ p. fits_by net (state_after net e (outcome net e c)) (ap (λ (ms : Modules). ms.order) (plain_same net e c p).modules) h
      | false ↦ λ p. change_fits net e c p h
    ] in
    cases (is_plain e) refl

turns_fit : (net : Net) (turns : List Turn) → SoundFrom net turns → Fits net → Fits (after_turns net turns)
turns_fit net [] s h = h
turns_fit net (turn ∷ turns) s h = turns_fit (after_turn net turn) turns s.1 (subst Fits (sym (turn_is net turn s.0)) (event_fits net turn.event s.0.choice h))

pub each_order_fits : EachOrderFits
each_order_fits head turns s = turns_fit (start head) turns s (omega arith)
