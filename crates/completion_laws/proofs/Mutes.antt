-- Rows that tell nothing of requests: those of all events but an asking and the working of a request.
use Rattle.std.proofs.Common.{◌≡◌, ℕ, ◌==◌, ◌||◌, Bool, true, false, List, [], ◌∷◌, length, map, refl, ap, ◌∙◌}
use Rattle.ndis_base.specs.declared.ModuleId.{ModuleId}
use Rattle.ndis_base.specs.declared.ModuleId.TheVariants.{Filter}
use Rattle.ndis_base.specs.declared.ModuleState.{ModuleState}
use Rattle.ndis_base.specs.declared.ModuleState.TheVariants as state
use Rattle.journal_types.specs.declared.Event.{Event}
use Rattle.journal_types.specs.declared.Event.TheVariants as event
use Rattle.journal_types.specs.declared.OutWay.TheVariants as out
use Rattle.journal_types.specs.declared.PhaseOf.TheVariants as of
use Rattle.journal_types.specs.declared.Reply.{Reply}
use Rattle.journal_types.specs.declared.Reply.TheVariants as reply
use Rattle.journal_types.specs.declared.Row.{Row}
use Rattle.journal_types.specs.declared.Row.TheVariants as row
use Rattle.stack_rules.specs.declared.Choice.{Choice}
use Rattle.stack_rules.specs.declared.Thing.{Thing}
use Rattle.stack_rules.specs.declared.Thing.TheVariants as thing
use Rattle.stack_rules.specs.Tests.{phase_is_halted, phase_is_paused, phase_is_restarting, phase_is_running, phase_is_pausing}
use Rattle.stack_rules.specs.Net.{Net, told, after, after_rows, had_by, taken_by, without_status}
use Rattle.stack_rules.specs.Outcome.{Outcome, max_filters}
use Rattle.stack_rules.specs.Places.{outstanding}
use Rattle.stack_rules.specs.Pauses.{binding_ids, live_items, halt_items, state_rows, initialize_outcome, begin_outcome, pause_outcome, first_unpaused, paused_rows, restart_outcome, restart_rows, running_floors, halt_outcome}
use Rattle.stack_rules.specs.Sound.{outcome}
use Rattle.stack_rules.specs.Rewires.{is_in, is_bad_position, insert_outcome, remove_outcome, replace_outcome}
use Rattle.state_laws.proofs.Rows.{by_test, is_calm, AreCalm}
use Rattle.request_laws.proofs.Answers.{answered, answered-push, answered-without, answered-without_status, answered-changed, answered-kept, answered-passed}
use Rattle.request_laws.proofs.Rows.{is_still, AreStill}
use Rattle.request_laws.proofs.Phases.{state_rows_still, paused_still, restart_still}
use Rattle.completion_laws.proofs.Tells.{is_mute, AreMute, mute-append}

mute_still : (r : Row) → is_still r ≡ true → is_mute r ≡ true
mute_still (row.OidIssue request parent binding kind code value) h = cc
mute_still (row.OidGive request m) h = cc
mute_still (row.OidDone request status value) h = cc
mute_still _ h = refl

still_mute : (rows : List Row) → AreStill rows → AreMute rows
still_mute [] h = tt
still_mute (r ∷ rows) h = (mute_still r h.0, still_mute rows h.1)

mute_calm : (r : Row) → is_calm r ≡ true → is_mute r ≡ true
mute_calm (row.OidIssue request parent binding kind code value) h = cc
mute_calm (row.OidGive request m) h = cc
mute_calm (row.OidDone request status value) h = cc
mute_calm _ h = refl

pub calm_mute : (rows : List Row) → AreCalm rows → AreMute rows
calm_mute [] h = tt
calm_mute (r ∷ rows) h = (mute_calm r h.0, calm_mute rows h.1)

states_mute : (ss : List ModuleState) (ms : List ModuleId) → AreMute (state_rows ss ms)
states_mute ss ms = still_mute (state_rows ss ms) (state_rows_still ss ms)

abbrev Mute : Outcome → Type 0
Mute o = AreMute o.rows

-- events that initialise, pause, restart, halt and rewire
mute_initialize : (net : Net) (refuses : Bool) → Mute (initialize_outcome net refuses)
mute_initialize net refuses =
    by_test Mute (phase_is_halted net.phase) _ _
    (λ _. by_test Mute refuses _ _ (λ _. tt)
    (λ _. (refl, mute-append (state_rows (state.Opening ∷ state.Paused ∷ []) (binding_ids 0 net.modules.bindings)) _ (states_mute (state.Opening ∷ state.Paused ∷ []) (binding_ids 0 net.modules.bindings)) (refl, (refl, tt)))))
    (λ _. tt)

mute_begin : (net : Net) → Mute (begin_outcome net)
mute_begin net = by_test Mute (phase_is_running net.phase) _ _ (λ _. (refl, states_mute (state.Pausing ∷ []) (binding_ids 0 net.modules.bindings))) (λ _. tt)

mute_pause : (net : Net) → Mute (pause_outcome net)
mute_pause net =
    by_test Mute (phase_is_pausing net.phase) _ _
    (λ _. by_test Mute (outstanding net (first_unpaused net) == 0) _ _ (λ _. still_mute (paused_rows net (first_unpaused net)) (paused_still net (first_unpaused net))) (λ _. tt))
    (λ _. tt)

mute_restart : (net : Net) → Mute (restart_outcome net)
mute_restart net =
    by_test Mute (phase_is_paused net.phase || phase_is_restarting net.phase) _ _
    (λ _. still_mute (restart_rows net (running_floors net)) (restart_still net (running_floors net))) (λ _. tt)

mute_halt : (net : Net) → Mute (halt_outcome net)
mute_halt net =
    by_test Mute (phase_is_paused net.phase) _ _
    (λ _. by_test Mute (halt_items net == 0) _ _
    (λ _. mute-append (state_rows (state.Closing ∷ state.Unbound ∷ []) (binding_ids 0 net.modules.bindings)) _ (states_mute (state.Closing ∷ state.Unbound ∷ []) (binding_ids 0 net.modules.bindings))
    (mute-append (state_rows (state.Detached ∷ []) (map Filter net.modules.order)) _ (states_mute (state.Detached ∷ []) (map Filter net.modules.order)) (refl, (refl, tt))))
    (λ _. tt))
    (λ _. tt)

mute_insert : (net : Net) (position : ℕ) (c : Choice) → Mute (insert_outcome net position c)
mute_insert net position c =
    by_test Mute (phase_is_paused net.phase) _ _
    (λ _. by_test Mute (live_items net == 0) _ _
    (λ _. by_test Mute (length net.modules.order == max_filters net.head) _ _ (λ _. tt)
    (λ _. by_test Mute (is_bad_position net position) _ _ (λ _. tt)
    (λ _. by_test Mute c.shelf_empty _ _ (λ _. tt)
    (λ _. by_test Mute c.refuses _ _ (λ _. tt)
    (λ _. (refl, (refl, (refl, tt))))))))
    (λ _. tt))
    (λ _. tt)

mute_remove : (net : Net) (f : ℕ) → Mute (remove_outcome net f)
mute_remove net f =
    by_test Mute (phase_is_paused net.phase) _ _
    (λ _. by_test Mute (live_items net == 0) _ _
    (λ _. by_test Mute (is_in f net.modules.order) _ _ (λ _. (refl, (refl, tt))) (λ _. tt))
    (λ _. tt))
    (λ _. tt)

mute_replace : (net : Net) (old : ℕ) (c : Choice) → Mute (replace_outcome net old c)
mute_replace net old c =
    by_test Mute (phase_is_paused net.phase) _ _
    (λ _. by_test Mute (live_items net == 0) _ _
    (λ _. by_test Mute (is_in old net.modules.order) _ _
    (λ _. by_test Mute c.shelf_empty _ _ (λ _. tt)
    (λ _. by_test Mute c.refuses _ _ (λ _. tt) (λ _. (refl, (refl, (refl, (refl, tt)))))))
    (λ _. tt))
    (λ _. tt))
    (λ _. tt)

-- the event changes modules
abbrev pub is_change : Event → Bool
is_change event.Initialize = true
is_change (event.Insert kind position setup) = true
is_change (event.Remove f) = true
is_change (event.Replace old kind setup) = true
is_change event.BeginPause = true
is_change event.PauseNext = true
is_change event.RestartNext = true
is_change event.Halt = true
is_change _ = false

pub mute_change : (net : Net) (e : Event) (c : Choice) → is_change e ≡ true → AreMute (outcome net e c).rows
mute_change net event.Initialize c h = mute_initialize net c.refuses
mute_change net (event.Insert kind position setup) c h = mute_insert net position c
mute_change net (event.Remove f) c h = mute_remove net f
mute_change net (event.Replace old kind setup) c h = mute_replace net old c
mute_change net event.BeginPause c h = mute_begin net
mute_change net event.PauseNext c h = mute_pause net
mute_change net event.RestartNext c h = mute_restart net
mute_change net event.Halt c h = mute_halt net
mute_change net _ c h = cc

-- the requests, their answers and their next number are the same
pub record AsksAlike (net next : Net) : Type 0 where
  pub requests : next.requests ≡ net.requests
  pub answers : answered next.things ≡ answered net.things
  pub number : next.next.request ≡ net.next.request

alike_then : (a b c : Net) → AsksAlike a b → AsksAlike b c → AsksAlike a c
alike_then a b c h k = record { requests = k.requests ∙ h.requests; answers = k.answers ∙ h.answers; number = k.number ∙ h.number }

pub told_alike : (net : Net) (e : Event) (r : Reply) → AsksAlike net (told net e r)
told_alike net (event.Insert kind position setup) (reply.Inserted f) = record { requests = refl; answers = refl; number = refl }
told_alike net (event.Replace old kind setup) (reply.Replaced f) = record { requests = refl; answers = refl; number = refl }
told_alike net (event.CrossTakeUp binding vlan) (reply.Taken message frames) = record { requests = refl; answers = refl; number = refl }
told_alike net e r = record { requests = refl; answers = refl; number = refl }

things_only : (net next : Net) (things : List Thing) → answered things ≡ answered net.things → next.things ≡ things → next.requests ≡ net.requests → next.next.request ≡ net.next.request → AsksAlike net next
things_only net next things a t r n = record { requests = r; answers = ap answered t ∙ a; number = n }

mute_row : (net : Net) (r : Row) → is_mute r ≡ true → AsksAlike net (after net r)
mute_row net (row.Issue list owner config direction cancel origin frames) q =
    things_only net (after net (row.Issue list owner config direction cancel origin frames)) _ (answered-push net.things _ refl) refl refl refl
mute_row net (row.Give list m handler) q = things_only net (after net (row.Give list m handler)) _ (answered-changed list.0 (had_by m) net.things) refl refl refl
mute_row net (row.Pass list way to) q = things_only net (after net (row.Pass list way to)) _ (answered-passed list.0 way to net.things) refl refl refl
mute_row net (row.Keep list m) q = things_only net (after net (row.Keep list m)) _ (answered-kept list.0 m net.things) refl refl refl
mute_row net (row.TurnBack list m status) q = things_only net (after net (row.TurnBack list m status)) _ (answered-changed list.0 (had_by m) net.things) refl refl refl
mute_row net (row.Home list owner status) q = things_only net (after net (row.Home list owner status)) _ (answered-without list.0 net.things) refl refl refl
mute_row net (row.Wire list frames) q = record { requests = refl; answers = refl; number = refl }
mute_row net (row.Deliver list binding how frames) q = record { requests = refl; answers = refl; number = refl }
mute_row net (row.Phase (of.Module m s)) q = record { requests = refl; answers = refl; number = refl }
mute_row net (row.Phase (of.Stack p)) q = record { requests = refl; answers = refl; number = refl }
mute_row net (row.Config config filters) q = record { requests = refl; answers = refl; number = refl }
mute_row net (row.OidIssue request parent binding kind code value) q = cc
mute_row net (row.OidGive request m) q = cc
mute_row net (row.OidDone request status value) q = cc
mute_row net (row.Status number name to) q =
    things_only net (after net (row.Status number name to)) _ (answered-push (without_status number.0 net.things) (thing.Status (record { number = number; name = name; to = to })) refl ∙ answered-without_status number.0 net.things) refl refl refl
mute_row net (row.Seen number m) q = things_only net (after net (row.Seen number m)) _ (answered-without_status number.0 net.things) refl refl refl
mute_row net (row.CrossOut message (out.Down list) frames) q =
    things_only net (after net (row.CrossOut message (out.Down list) frames)) _ (answered-changed list.0 (taken_by message.0) net.things) refl refl refl
mute_row net (row.CrossOut message out.Up frames) q = record { requests = refl; answers = refl; number = refl }
mute_row net (row.CrossIn stack message way frames) q = record { requests = refl; answers = refl; number = refl }

mute_rows : (net : Net) (rows : List Row) → AreMute rows → AsksAlike net (after_rows net rows)
mute_rows net [] q = record { requests = refl; answers = refl; number = refl }
mute_rows net (r ∷ rows) q = alike_then net (after net r) (after_rows (after net r) rows) (mute_row net r q.0) (mute_rows (after net r) rows q.1)

pub mute_after : (net : Net) (e : Event) (r : Reply) (rows : List Row) → AreMute rows → AsksAlike net (after_rows (told net e r) rows)
mute_after net e r rows h = alike_then net (told net e r) (after_rows (told net e r) rows) (told_alike net e r) (mute_rows (told net e r) rows h)
