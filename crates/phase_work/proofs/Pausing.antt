-- A pause begins: the bindings of a running stack pause, and nobody is called.
use Rattle.std.proofs.Common.{◌≡◌, ℕ, ◌+◌, ◌≤◌, true, false, List, [], ◌∷◌, length, refl, sym, ap, ◌∙◌, subst, arith}
use Rattle.std.proofs.lemmas.Bool.{cond-true, cond-false}
use Rattle.ndis_base.specs.declared.ModuleId.{ModuleId}
use Rattle.ndis_base.specs.declared.ModuleId.TheVariants.{Binding}
use Rattle.ndis_base.specs.declared.ModuleState.{ModuleState}
use Rattle.ndis_base.specs.declared.ModuleState.TheVariants as state
use Rattle.ndis_base.specs.declared.Phase.{Phase}
use Rattle.ndis_base.specs.declared.Phase.TheVariants as phase
use Rattle.journal_types.specs.declared.Event.TheVariants as event
use Rattle.journal_types.specs.declared.Refusal.TheVariants as refusal
use Rattle.journal_types.specs.declared.Reply.TheVariants as reply
use Rattle.journal_types.specs.declared.PhaseOf.TheVariants as of
use Rattle.journal_types.specs.declared.Row.{Row}
use Rattle.journal_types.specs.declared.Row.TheVariants as row
use Rattle.stack_rules.specs.declared.Choice.{Choice}
use Rattle.stack_rules.specs.Net.{Net, after, after_rows}
use Rattle.stack_rules.specs.Outcome.{Outcome, refused}
use Rattle.stack_rules.specs.Pauses.{state_row, state_rows, binding_ids, begin_outcome}
use Rattle.stack_rules.specs.Tests.{phase_is_running}
use Rattle.driver_tray.specs.Tray.{TrayView}
use Rattle.book_lemmas.specs.Leaves.{ArePhases}
use Rattle.book_lemmas.specs.Stands.{DriversFit}
use Rattle.book_lemmas.specs.Views.{BookView}
use Rattle.book_parts.specs.Events.{IsBook, IsIdle, DidEvent}
use Rattle.book_parts.proofs.Events.{Begins, Ends, did_event, ends_still}
use Rattle.phase_work.specs.Written.{each_written, bindings_from, begin_rows}
use Rattle.phase_work.proofs.Written.{ends_moved, has_written}

-- what no driver is asked
pub any_choice : Choice
any_choice = record { keeps = false; refuses = false; shelf_empty = false }

-- all bindings, by how many they are
pub all_bindings : (b : ℕ) (ss : List ModuleState) → bindings_from b (length ss) ≡ binding_ids b ss
all_bindings b [] = refl
all_bindings b (s ∷ ss) = ap (λ ms. Binding b ∷ ms) (all_bindings (b + 1) ss)

abbrev pausing_rows : List ModuleId → List Row
pausing_rows ms = state_rows (state.Pausing ∷ []) ms

are_phases : (ms : List ModuleId) → ArePhases (pausing_rows ms)
are_phases [] = record {}
are_phases (m ∷ ms) = (record {}, are_phases ms)

same_phase : (ms : List ModuleId) (net : Net) → (after_rows net (pausing_rows ms)).phase ≡ net.phase
same_phase [] net = refl
same_phase (m ∷ ms) net = same_phase ms (after net (state_row state.Pausing m))

begin_phases : (n : ℕ) → ArePhases (begin_rows n)
begin_phases n = (record {}, are_phases (bindings_from 0 n))

abbrev pausing : ℕ → Outcome
pausing n = record { reply = reply.Ok; rows = begin_rows n }

-- what the rules have where the stack runs, and where it doesn't
running_outcome : (net : Net) → phase_is_running net.phase ≡ true → begin_outcome net ≡ pausing (length net.modules.bindings)
running_outcome net runs =
    let first = row.Phase (of.Stack phase.Pausing) in
    let out : List ModuleId → Outcome = λ ms. record { reply = reply.Ok; rows = first ∷ pausing_rows ms } in
    cond-true (phase_is_running net.phase) _ _ runs ∙ ap out (sym (all_bindings 0 net.modules.bindings))

still_outcome : (net : Net) → phase_is_running net.phase ≡ false → begin_outcome net ≡ refused (refusal.WrongPhase net.phase)
still_outcome net still = cond-false (phase_is_running net.phase) _ _ still

not_running : (p : Phase) → ¬ (p ≡ phase.Running) → phase_is_running p ≡ false
not_running phase.Halted still = refl
not_running phase.Paused still = refl
not_running phase.Restarting still = refl
not_running phase.Running still = absurd (still refl)
not_running phase.Pausing still = refl

pub begun : (old : BookView) (b t : TrayView) (bindings : ℕ) → IsBook old → IsIdle old → Begins old.tray b [] → phase.Running ≡ b.net.phase
    → bindings ≡ length old.tray.net.modules.bindings → t ≡ each_written b (begin_rows bindings)
    → DidEvent old (record { tray = t; held = old.held }) event.BeginPause reply.Ok
begun old b t bindings k i g runs all made =
    let rows = begin_rows bindings in
    let was : old.tray.net.phase ≡ phase.Running = ap (λ (n : Net). n.phase) (sym g.net) ∙ sym runs in
    let port = old.tray.net.head.port in
    let drivers : DriversFit port old.held phase.Running = subst (λ p. DriversFit port old.held p) was k.stands.drivers in
    let paused : (after_rows b.net rows).phase ≡ phase.Pausing = same_phase (bindings_from 0 bindings) (after b.net (row.Phase (of.Stack phase.Pausing))) in
    let fit : DriversFit b.net.head.port old.held (after_rows b.net rows).phase =
    subst (λ p. DriversFit b.net.head.port old.held p) (sym paused) (subst (λ (n : Net). DriversFit n.head.port old.held phase.Pausing) (sym g.net) drivers) in
    let is = running_outcome old.tray.net (ap phase_is_running was) in
    did_event old _ rows event.BeginPause any_choice reply.Ok k i (subst (λ x. Ends old (record { tray = x; held = old.held }) rows) (sym made) (ends_moved rows k g (begin_phases bindings) fit))
    (ap (λ (o : Outcome). o.reply) (sym is)) (ap begin_rows all ∙ ap (λ (o : Outcome). o.rows) (sym is)) refl tt (refl, refl)

pub not_begun : (old : BookView) (t : TrayView) (now : Phase) → IsBook old → IsIdle old → Begins old.tray t [] → now ≡ t.net.phase → ¬ (now ≡ phase.Running)
    → DidEvent old (record { tray = t; held = old.held }) event.BeginPause (reply.Refused (refusal.WrongPhase now))
not_begun old t now k i g now_is still =
    let was : now ≡ old.tray.net.phase = now_is ∙ ap (λ (n : Net). n.phase) g.net in
    let is = still_outcome old.tray.net (ap phase_is_running (sym was) ∙ not_running now still) in
    did_event old _ [] event.BeginPause any_choice _ k i (ends_still t k g)
    (ap (λ p. reply.Refused (refusal.WrongPhase p)) was ∙ ap (λ (o : Outcome). o.reply) (sym is)) (ap (λ (o : Outcome). o.rows) (sym is)) refl tt (refl, refl)

-- room for a turn is left
pub turns_left : (b t : TrayView) (bindings : ℕ) → 1 ≤ b.room.turns → t ≡ each_written b (begin_rows bindings) → 1 ≤ t.room.turns
turns_left b t bindings turns made =
    let used = (has_written (begin_rows bindings) b (begin_phases bindings)).used.turns in
    omega (arith, turns, used, ap (λ (x : TrayView). x.room.turns) made)
