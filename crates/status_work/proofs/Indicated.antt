-- A status that the miniport indicates is what the rules say.
use Rattle.std.proofs.Common.{◌≡◌, ◌≢◌, ◌≤◌, Bool, true, false, cond, [], ◌∷◌, refl, sym, ap, ◌∙◌, subst, arith}
use Rattle.ndis_base.specs.declared.ModuleId.TheVariants.{Miniport}
use Rattle.ndis_base.specs.declared.ModuleState.{ModuleState}
use Rattle.ndis_base.specs.declared.ModuleState.TheVariants as state
use Rattle.ndis_base.specs.declared.StatusName.{StatusName}
use Rattle.journal_types.specs.declared.Event.TheVariants as event
use Rattle.journal_types.specs.declared.Refusal.TheVariants as refusal
use Rattle.journal_types.specs.declared.Reply.TheVariants as reply
use Rattle.journal_types.specs.declared.Row.{Row}
use Rattle.journal_types.specs.declared.Row.TheVariants as row
use Rattle.stack_rules.specs.Net.{Net}
use Rattle.stack_rules.specs.Outcome.{Outcome, refused, status_no}
use Rattle.stack_rules.specs.Places.{position}
use Rattle.stack_rules.specs.Statuses.{status_outcome}
use Rattle.stack_rules.specs.Targets.{next_status}
use Rattle.stack_rules.specs.Tests.{is_halted}
use Rattle.driver_tray.specs.Tray.{TrayView, indicated, status_from}
use Rattle.book_lemmas.specs.Views.{BookView}
use Rattle.call_lemmas.proofs.Served.{counts_none}
use Rattle.call_lemmas.proofs.Statuses.{in_status}
use Rattle.book_parts.specs.Events.{IsBook, IsIdle}
use Rattle.book_parts.proofs.Events.{Begins, did_event, ends_still}
use Rattle.miniport_work.specs.Works.{called_with}
use Rattle.miniport_work.proofs.Ended.{begins_call, Works, ended}
use Rattle.binding_work.proofs.Sending.{IsDone, any_choice}

-- the row of the rules
abbrev status_row : Net → StatusName → Row
status_row net name = row.Status (status_no net.next.status) name (next_status net.modules (position net.modules.order Miniport))

-- the outcome by its test
outcome_by : (net : Net) (name : StatusName) (halted : Bool) → is_halted net.modules.miniport ≡ halted
    → status_outcome net name ≡ cond halted (refused refusal.HaltedNow) (record { reply = reply.Ok; rows = status_row net name ∷ [] })
outcome_by net name halted e = ap (λ b. cond b (refused refusal.HaltedNow) (record { reply = reply.Ok; rows = status_row net name ∷ [] })) e

other : (s : ModuleState) → s ≢ state.Halted → is_halted s ≡ false
other state.Halted ne = absurd (ne refl)
other _ ne = refl

before : {old t : TrayView} {s : ModuleState} → Begins old t [] → s ≡ t.net.modules.miniport → old.net.modules.miniport ≡ s
before g e = sym (e ∙ ap (λ (n : Net). n.modules.miniport) g.net)

sent_up : (old : BookView) (t : TrayView) (name : StatusName) (s : ModuleState) → IsBook old → IsIdle old → s ≡ t.net.modules.miniport → s ≢ state.Halted → Begins old.tray t [] → 1 ≤ t.room.turns
    → IsDone old (record { tray = indicated (record t { caller = Miniport }) (status_no t.net.next.status) name; held = old.held }) (event.Status name) reply.Ok
sent_up old t name s k i is ne g turns =
    let b : TrayView = called_with t old.held.miniport_pool in
    let works : Works old t [] old.held.miniport (indicated b (status_no t.net.next.status) name) (status_row t.net name ∷ []) [] [] = record {
      call = in_status (status_from b (status_no t.net.next.status) name) (begins_call k g);
      kind = refl;
      port = refl;
      refusals = omega arith;
      ring = k.stands.ring;
      calls_are = tt;
      counts = counts_none Miniport old.held.miniport.did;
    } in
    let e = ended {t' = indicated (record t { caller = Miniport }) (status_no t.net.next.status) name} {pool' = old.held.miniport_pool} k g works refl refl in
    let outcome_is = outcome_by old.tray.net name false (ap is_halted (before g is) ∙ other s ne) in
    record {
      did = did_event old _ (status_row t.net name ∷ []) (event.Status name) any_choice reply.Ok k i e.ends (sym (ap (λ (o : Outcome). o.reply) outcome_is))
          (ap (λ (n : Net). status_row n name ∷ []) g.net ∙ sym (ap (λ (o : Outcome). o.rows) outcome_is)) refl tt (refl, refl);
      turn = record { room = omega (arith, turns, e.turns) };
    }

pub indicated_event : (old : BookView) (t now : TrayView) (name : StatusName) (s : ModuleState) → IsBook old → IsIdle old → s ≡ t.net.modules.miniport → s ≢ state.Halted → Begins old.tray t [] → 1 ≤ t.room.turns
    → now ≡ indicated (record t { caller = Miniport }) (status_no t.net.next.status) name → IsDone old (record { tray = now; held = old.held }) (event.Status name) reply.Ok
indicated_event old t now name s k i is ne g turns same =
    subst (λ (q : TrayView). IsDone old (record { tray = q; held = old.held }) (event.Status name) reply.Ok) (sym same) (sent_up old t name s k i is ne g turns)

-- a miniport that is halted indicates none
pub halted_event : (old : BookView) (t : TrayView) (name : StatusName) → IsBook old → IsIdle old → state.Halted ≡ t.net.modules.miniport → Begins old.tray t [] → 1 ≤ t.room.turns
    → IsDone old (record { tray = t; held = old.held }) (event.Status name) (reply.Refused refusal.HaltedNow)
halted_event old t name k i is g turns =
    let outcome_is = outcome_by old.tray.net name true (ap is_halted (before g is)) in
    record {
      did = did_event old _ [] (event.Status name) any_choice (reply.Refused refusal.HaltedNow) k i (ends_still t k g) (sym (ap (λ (o : Outcome). o.reply) outcome_is)) (sym (ap (λ (o : Outcome). o.rows) outcome_is)) refl tt (refl, refl);
      turn = record { room = turns };
    }
