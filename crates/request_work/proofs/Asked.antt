-- What a binding asks is what the rules say.
use Rattle.std.proofs.Common.{◌≡◌, ◌≢◌, ℕ, ◌≤◌, Bool, true, false, cond, List, [], ◌∷◌, None, refl, sym, ap, ◌∙◌, subst, arith}
use Rattle.ndis_base.specs.declared.ModuleId.{ModuleId}
use Rattle.ndis_base.specs.declared.ModuleId.TheVariants.{Miniport, Binding}
use Rattle.ndis_base.specs.declared.ModuleState.{ModuleState}
use Rattle.ndis_base.specs.declared.ModuleState.TheVariants as state
use Rattle.ndis_base.specs.declared.OidKind.{OidKind}
use Rattle.ndis_base.specs.declared.OidNo.{OidNo}
use Rattle.journal_types.specs.declared.Event.TheVariants as event
use Rattle.journal_types.specs.declared.Refusal.TheVariants as refusal
use Rattle.journal_types.specs.declared.Reply.TheVariants as reply
use Rattle.journal_types.specs.declared.Row.{Row}
use Rattle.journal_types.specs.declared.Row.TheVariants as row
use Rattle.flat_journal.specs.declared.types.FlatReply.{FlatReply}
use Rattle.flat_journal.specs.declared.types.FlatReply.TheVariants as flat_reply
use Rattle.flat_journal.specs.Payloads.{Payloads}
use Rattle.flat_journal.specs.Shown.{reply_of}
use Rattle.flat_journal.specs.Within.{ReplyWithin}
use Rattle.stack_rules.specs.Net.{Net}
use Rattle.stack_rules.specs.Outcome.{Outcome, refused, oid_no}
use Rattle.stack_rules.specs.Places.{state_of}
use Rattle.stack_rules.specs.Requests.{ask_outcome}
use Rattle.stack_rules.specs.Tests.{is_unbound}
use Rattle.driver_tray.specs.Tray.{TrayView, asked}
use Rattle.book_lemmas.specs.Views.{BookView}
use Rattle.call_lemmas.proofs.Requests.{in_asked}
use Rattle.call_lemmas.proofs.Served.{counts_none}
use Rattle.book_parts.specs.Events.{IsBook, IsIdle}
use Rattle.book_parts.proofs.Events.{Begins, Ends, did_event, ends_still}
use Rattle.miniport_work.specs.Works.{called_with}
use Rattle.miniport_work.proofs.Ended.{begins_call, Works, ended}
use Rattle.binding_work.proofs.Sending.{IsDone, any_choice}

-- the row of the rules
abbrev ask_row : Net → ℕ → OidKind → ℕ → List ℕ → Row
ask_row net binding kind code value = row.OidIssue (oid_no net.next.request) None binding kind code value

-- the outcome by its test
outcome_by : (net : Net) (binding : ℕ) (kind : OidKind) (code : ℕ) (value : List ℕ) (unbound : Bool) → is_unbound (state_of net (Binding binding)) ≡ unbound
    → ask_outcome net binding kind code value ≡ cond unbound (refused refusal.Unbound) (record { reply = reply.Asked (oid_no net.next.request); rows = ask_row net binding kind code value ∷ [] })
outcome_by net binding kind code value unbound e =
    ap (λ b. cond b (refused refusal.Unbound) (record { reply = reply.Asked (oid_no net.next.request); rows = ask_row net binding kind code value ∷ [] })) e

other : (s : ModuleState) → s ≢ state.Unbound → is_unbound s ≡ false
other state.Unbound ne = absurd (ne refl)
other _ ne = refl

before : {old t : TrayView} {s : ModuleState} (m : ModuleId) → Begins old t [] → s ≡ state_of t.net m → state_of old.net m ≡ s
before m g e = sym (e ∙ ap (λ (n : Net). state_of n m) g.net)

-- which module is said to be called is nothing that an event leaves
recalled : {old new : BookView} {rows : List Row} (m : ModuleId) → Ends old new rows → Ends old (record new { tray = record new.tray { caller = m } }) rows
recalled m e = record {
  head = e.head;
  turns = e.turns;
  told_by = e.told_by;
  net = e.net;
  rows_are = e.rows_are;
  used = record { rows_used = e.used.rows_used; frames = e.used.frames; bytes = e.used.bytes; slack = e.used.slack; turns = e.used.turns; payloads = e.used.payloads };
  did = e.did;
  stands = e.stands;
}

issued : (old : BookView) (t : TrayView) (binding : ℕ) (kind : OidKind) (code : ℕ) (value : List ℕ) (s : ModuleState) → IsBook old → IsIdle old → s ≡ state_of t.net (Binding binding) → s ≢ state.Unbound → Begins old.tray t [] → 1 ≤ t.room.turns
    → IsDone old (record { tray = asked t binding kind code value; held = old.held }) (event.Ask binding kind code value) (reply.Asked (oid_no t.net.next.request))
issued old t binding kind code value s k i is ne g turns =
    let left : TrayView = asked (called_with t old.held.miniport_pool) binding kind code value in
    let works : Works old t [] old.held.miniport left (ask_row t.net binding kind code value ∷ []) [] [] = record {
      call = in_asked binding kind code value (begins_call k g);
      kind = refl;
      port = refl;
      refusals = omega arith;
      ring = k.stands.ring;
      calls_are = tt;
      counts = counts_none Miniport old.held.miniport.did;
    } in
    let e = ended {t' = record left { pool = t.pool }} {pool' = old.held.miniport_pool} k g works refl refl in
    let outcome_is = outcome_by old.tray.net binding kind code value false (ap is_unbound (before (Binding binding) g is) ∙ other s ne) in
    record {
      did = did_event old (record { tray = asked t binding kind code value; held = old.held }) (ask_row t.net binding kind code value ∷ []) (event.Ask binding kind code value) any_choice (reply.Asked (oid_no t.net.next.request)) k i
          (recalled t.caller e.ends)
          (ap (λ (n : Net). reply.Asked (oid_no n.next.request)) g.net ∙ sym (ap (λ (o : Outcome). o.reply) outcome_is))
          (ap (λ (n : Net). ask_row n binding kind code value ∷ []) g.net ∙ sym (ap (λ (o : Outcome). o.rows) outcome_is)) refl tt (refl, refl);
      turn = record { room = omega (arith, turns, e.turns) };
    }

-- the answer tells the request's number
pub issued_event : (old : BookView) (t now : TrayView) (binding : ℕ) (kind : OidKind) (code : ℕ) (value : List ℕ) (s : ModuleState) (r : FlatReply) → IsBook old → IsIdle old → s ≡ state_of t.net (Binding binding) → s ≢ state.Unbound
    → Begins old.tray t [] → 1 ≤ t.room.turns → now ≡ asked t binding kind code value → r ≡ flat_reply.Asked (oid_no t.net.next.request)
    → IsDone old (record { tray = now; held = old.held }) (event.Ask binding kind code value) (reply_of now.payloads r)
issued_event old t now binding kind code value s r k i is ne g turns same number =
    subst (λ (q : FlatReply). IsDone old (record { tray = now; held = old.held }) (event.Ask binding kind code value) (reply_of now.payloads q)) (sym number)
    (subst (λ (q : TrayView). IsDone old (record { tray = q; held = old.held }) (event.Ask binding kind code value) (reply.Asked (oid_no t.net.next.request))) (sym same)
    (issued old t binding kind code value s k i is ne g turns))

pub number_within : (p : Payloads) (r : FlatReply) (n : OidNo) → r ≡ flat_reply.Asked n → ReplyWithin p r
number_within p r n e = subst (ReplyWithin p) (sym e) tt

-- a binding that isn't open asks nothing
pub unbound_event : (old : BookView) (t : TrayView) (binding : ℕ) (kind : OidKind) (code : ℕ) (value : List ℕ) → IsBook old → IsIdle old → state.Unbound ≡ state_of t.net (Binding binding) → Begins old.tray t [] → 1 ≤ t.room.turns
    → IsDone old (record { tray = t; held = old.held }) (event.Ask binding kind code value) (reply.Refused refusal.Unbound)
unbound_event old t binding kind code value k i is g turns =
    let outcome_is = outcome_by old.tray.net binding kind code value true (ap is_unbound (before (Binding binding) g is)) in
    record {
      did = did_event old _ [] (event.Ask binding kind code value) any_choice (reply.Refused refusal.Unbound) k i (ends_still t k g) (sym (ap (λ (o : Outcome). o.reply) outcome_is))
          (sym (ap (λ (o : Outcome). o.rows) outcome_is)) refl tt (refl, refl);
      turn = record { room = turns };
    }
