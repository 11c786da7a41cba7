-- Pumps, and what a turn leads to.
use Rattle.std.proofs.Common.{◌≡◌, ◌≢◌, ◌⊎◌, inl, inr, ◌<◌, ℕ, Bool, true, false, [], refl, sym, ap, ◌∙◌, subst}
use Rattle.ndis_base.specs.declared.Phase.{Phase}
use Rattle.ndis_base.specs.declared.Phase.TheVariants as phase
use Rattle.ndis_base.specs.declared.Who.{Who}
use Rattle.journal_types.specs.declared.Event.{Event}
use Rattle.journal_types.specs.declared.Event.TheVariants as event
use Rattle.journal_types.specs.declared.Reply.{Reply}
use Rattle.journal_types.specs.declared.Reply.TheVariants as reply
use Rattle.flat_journal.specs.declared.types.FlatReply.{FlatReply}
use Rattle.flat_journal.specs.Payloads.{Payloads}
use Rattle.flat_journal.specs.Shown.{reply_of}
use Rattle.journal_types.specs.declared.Turn.{Turn}
use Rattle.stack_rules.specs.Net.{Net, seen, after_turn}
use Rattle.stack_rules.specs.Tests.{phase_is_halted, phase_is_paused}
use Rattle.stack_rules.specs.Work.{work}
use Rattle.run_laws.specs.Ending.{is_ending}
use Rattle.run_laws.specs.Pumping.{Pumps}
use Rattle.run_laws.specs.Turns.{ChangesNothing, GoesOn}
use Rattle.run_laws.proofs.Ending.{empties_requests, empties_things, keeps_no_requests}
use Rattle.run_laws.proofs.Pumping.{pumps}
use Rattle.book_lemmas.specs.Views.{BookView}
use Rattle.book_runs.specs.Adds.{AddsTurns, IsOne, pump_reply}
use Rattle.book_runs.specs.Runs.{IsAnswer, IsAtRest, KeepsNone, Turned, Pumped}
use Rattle.book_runs.proofs.Added.{one_of, found_yes, found_no}

-- the state before a turn, and after it
abbrev pub net_before : BookView → Net
net_before old = seen old.tray.head old.tray.turns

-- a turn that leads to a phase
pub phase_after : {old new : BookView} {w : Who} {e : Event} {r : Reply} {p : Phase} → (t : Turned old new w e r) → (after_turn (net_before old) t.turn).phase ≡ p → new.tray.net.phase ≡ p
phase_after t is = ap (λ (n : Net). n.phase) t.after ∙ is

pub same_after : {old new : BookView} {w : Who} {e : Event} {r : Reply} → (t : Turned old new w e r) → after_turn (net_before old) t.turn ≡ net_before old → new.tray.net ≡ old.tray.net
same_after t is = t.after ∙ is ∙ sym t.before

-- what there is to do got less
pub less_after : {old new : BookView} {w : Who} {e : Event} {r : Reply} (to_go : Net → ℕ) → (t : Turned old new w e r) → to_go (after_turn (net_before old) t.turn) < to_go (net_before old) → to_go new.tray.net < to_go old.tray.net
less_after {old} {new} to_go t less =
    subst (λ (n : Net). to_go new.tray.net < to_go n) (sym t.before) (subst (λ (n : Net). to_go n < to_go (net_before old)) (sym t.after) less)

not_yes : true ≡ false → ⊥
not_yes e = cc

not_no : false ≡ true → ⊥
not_no e = cc

-- where no request is left, none comes by what ends a run
pub keeps_by : {old new : BookView} {w : Who} {e : Event} {r : Reply} → is_ending e ≡ true → Turned old new w e r → KeepsNone old new
keeps_by {old} {new} {w} {e} {r} ending t none =
    let kept : (after_turn (net_before old) t.turn).requests ≡ [] =
    keeps_no_requests old.tray.head old.tray.turns t.turn t.sound t.bound t.next (ap is_ending t.told.what ∙ ending) (subst (λ (n : Net). n.requests ≡ []) t.before none) in
    ap (λ (n : Net). n.requests) t.after ∙ kept

-- an idle pump leaves the stack at rest
rests_by : {old new : BookView} {w : Who} {r : Reply} → (t : Turned old new w event.Pump r) → t.turn.reply ≡ reply.Idle → new.tray.net ≡ old.tray.net → IsAtRest new
rests_by {old} {new} {w} {r} t told same =
    let is : new.tray.net ≡ net_before old = same ∙ t.before in
    record {
      requests = λ running there. ap (λ (n : Net). n.requests) is
          ∙ empties_requests old.tray.head old.tray.turns t.turn t.sound t.bound t.next t.told.what told
          (subst (λ (n : Net). phase_is_paused n.phase ≡ false) is running) (subst (λ (n : Net). phase_is_halted n.phase ≡ false) is there);
      things = λ paused. ap (λ (n : Net). n.things) is ∙ empties_things old.tray.head old.tray.turns t.turn t.sound t.bound t.next t.told.what told (subst (λ (n : Net). n.phase ≡ phase.Paused) is paused);
    }

idle_not_moved : reply.Idle ≢ reply.Moved
idle_not_moved e = cc

pub pumped_by : {old new : BookView} (w : Who) (answer : FlatReply) (moved : Bool) (p : Payloads) → Turned old new w event.Pump (reply_of p answer) → IsAnswer reply.Moved answer moved → Pumped w moved old new
pumped_by {old} {new} w answer moved p t a = by_law (pumps old.tray.head old.tray.turns t.turn t.sound t.bound t.next t.told.what)
  where
    by_law : GoesOn (net_before old) t.turn reply.Moved (net_before old).phase work ⊎ ChangesNothing (net_before old) t.turn reply.Idle → Pumped w moved old new
    by_law (inl g) =
        let told : reply_of p answer ≡ reply.Moved = sym t.told.told ∙ g.leads.reply in
        let yes : moved ≡ true = found_yes reply.Moved answer moved p a told in
        let done : Pumped w true old new = record {
          between = t.between;
          rests = λ no. absurd (not_yes no);
          keeps = keeps_by refl t;
          phase_is = phase_after t g.leads.phase ∙ sym (ap (λ (n : Net). n.phase) t.before);
          fewer = λ _. less_after work t g.less;
          added = subst (λ r. AddsTurns (IsOne w event.Pump r) old new) told (one_of t);
        } in
        subst (λ b. Pumped w b old new) (sym yes) done
    by_law (inr c) =
        let told : reply_of p answer ≡ reply.Idle = sym t.told.told ∙ c.reply in
        let no : moved ≡ false = found_no reply.Moved answer moved p a (λ is. idle_not_moved (sym told ∙ is)) in
        let done : Pumped w false old new = record {
          between = t.between;
          rests = λ no. rests_by t c.reply (same_after t c.same);
          keeps = keeps_by refl t;
          phase_is = ap (λ (n : Net). n.phase) (same_after t c.same);
          fewer = λ yes. absurd (not_no yes);
          added = subst (λ r. AddsTurns (IsOne w event.Pump r) old new) told (one_of t);
        } in
        subst (λ b. Pumped w b old new) (sym no) done
