-- A call, and its tail.
use Rattle.std.proofs.Common.{◌≡◌, ◌≢◌, ◌⊎◌, inl, inr, ◌<◌, Bool, true, false, length, refl, sym, ap, ◌∙◌, subst}
use Rattle.ndis_base.specs.declared.LaneNo.{LaneNo}
use Rattle.ndis_base.specs.declared.Phase.{Phase}
use Rattle.ndis_base.specs.declared.Phase.TheVariants as phase
use Rattle.ndis_base.specs.declared.Who.{Who}
use Rattle.ndis_base.specs.declared.Who.TheVariants as who
use Rattle.journal_types.specs.declared.Event.{Event}
use Rattle.journal_types.specs.declared.Event.TheVariants as event
use Rattle.journal_types.specs.declared.Refusal.TheVariants as refusal
use Rattle.journal_types.specs.declared.Reply.{Reply}
use Rattle.journal_types.specs.declared.Reply.TheVariants as reply
use Rattle.promise_rules.specs.declared.Tail.{Tail}
use Rattle.promise_rules.specs.declared.Tail.TheVariants as tails
use Rattle.promise_rules.specs.Tails.{paused, restarted, tail_after, unless_refused}
use Rattle.stack_rules.specs.Net.{Net}
use Rattle.stack_rules.specs.Tests.{phase_is_pausing, phase_is_running}
use Rattle.run_laws.specs.Opening.{restart_to_go}
use Rattle.run_laws.specs.Pausing.{pause_to_go, Waits}
use Rattle.run_laws.specs.Turns.{ChangesNothing, GoesOn, LeadsTo}
use Rattle.run_laws.specs.Wrong.{may_restart}
use Rattle.run_laws.proofs.Opening.{restarts}
use Rattle.run_laws.proofs.Pausing.{begins, pauses}
use Rattle.run_laws.proofs.Wrong.{begin_needs, pause_needs, restart_needs}
use Rattle.book_lemmas.specs.Views.{BookView}
use Rattle.book_runs.specs.Adds.{AddsTurns, IsTail, ArePauses, is_refused, tail_asks, tail_of_call}
use Rattle.book_runs.specs.Runs.{AnswersSo, IsBetween, IsInPhase, IsRestarting, IsWaiting, Turned, Drained, PausesAll, PausesSo, PumpedAll, RestartsAll, RestartsSo, MakesCall, MakesTail}
use Rattle.book_runs.proofs.Added.{one_of, none_added, call_and_tail, leads_by, leads_paused, leads_then, leads_until}
use Rattle.book_runs.proofs.Pumped.{net_before, phase_after, same_after}

-- the phase before a turn
phase_before : {old new : BookView} {w : Who} {e : Event} {r : Reply} → Turned old new w e r → (net_before old).phase ≡ old.tray.net.phase
phase_before t = sym (ap (λ (n : Net). n.phase) t.before)

-- what was refused is refused so
pauses_not : {old new : BookView} {w : Who} {e : Event} {r : Reply} {p : Phase} → (t : Turned old new w e r) → ChangesNothing (net_before old) t.turn (reply.Refused (refusal.WrongPhase p)) → PausesSo r new
pauses_not {old} {new} t c = subst (λ q. PausesSo q new) (sym (sym t.told.told ∙ c.reply)) tt

-- a pause begins, or it is refused
begun_so : {old new : BookView} {w : Who} {r : Reply} → Turned old new w event.BeginPause r → PausesSo r new
begun_so {old} {new} {w} {r} t = by_phase old.tray.net.phase (phase_before t)
  where
    no : phase_is_running (net_before old).phase ≡ false → PausesSo r new
    no wrong = pauses_not t (begin_needs old.tray.head old.tray.turns t.turn t.sound t.bound t.next t.told.what wrong)

    by_phase : (p : Phase) → (net_before old).phase ≡ p → PausesSo r new
    by_phase phase.Running is =
        let l : LeadsTo (net_before old) t.turn reply.Ok phase.Pausing = begins old.tray.head old.tray.turns t.turn t.sound t.bound t.next t.told.what is in
        subst (λ q. PausesSo q new) (sym (sym t.told.told ∙ l.reply)) (record { between = t.between; phase_is = phase_after t l.phase })
    by_phase phase.Halted is = no (ap phase_is_running is)
    by_phase phase.Pausing is = no (ap phase_is_running is)
    by_phase phase.Paused is = no (ap phase_is_running is)
    by_phase phase.Restarting is = no (ap phase_is_running is)

-- a pause goes on, waits or is over, or its step is refused
paused_so : {old new : BookView} {w : Who} {r : Reply} → Turned old new w event.PauseNext r → PausesSo r new
paused_so {old} {new} {w} {r} t = by_phase old.tray.net.phase (phase_before t)
  where
    no : phase_is_pausing (net_before old).phase ≡ false → PausesSo r new
    no wrong = pauses_not t (pause_needs old.tray.head old.tray.turns t.turn t.sound t.bound t.next t.told.what wrong)

    by_law : (net_before old).phase ≡ phase.Pausing → GoesOn (net_before old) t.turn reply.Next phase.Pausing pause_to_go ⊎ (LeadsTo (net_before old) t.turn reply.Paused phase.Paused ⊎ Waits (net_before old) t.turn) → PausesSo r new
    by_law is (inl g) = subst (λ q. PausesSo q new) (sym (sym t.told.told ∙ g.leads.reply)) (record { between = t.between; phase_is = phase_after t g.leads.phase })
    by_law is (inr (inl l)) = subst (λ q. PausesSo q new) (sym (sym t.told.told ∙ l.reply)) tt
    by_law is (inr (inr h)) =
        let same : new.tray.net ≡ old.tray.net = same_after t h.stays.same in
        subst (λ q. PausesSo q new) (sym (sym t.told.told ∙ h.stays.reply))
        (record { between = t.between; phase_is = ap (λ (n : Net). n.phase) same ∙ sym (phase_before t) ∙ is }, subst (λ (n : Net). 0 < length n.things) (sym (same ∙ t.before)) h.some)

    by_phase : (p : Phase) → (net_before old).phase ≡ p → PausesSo r new
    by_phase phase.Pausing is = by_law is (pauses old.tray.head old.tray.turns t.turn t.sound t.bound t.next t.told.what is)
    by_phase phase.Halted is = no (ap phase_is_pausing is)
    by_phase phase.Running is = no (ap phase_is_pausing is)
    by_phase phase.Paused is = no (ap phase_is_pausing is)
    by_phase phase.Restarting is = no (ap phase_is_pausing is)

-- a restart goes on or is over, or its step is refused
restarted_so : {old new : BookView} {w : Who} {r : Reply} → Turned old new w event.RestartNext r → RestartsSo r new
restarted_so {old} {new} {w} {r} t = by_phase old.tray.net.phase (phase_before t)
  where
    no : may_restart (net_before old).phase ≡ false → RestartsSo r new
    no wrong =
        let c : ChangesNothing (net_before old) t.turn (reply.Refused (refusal.WrongPhase (net_before old).phase)) = restart_needs old.tray.head old.tray.turns t.turn t.sound t.bound t.next t.told.what wrong in
        subst (λ q. RestartsSo q new) (sym (sym t.told.told ∙ c.reply)) tt

    by_law : LeadsTo (net_before old) t.turn reply.Running phase.Running ⊎ GoesOn (net_before old) t.turn reply.Next phase.Restarting restart_to_go → RestartsSo r new
    by_law (inl l) = subst (λ q. RestartsSo q new) (sym (sym t.told.told ∙ l.reply)) tt
    by_law (inr g) = subst (λ q. RestartsSo q new) (sym (sym t.told.told ∙ g.leads.reply)) (record { between = t.between; phase_is = inr (phase_after t g.leads.phase) })

    yes : ((net_before old).phase ≡ phase.Paused) ⊎ ((net_before old).phase ≡ phase.Restarting) → RestartsSo r new
    yes may = by_law (restarts old.tray.head old.tray.turns t.turn t.sound t.bound t.next t.told.what may)

    by_phase : (p : Phase) → (net_before old).phase ≡ p → RestartsSo r new
    by_phase phase.Paused is = yes (inl is)
    by_phase phase.Restarting is = yes (inr is)
    by_phase phase.Halted is = no (ap may_restart is)
    by_phase phase.Running is = no (ap may_restart is)
    by_phase phase.Pausing is = no (ap may_restart is)

pub answers_so : {old new : BookView} {w : Who} (e : Event) (r : Reply) → Turned old new w e r → AnswersSo e r new
answers_so event.BeginPause r t = begun_so t
answers_so event.PauseNext r t = paused_so t
answers_so event.RestartNext r t = restarted_so t
answers_so _ r t = tt

no_false : {A : Type 0} → false ≡ true → A
no_false e = absurd (cc)

no_true : {A : Type 0} → true ≡ false → A
no_true e = absurd (cc)

-- pumps follow, unless the call is refused
pumps_on : (r : Reply) → is_refused r ≡ false → unless_refused (tails.Pumping 0) r ≡ tails.Pumping 0
pumps_on (reply.Refused cause) is = no_true is
pumps_on _ is = refl

pub pumps_follow : {old new : BookView} (lane : LaneNo) (r : Reply) → is_refused r ≡ false → PumpedAll (who.Help lane) old new → MakesTail lane (unless_refused (tails.Pumping 0) r) old new
pumps_follow {old} {new} lane r is p = record {
  between = p.between;
  added = subst (λ s. AddsTurns (IsTail lane s) old new) (sym (pumps_on r is))
      (leads_until (who.Help lane) tail_asks tail_after (tails.Pumping 0) tails.Ended event.Pump reply.Moved reply.Idle refl refl refl p.added);
}

-- a pause goes on, unless it is refused or over; and where it waits, a drain comes first
pauses_on : (r : Reply) → is_refused r ≡ false → r ≢ reply.Paused → (IsWaiting r → ⊥) → paused 0 r ≡ tails.Pausing 0
pauses_on (reply.Refused cause) is other waits = no_true is
pauses_on reply.Paused is other waits = absurd (other refl)
pauses_on (reply.Waiting n) is other waits = absurd (waits tt)
pauses_on _ is other waits = refl

waits_on : (r : Reply) → IsWaiting r → paused 0 r ≡ tails.Draining 0
waits_on (reply.Waiting n) w = refl
waits_on _ w = absurd w

pauses_lead_on : {old new : BookView} (lane : LaneNo) → AddsTurns (ArePauses (who.Help lane)) old new → AddsTurns (IsTail lane (tails.Pausing 0)) old new
pauses_lead_on lane p = leads_paused (who.Help lane) tail_asks tail_after (tails.Pausing 0) (tails.Draining 0) tails.Ended refl refl refl (λ lists. refl) refl refl p

pub pauses_follow : {old new : BookView} (lane : LaneNo) (r : Reply) → is_refused r ≡ false → r ≢ reply.Paused → (IsWaiting r → ⊥) → PausesAll (who.Help lane) old new → MakesTail lane (paused 0 r) old new
pauses_follow {old} {new} lane r is other waits p = record {
  between = p.now.between;
  added = subst (λ s. AddsTurns (IsTail lane s) old new) (sym (pauses_on r is other waits)) (pauses_lead_on lane p.added);
}

pub drain_follows : {old mid new : BookView} (lane : LaneNo) (r : Reply) → IsWaiting r → Drained (who.Help lane) old mid → PausesAll (who.Help lane) mid new → MakesTail lane (paused 0 r) old new
drain_follows {old} {mid} {new} lane r waits d p = record {
  between = p.now.between;
  added = subst (λ s. AddsTurns (IsTail lane s) old new) (sym (waits_on r waits))
      (leads_then (who.Help lane) tail_asks tail_after (tails.Draining 0) (tails.Pausing 0) tails.Ended
      (leads_by (who.Help lane) tail_asks tail_after (tails.Draining 0) (tails.Pausing 0) event.Drain reply.Moved refl refl d.added) (pauses_lead_on lane p.added));
}

-- a restart goes on, unless it is refused or over
restarts_on : (r : Reply) → is_refused r ≡ false → r ≢ reply.Running → restarted 0 r ≡ tails.Restarting 0
restarts_on (reply.Refused cause) is other = no_true is
restarts_on reply.Running is other = absurd (other refl)
restarts_on _ is other = refl

pub restarts_follow : {old new : BookView} (lane : LaneNo) (r : Reply) → is_refused r ≡ false → r ≢ reply.Running → RestartsAll (who.Help lane) old new → MakesTail lane (restarted 0 r) old new
restarts_follow {old} {new} lane r is other p = record {
  between = p.now.between;
  added = subst (λ s. AddsTurns (IsTail lane s) old new) (sym (restarts_on r is other))
      (leads_until (who.Help lane) tail_asks tail_after (tails.Restarting 0) tails.Ended event.RestartNext reply.Next reply.Running refl refl refl p.added);
}

-- a call without a tail, and with one
pub call_alone : {old new : BookView} (lane : LaneNo) (e : Event) (pump : Bool) (r : Reply) → pump ≡ false → Turned old new (who.Call lane) e r → MakesCall lane e pump old new
call_alone {old} {new} lane e pump r is t = subst (λ b. MakesCall lane e b old new) (sym is) (record {
  between = t.between;
  added = call_and_tail lane e r false tails.Ended refl (one_of t) (none_added (IsTail lane tails.Ended) new refl);
})

pub call_tailed : {old mid new : BookView} (lane : LaneNo) (e : Event) (pump : Bool) (r : Reply) → pump ≡ true → Turned old mid (who.Call lane) e r → MakesTail lane (tail_of_call e r) mid new → MakesCall lane e pump old new
call_tailed {old} {mid} {new} lane e pump r is t p = subst (λ b. MakesCall lane e b old new) (sym is) (record {
  between = p.between;
  added = call_and_tail lane e r true (tail_of_call e r) refl (one_of t) p.added;
})
