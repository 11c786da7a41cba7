-- The ending.
use Rattle.std.proofs.Common.{◌≡◌, ◌⊎◌, inl, inr, ℕ, false, [], Some, refl, sym, ap, ◌∙◌, subst}
use Rattle.ndis_base.specs.declared.Phase.{Phase}
use Rattle.ndis_base.specs.declared.Phase.TheVariants as phase
use Rattle.ndis_base.specs.declared.Who.TheVariants as who
use Rattle.journal_types.specs.declared.Event.TheVariants as event
use Rattle.journal_types.specs.declared.Reply.{Reply}
use Rattle.journal_types.specs.declared.Reply.TheVariants as reply
use Rattle.promise_rules.specs.declared.Ending.{Ending}
use Rattle.promise_rules.specs.declared.Ending.TheVariants as ending
use Rattle.promise_rules.specs.Own.{ending_of, ending_event, ending_after}
use Rattle.stack_rules.specs.Net.{Net, seen}
use Rattle.stack_rules.specs.Pauses.{halt_items}
use Rattle.stack_rules.specs.Tests.{phase_is_halted, phase_is_paused}
use Rattle.run_laws.specs.Turns.{LeadsTo}
use Rattle.run_laws.proofs.Ending.{halts, nothing_waits}
use Rattle.run_laws.proofs.Pausing.{begins}
use Rattle.book_lemmas.specs.Views.{BookView}
use Rattle.book_runs.specs.Adds.{AddsTurns, ArePauses, ArePumps, EndsTo}
use Rattle.book_runs.specs.Runs.{IsAtRest, IsInPhase, IsRestarting, KeepsNone, Turned, PumpedAll, PausesAll, RestartsAll, EndsStack}
use Rattle.book_runs.proofs.Added.{one_of, none_added, ends_by, ends_then, leads_paused, leads_until}
use Rattle.book_runs.proofs.Pumped.{phase_after, keeps_by}

-- a stack that runs begins to pause
pub record IsBegun (old new : BookView) : Type 0 where
  pub now : IsInPhase new phase.Pausing
  pub keeps : KeepsNone old new
  pub added : AddsTurns (EndsTo ending.BeginningPause ending.Pausing) old new

pub begun_by : {old new : BookView} {r : Reply} → old.tray.net.phase ≡ phase.Running → Turned old new who.Own event.BeginPause r → IsBegun old new
begun_by {old} {new} {r} at t =
    let l : LeadsTo (seen old.tray.head old.tray.turns) t.turn reply.Ok phase.Pausing = begins old.tray.head old.tray.turns t.turn t.sound t.bound t.next t.told.what (sym (ap (λ (n : Net). n.phase) t.before) ∙ at) in
    let told : r ≡ reply.Ok = sym t.told.told ∙ l.reply in
    record {
      now = record { between = t.between; phase_is = phase_after t l.phase };
      keeps = keeps_by refl t;
      added = ends_by ending.BeginningPause ending.Pausing event.BeginPause r refl (ap (ending_after ending.BeginningPause) told) (one_of t);
    }

-- a Paused stack is halted
pub record IsOver (old new : BookView) : Type 0 where
  pub now : IsInPhase new phase.Halted
  pub added : AddsTurns (EndsTo ending.Halting ending.Ended) old new

pub halted_by : {old new : BookView} {r : Reply} → IsInPhase old phase.Paused → old.tray.net.things ≡ [] → old.tray.net.requests ≡ [] → Turned old new who.Own event.Halt r → IsOver old new
halted_by {old} {new} {r} at things requests t =
    let none : halt_items (seen old.tray.head old.tray.turns) ≡ 0 =
    nothing_waits (seen old.tray.head old.tray.turns) (subst (λ (n : Net). n.things ≡ []) t.before things) (subst (λ (n : Net). n.requests ≡ []) t.before requests) in
    let l : LeadsTo (seen old.tray.head old.tray.turns) t.turn reply.Halted phase.Halted =
    halts old.tray.head old.tray.turns t.turn t.sound t.bound t.next t.told.what (sym (ap (λ (n : Net). n.phase) t.before) ∙ at.phase_is) none in
    record {
      now = record { between = t.between; phase_is = phase_after t l.phase };
      added = ends_by ending.Halting ending.Ended event.Halt r refl refl (one_of t);
    }

-- pumps leave the phase
pub pumped_phase : {old new : BookView} {at : Phase} → IsInPhase old at → PumpedAll who.Own old new → IsInPhase new at
pumped_phase k p = record { between = p.between; phase_is = p.phase_is ∙ k.phase_is }

-- no request is left where a stack that runs was pumped until nothing moved
pub none_left : {v : BookView} → IsInPhase v phase.Running → IsAtRest v → v.tray.net.requests ≡ []
none_left {v} k r = r.requests (ap phase_is_paused k.phase_is) (ap phase_is_halted k.phase_is)

-- pumps and pauses of the stack itself
pumps_add : {x y : BookView} (a b : Ending) → ending_event a ≡ Some event.Pump → ending_after a reply.Moved ≡ a → ending_after a reply.Idle ≡ b → AddsTurns (ArePumps who.Own) x y → AddsTurns (EndsTo a b) x y
pumps_add a b asked stays on p = leads_until who.Own ending_event ending_after a b event.Pump reply.Moved reply.Idle asked stays on p

pauses_add : {x y : BookView} (a d b : Ending) → ending_event a ≡ Some event.PauseNext → ending_event d ≡ Some event.Drain → ending_after a reply.Next ≡ a → ((lists : ℕ) → ending_after a (reply.Waiting lists) ≡ d)
    → ending_after d reply.Moved ≡ a → ending_after a reply.Paused ≡ b → AddsTurns (ArePauses who.Own) x y → AddsTurns (EndsTo a b) x y
pauses_add a d b asked drained stays waiting moved on p = leads_paused who.Own ending_event ending_after a d b asked drained stays waiting moved on p

-- the ending of a stack that runs, in its five parts
pub ends_in_all : {a b c d e f : BookView} → IsInPhase a phase.Running → PumpedAll who.Own a b → IsBegun b c → PausesAll who.Own c d → PumpedAll who.Own d e → IsOver e f → EndsStack a f
ends_in_all {a} {b} {c} {d} {e} {f} at p g q u o =
    let all : AddsTurns (EndsTo ending.Pumping ending.Ended) a f =
    ends_then ending.Pumping ending.BeginningPause ending.Ended (pumps_add ending.Pumping ending.BeginningPause refl refl refl p.added)
    (ends_then ending.BeginningPause ending.Pausing ending.Ended g.added
    (ends_then ending.Pausing ending.PumpingLast ending.Ended (pauses_add ending.Pausing ending.Draining ending.PumpingLast refl refl refl (λ lists. refl) refl refl q.added)
    (ends_then ending.PumpingLast ending.Halting ending.Ended (pumps_add ending.PumpingLast ending.Halting refl refl refl u.added) o.added))) in
    record { now = o.now; added = subst (λ x. AddsTurns (EndsTo (ending_of x) ending.Ended) a f) (sym at.phase_is) all }

-- what leads on before the ending
ends_after : {a b c : BookView} (from : Ending) → ending_of a.tray.net.phase ≡ from → AddsTurns (EndsTo from (ending_of b.tray.net.phase)) a b → EndsStack b c → EndsStack a c
ends_after {a} {b} {c} from is p e = record {
  now = e.now;
  added = subst (λ x. AddsTurns (EndsTo x ending.Ended) a c) (sym is) (ends_then from (ending_of b.tray.net.phase) ending.Ended p e.added);
}

-- a stack that is Paused or restarts is restarted first
resting : (a : BookView) → (a.tray.net.phase ≡ phase.Paused) ⊎ (a.tray.net.phase ≡ phase.Restarting) → ending_of a.tray.net.phase ≡ ending.Restarting
resting a (inl is) = ap ending_of is
resting a (inr is) = ap ending_of is

pub ends_restarting : {a b c : BookView} → IsRestarting a → RestartsAll who.Own a b → EndsStack b c → EndsStack a c
ends_restarting {a} {b} {c} at r e =
    ends_after ending.Restarting (resting a at.phase_is)
    (leads_until who.Own ending_event ending_after ending.Restarting (ending_of b.tray.net.phase) event.RestartNext reply.Next reply.Running refl refl (sym (ap ending_of r.now.phase_is)) r.added) e

-- a stack that pauses is paused first
pub ends_pausing : {a b c : BookView} → IsInPhase a phase.Pausing → PausesAll who.Own a b → EndsStack b c → EndsStack a c
ends_pausing {a} {b} {c} at p e =
    ends_after ending.PausingFirst (ap ending_of at.phase_is)
    (pauses_add ending.PausingFirst ending.DrainingFirst (ending_of b.tray.net.phase) refl refl refl (λ lists. refl) refl (sym (ap ending_of p.now.phase_is)) p.added) e

pub ends_halted : {a : BookView} → IsInPhase a phase.Halted → EndsStack a a
ends_halted {a} at = record { now = at; added = subst (λ x. AddsTurns (EndsTo (ending_of x) ending.Ended) a a) (sym at.phase_is) (none_added (EndsTo ending.Ended ending.Ended) a refl) }
