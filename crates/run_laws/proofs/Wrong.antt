-- In the wrong phase an event is refused.
use Rattle.std.proofs.Common.{◌≡◌, Bool, true, false, cond, refl}
use Rattle.journal_types.specs.declared.Event.TheVariants as event
use Rattle.journal_types.specs.declared.Refusal.TheVariants as refusal
use Rattle.journal_types.specs.declared.Reply.TheVariants as reply
use Rattle.journal_types.specs.declared.Turn.{Turn}
use Rattle.stack_rules.specs.Tests.{phase_is_halted, phase_is_paused, phase_is_pausing, phase_is_running}
use Rattle.stack_rules.specs.Net.{Net, after_rows, seen}
use Rattle.stack_rules.specs.Outcome.{Outcome, refused}
use Rattle.run_laws.specs.Turns.{ChangesNothing, EachTurn}
use Rattle.run_laws.specs.Wrong.{may_restart, NeedsPhase}
use Rattle.run_laws.proofs.Turns.{IsTurn, nothing, turn_of}

-- an outcome that is refused unless a test passes
refused_by : (net : Net) (turn : Turn) (b : Bool) (o : Outcome) → b ≡ false →
    IsTurn net turn (cond b o (refused (refusal.WrongPhase net.phase))) (after_rows net (cond b o (refused (refusal.WrongPhase net.phase))).rows) → ChangesNothing net turn (reply.Refused (refusal.WrongPhase net.phase))
refused_by net turn true o f t = cc
refused_by net turn false o f t = nothing net turn (refused (refusal.WrongPhase net.phase)) net (reply.Refused (refusal.WrongPhase net.phase)) t refl refl

pub initialize_needs : EachTurn (NeedsPhase event.Initialize phase_is_halted)
initialize_needs head turns turn s bound n e f = refused_by (seen head turns) turn (phase_is_halted (seen head turns).phase) _ f (turn_of (seen head turns) turn event.Initialize n e)

pub restart_needs : EachTurn (NeedsPhase event.RestartNext may_restart)
restart_needs head turns turn s bound n e f = refused_by (seen head turns) turn (may_restart (seen head turns).phase) _ f (turn_of (seen head turns) turn event.RestartNext n e)

pub begin_needs : EachTurn (NeedsPhase event.BeginPause phase_is_running)
begin_needs head turns turn s bound n e f = refused_by (seen head turns) turn (phase_is_running (seen head turns).phase) _ f (turn_of (seen head turns) turn event.BeginPause n e)

pub pause_needs : EachTurn (NeedsPhase event.PauseNext phase_is_pausing)
pause_needs head turns turn s bound n e f = refused_by (seen head turns) turn (phase_is_pausing (seen head turns).phase) _ f (turn_of (seen head turns) turn event.PauseNext n e)

pub halt_needs : EachTurn (NeedsPhase event.Halt phase_is_paused)
halt_needs head turns turn s bound n e f = refused_by (seen head turns) turn (phase_is_paused (seen head turns).phase) _ f (turn_of (seen head turns) turn event.Halt n e)
