-- What holds of a book between the turns of a run, and what the parts of a run do.
use Rattle.std.specs.Prelude.{◌≡◌, ◌≢◌, ◌⊎◌, ◌≤◌, ◌<◌, ℕ, ◌+◌, Bool, true, false, List, [], ◌∷◌, None, All, length}
use Rattle.ndis_base.specs.declared.LaneNo.{LaneNo}
use Rattle.ndis_base.specs.declared.Phase.{Phase}
use Rattle.ndis_base.specs.declared.Phase.TheVariants as phase
use Rattle.ndis_base.specs.declared.Who.{Who}
use Rattle.journal_types.specs.declared.Event.{Event}
use Rattle.journal_types.specs.declared.Event.TheVariants as event
use Rattle.journal_types.specs.declared.Reply.{Reply}
use Rattle.journal_types.specs.declared.Reply.TheVariants as reply
use Rattle.flat_journal.specs.declared.types.FlatReply.{FlatReply}
use Rattle.flat_journal.specs.Payloads.{Payloads}
use Rattle.flat_journal.specs.Shown.{reply_of}
use Rattle.journal_types.specs.declared.Turn.{Turn}
use Rattle.script_types.specs.declared.FilterSetup.{FilterSetup}
use Rattle.promise_rules.specs.declared.Opening.{Opening}
use Rattle.promise_rules.specs.declared.Opening.TheVariants.{Initialising, Inserting, Opened}
use Rattle.promise_rules.specs.declared.Ending.TheVariants as ending
use Rattle.promise_rules.specs.declared.Tail.{Tail}
use Rattle.promise_rules.specs.Own.{ending_of}
use Rattle.stack_rules.specs.Conditions.{is_setup}
use Rattle.stack_rules.specs.Net.{seen, after_turn}
use Rattle.stack_rules.specs.Sound.{Next, Sound}
use Rattle.stack_rules.specs.Tests.{is_virtual, phase_is_halted, phase_is_paused}
use Rattle.stack_rules.specs.Work.{work}
use Rattle.work_laws.specs.Bounds.{is_take}
use Rattle.run_laws.specs.Opening.{restart_to_go}
use Rattle.run_laws.specs.Pausing.{pause_to_go}
use Rattle.driver_views.specs.States.{IsRisen}
use Rattle.book_lemmas.specs.Views.{BookView}
use Rattle.book_parts.specs.Events.{IsBook, IsIdle}
use Rattle.book_runs.specs.Adds.{AddsThis, AddsTurns, Told, IsOne, ArePauses, ArePausing, ArePumps, AreRestarts, IsCall, IsTail, OpensTo, EndsTo, pump_reply, restart_reply}

-- between two turns of a run: the book stands, no turn is under way, the miniport isn't virtual, and so far nobody took a
-- message
pub record IsBetween (v : BookView) : Type 0 where
  pub book : IsBook v
  pub idle : IsIdle v
  pub rings : is_virtual v.tray.head.kind ≡ false
  pub untaken : All (λ (turn : Turn). is_take turn.event ≡ false) v.tray.turns

-- between two turns, in this phase
pub record IsInPhase (v : BookView) (at : Phase) : Type 0 where
  pub between : IsBetween v
  pub phase_is : v.tray.net.phase ≡ at

-- a turn of this event was added, asked so and answered so
pub record Turned (old new : BookView) (asker : Who) (e : Event) (answer : Reply) : Type 0 where
  pub between : IsBetween new
  pub turn : Turn
  pub told : Told asker e answer turn
  pub adds : AddsThis old new turn
  pub next : Next (seen old.tray.head old.tray.turns) turn
  pub sound : Sound old.tray.head old.tray.turns
  pub bound : 1 ≤ length old.tray.head.bindings
  pub before : old.tray.net ≡ seen old.tray.head old.tray.turns
  pub after : new.tray.net ≡ after_turn (seen old.tray.head old.tray.turns) turn

-- where no request is left, none comes
abbrev pub KeepsNone : BookView → BookView → Type 0
KeepsNone old new = old.tray.net.requests ≡ [] → new.tray.net.requests ≡ []

-- a pump would move nothing: no request is left, unless the stack is Paused or Halted; and where it is Paused nothing is on
-- its way
pub record IsAtRest (v : BookView) : Type 0 where
  pub requests : phase_is_paused v.tray.net.phase ≡ false → phase_is_halted v.tray.net.phase ≡ false → v.tray.net.requests ≡ []
  pub things : v.tray.net.phase ≡ phase.Paused → v.tray.net.things ≡ []

-- a pump: whether anything moved; where nothing did, the stack is at rest
pub record Pumped (asker : Who) (moved : Bool) (old new : BookView) : Type 0 where
  pub between : IsBetween new
  pub rests : moved ≡ false → IsAtRest new
  pub keeps : KeepsNone old new
  pub phase_is : new.tray.net.phase ≡ old.tray.net.phase
  pub fewer : moved ≡ true → work new.tray.net < work old.tray.net
  pub added : AddsTurns (IsOne asker event.Pump (pump_reply moved)) old new

-- pumps until nothing moves: the stack is at rest
pub record PumpedAll (asker : Who) (old new : BookView) : Type 0 where
  pub between : IsBetween new
  pub rests : IsAtRest new
  pub keeps : KeepsNone old new
  pub phase_is : new.tray.net.phase ≡ old.tray.net.phase
  pub added : AddsTurns (ArePumps asker) old new

-- the phase after a step of a pause
abbrev pub pause_phase : Bool → Phase
pause_phase true = phase.Paused
pause_phase false = phase.Pausing

-- a drain of a stack that pauses: something moved
pub record Drained (asker : Who) (old new : BookView) : Type 0 where
  pub now : IsInPhase new phase.Pausing
  pub fewer : pause_to_go new.tray.net < pause_to_go old.tray.net
  pub keeps : KeepsNone old new
  pub added : AddsTurns (IsOne asker event.Drain reply.Moved) old new

-- a step of a pause: whether the stack is Paused
pub record PausesOnce (asker : Who) (done : Bool) (old new : BookView) : Type 0 where
  pub now : IsInPhase new (pause_phase done)
  pub fewer : done ≡ false → pause_to_go new.tray.net < pause_to_go old.tray.net
  pub keeps : KeepsNone old new
  pub added : AddsTurns (ArePausing asker done) old new

pub record PausesAll (asker : Who) (old new : BookView) : Type 0 where
  pub now : IsInPhase new phase.Paused
  pub keeps : KeepsNone old new
  pub added : AddsTurns (ArePauses asker) old new

-- between two turns of a restart
pub record IsRestarting (v : BookView) : Type 0 where
  pub between : IsBetween v
  pub phase_is : (v.tray.net.phase ≡ phase.Paused) ⊎ (v.tray.net.phase ≡ phase.Restarting)

-- a step of a restart: whether the stack runs
pub record RestartsOnce (asker : Who) (done : Bool) (old new : BookView) : Type 0 where
  pub between : IsBetween new
  pub running : done ≡ true → new.tray.net.phase ≡ phase.Running
  pub goes_on : done ≡ false → IsRestarting new
  pub fewer : done ≡ false → restart_to_go new.tray.net < restart_to_go old.tray.net
  pub added : AddsTurns (IsOne asker event.RestartNext (restart_reply done)) old new

pub record RestartsAll (asker : Who) (old new : BookView) : Type 0 where
  pub now : IsInPhase new phase.Running
  pub added : AddsTurns (AreRestarts asker) old new

-- a filter was asked for below those that are attached, so many before it and so many then
pub record InsertsOne (before : ℕ) (filter : FilterSetup) (attached : ℕ) (old new : BookView) : Type 0 where
  pub now : IsInPhase new phase.Paused
  pub near : attached ≤ before + 1
  pub added : (others : List FilterSetup) → AddsTurns (OpensTo (Inserting before) (filter ∷ others) (Inserting attached) others) old new

-- filters were inserted from the top, so many before them and so many in the end
pub record InsertsEach (before : ℕ) (filters : List FilterSetup) (attached : ℕ) (old new : BookView) : Type 0 where
  pub now : IsInPhase new phase.Paused
  pub most : attached ≤ before + length filters
  pub added : AddsTurns (OpensTo (Inserting before) filters (Inserting attached) []) old new

-- a stack was opened: it runs, or it is Halted since its adapter refused, and counted that
pub record OpensStack (filters : List FilterSetup) (old new : BookView) : Type 0 where
  pub between : IsBetween new
  pub ran : (new.tray.net.phase ≡ phase.Running) ⊎ ((new.tray.net.phase ≡ phase.Halted) × IsRisen old.held.miniport.refusals new.held.miniport.refusals)
  pub left : List FilterSetup
  pub added : AddsTurns (OpensTo Initialising filters Opened left) old new

-- what holds after a step of a pause that is answered so: it is refused or over, or the stack pauses; and where it waits
-- something is left
abbrev pub PausesSo : Reply → BookView → Type 0
PausesSo (reply.Refused cause) v = Unit {0}
PausesSo reply.Paused v = Unit {0}
PausesSo (reply.Waiting lists) v = IsInPhase v phase.Pausing × (0 < length v.tray.net.things)
PausesSo _ v = IsInPhase v phase.Pausing

-- and after a step of a restart: it is refused or over, or the stack restarts
abbrev pub RestartsSo : Reply → BookView → Type 0
RestartsSo (reply.Refused cause) v = Unit {0}
RestartsSo reply.Running v = Unit {0}
RestartsSo _ v = IsRestarting v

-- and after a call
abbrev pub AnswersSo : Event → Reply → BookView → Type 0
AnswersSo event.BeginPause told v = PausesSo told v
AnswersSo event.PauseNext told v = PausesSo told v
AnswersSo event.RestartNext told v = RestartsSo told v
AnswersSo _ told v = Unit {0}

-- a tail of a lane's call
pub record MakesTail (lane : LaneNo) (tail : Tail) (old new : BookView) : Type 0 where
  pub between : IsBetween new
  pub added : AddsTurns (IsTail lane tail) old new

-- a call and its tail
pub record MakesCall (lane : LaneNo) (e : Event) (pump : Bool) (old new : BookView) : Type 0 where
  pub between : IsBetween new
  pub added : AddsTurns (IsCall lane e pump) old new

-- a stack was ended
pub record EndsStack (old new : BookView) : Type 0 where
  pub now : IsInPhase new phase.Halted
  pub added : AddsTurns (EndsTo (ending_of old.tray.net.phase) ending.Ended) old new

-- the events that a call of a script asks for
abbrev pub MayCall : Event → Type 0
MayCall (event.Send binding cancel frames) = Unit {0}
MayCall (event.Indicate frames) = Unit {0}
MayCall (event.Lend frames) = Unit {0}
MayCall (event.GiveBack binding list) = Unit {0}
MayCall (event.Cancel id) = Unit {0}
MayCall (event.Status name) = Unit {0}
MayCall (event.Ask binding kind code value) = Unit {0}
MayCall event.Transmit = Unit {0}
MayCall event.Pump = Unit {0}
MayCall event.Drain = Unit {0}
MayCall event.BeginPause = Unit {0}
MayCall event.PauseNext = Unit {0}
MayCall event.RestartNext = Unit {0}
MayCall (event.Insert kind position setup) = Unit {0}
MayCall (event.Remove filter) = Unit {0}
MayCall (event.Replace filter kind setup) = Unit {0}
MayCall _ = ⊥

-- the set-up of a filter may be asked for
abbrev pub is_fine : FilterSetup → Bool
is_fine filter = is_setup filter.setup

-- a test finds out whether this is the answer
pub record IsAnswer (wanted : Reply) (answer : FlatReply) (found : Bool) : Type 0 where
  pub yes : found ≡ true → (p : Payloads) → reply_of p answer ≡ wanted
  pub no : found ≡ false → (p : Payloads) → reply_of p answer ≢ wanted

-- a pause waits for what is left
abbrev pub IsWaiting : Reply → Type 0
IsWaiting (reply.Waiting n) = Unit {0}
IsWaiting _ = ⊥

abbrev pub is_inserted : Reply → Bool
is_inserted (reply.Inserted filter) = true
is_inserted _ = false
