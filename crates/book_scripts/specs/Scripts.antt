-- What the calls of a script, and a whole run of them, add to a stack's journal.
use Rattle.std.specs.Prelude.{◌≡◌, ◌⊎◌, ◌==◌, ◌&&◌, Bool, true, false, List, [], ◌∷◌, ◌++◌, Option, Some}
use Rattle.ndis_base.specs.declared.Phase.TheVariants as phase
use Rattle.journal_types.specs.declared.Event.{Event}
use Rattle.journal_types.specs.declared.Event.TheVariants as event
use Rattle.journal_types.specs.declared.StackHead.{StackHead}
use Rattle.journal_types.specs.declared.Turn.{Turn}
use Rattle.script_types.specs.declared.Call.{Call}
use Rattle.script_types.specs.declared.FilterSetup.{FilterSetup}
use Rattle.script_events.specs.Events.{event_of}
use Rattle.stack_rules.specs.Conditions.{may_ask}
use Rattle.stack_rules.specs.Net.{seen}
use Rattle.promise_rules.specs.declared.Opening.TheVariants.{Initialising, Opened}
use Rattle.promise_rules.specs.declared.Ending.TheVariants as ending
use Rattle.promise_rules.specs.Own.{ending_of}
use Rattle.driver_views.specs.States.{IsRisen}
use Rattle.book_lemmas.specs.Views.{BookView}
use Rattle.book_runs.specs.Adds.{AddsTurns, IsCall, OpensTo, EndsTo}
pub use Rattle.book_runs.specs.Runs.{IsBetween, IsInPhase, is_fine}

-- an event that a run can ask: a send, an indication, frames that are lent, a list that a protocol gives back, a cancel, a
-- status, an OID request, a transmit, a pump or a drain, a step of a pause or of a restart, or a change of the filters
abbrev pub is_asked_event : StackHead → Option Event → Bool
is_asked_event head (Some (event.Send binding cancel frames)) = may_ask head (event.Send binding cancel frames)
is_asked_event head (Some (event.Indicate frames)) = may_ask head (event.Indicate frames)
is_asked_event head (Some (event.Lend frames)) = may_ask head (event.Lend frames)
is_asked_event head (Some (event.GiveBack binding list)) = may_ask head (event.GiveBack binding list)
is_asked_event head (Some (event.Cancel id)) = may_ask head (event.Cancel id)
is_asked_event head (Some (event.Status name)) = true
is_asked_event head (Some (event.Ask binding kind code value)) = may_ask head (event.Ask binding kind code value)
is_asked_event head (Some event.Transmit) = true
is_asked_event head (Some event.Pump) = true
is_asked_event head (Some event.Drain) = true
is_asked_event head (Some event.BeginPause) = true
is_asked_event head (Some event.PauseNext) = true
is_asked_event head (Some event.RestartNext) = true
is_asked_event head (Some (event.Insert kind position setup)) = may_ask head (event.Insert kind position setup)
is_asked_event head (Some (event.Remove filter)) = may_ask head (event.Remove filter)
is_asked_event head (Some (event.Replace filter kind setup)) = may_ask head (event.Replace filter kind setup)
is_asked_event head _ = false

-- a call of the only stack
abbrev pub is_asked_call : StackHead → Call → Bool
is_asked_call head c = (c.stack == 0) && is_asked_event head (event_of c.kind)

-- the turns of a call: it, and its tail
pub record Makes (call : Call) (turns : List Turn) : Type 0 where
  pub event : Event
  pub asked : event_of call.kind ≡ Some event
  pub is : IsCall call.lane event call.pump turns

-- the turns of these calls, one after the other
abbrev pub MakesAll : List Call → List Turn → Type 0
MakesAll [] turns = turns ≡ []
MakesAll (c ∷ cs) turns = (first : List Turn) × (rest : List Turn) × (turns ≡ first ++ rest) × Makes c first × MakesAll cs rest

-- a call was made, or these calls were: the head stays
pub record MakesOne (call : Call) (old new : BookView) : Type 0 where
  pub between : IsBetween new
  pub head_is : new.tray.head ≡ old.tray.head
  pub added : AddsTurns (Makes call) old new

pub record MakesEach (calls : List Call) (old new : BookView) : Type 0 where
  pub between : IsBetween new
  pub head_is : new.tray.head ≡ old.tray.head
  pub added : AddsTurns (MakesAll calls) old new

-- the turns are an opening with these filters, these calls, and the ending by the phase that the stack is then in
pub record IsWhole (head : StackHead) (before : List Turn) (filters : List FilterSetup) (calls : List Call) (turns : List Turn) : Type 0 where
  pub opening : List Turn
  pub middle : List Turn
  pub last : List Turn
  pub left : List FilterSetup
  pub split : turns ≡ opening ++ (middle ++ last)
  pub opens : OpensTo Initialising filters Opened left opening
  pub made : MakesAll calls middle
  pub ends : EndsTo (ending_of (seen head (before ++ (opening ++ middle))).phase) ending.Ended last

-- a whole run was added: the stack is Halted again, and the drivers did what its rows say; it runs once it is opened,
-- unless its adapter refused, and counted that
pub record RunsWhole (filters : List FilterSetup) (calls : List Call) (old new : BookView) : Type 0 where
  pub now : IsInPhase new phase.Halted
  pub head_is : new.tray.head ≡ old.tray.head
  pub added : AddsTurns (IsWhole old.tray.head old.tray.turns filters calls) old new
  pub turns : new.tray.turns ≡ old.tray.turns ++ added.more
  pub ran : ((seen old.tray.head (old.tray.turns ++ added.kind.opening)).phase ≡ phase.Running) ⊎ IsRisen old.held.miniport.refusals new.held.miniport.refusals
