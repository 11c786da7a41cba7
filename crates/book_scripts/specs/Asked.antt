-- Which turns of a run begin a pause: those of the script's calls that ask for one, and that of the ending.
use Rattle.std.specs.Prelude.{◌≡◌, ◌⊎◌, List}
use Rattle.std.specs.List.{Contains}
use Rattle.ndis_base.specs.declared.Who.TheVariants as who
use Rattle.journal_types.specs.declared.Event.TheVariants as event
use Rattle.journal_types.specs.declared.Turn.{Turn}
use Rattle.script_types.specs.declared.Call.{Call}
use Rattle.script_types.specs.declared.CallKind.TheVariants as ask

-- the turn is that of a call which begins a pause, by the call's lane
pub record IsPauseCall (calls : List Call) (turn : Turn) : Type 0 where
  pub call : Call
  pub there : Contains calls call
  pub begins : call.kind ≡ ask.BeginPause
  pub by : turn.who ≡ who.Call call.lane

-- the turn is one of the run itself, in the ending of the stack
pub record IsInEnding (ending : List Turn) (turn : Turn) : Type 0 where
  pub there : Contains ending turn
  pub by : turn.who ≡ who.Own

-- Each turn that asks for a pause is that of such a call, or is in the ending.
abbrev pub PausesAreAsked : List Call → List Turn → List Turn → Type 0
PausesAreAsked calls ending turns = (turn : Turn) → Contains turns turn → turn.event ≡ event.BeginPause → IsPauseCall calls turn ⊎ IsInEnding ending turn
