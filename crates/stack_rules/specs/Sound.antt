-- Which turn may come next, and which journals are sound.
use Rattle.std.specs.Prelude.{◌≡◌, true, List, [], ◌∷◌}
use Rattle.journal_types.specs.declared.StackHead.{StackHead}
use Rattle.journal_types.specs.declared.Event.{Event}
use Rattle.journal_types.specs.declared.Event.TheVariants as event
use Rattle.journal_types.specs.declared.Turn.{Turn}
use Rattle.stack_rules.specs.declared.Choice.{Choice}
use Rattle.stack_rules.specs.Net.{Net, start, after_turn}
use Rattle.stack_rules.specs.Outcome.{Outcome}
use Rattle.stack_rules.specs.Sends.{send_outcome, transmit_outcome}
use Rattle.stack_rules.specs.Receives.{indicate_outcome, lend_outcome, give_back_outcome}
use Rattle.stack_rules.specs.Cancels.{cancel_outcome}
use Rattle.stack_rules.specs.Requests.{ask_outcome}
use Rattle.stack_rules.specs.Statuses.{status_outcome}
use Rattle.stack_rules.specs.Pumps.{pump_outcome}
use Rattle.stack_rules.specs.Drains.{drain_outcome}
use Rattle.stack_rules.specs.Pauses.{initialize_outcome, begin_outcome, pause_outcome, restart_outcome, halt_outcome}
use Rattle.stack_rules.specs.Rewires.{insert_outcome, remove_outcome, replace_outcome}
use Rattle.stack_rules.specs.Crosses.{take_outcome, put_outcome, done_outcome, take_up_outcome, put_up_outcome}
use Rattle.stack_rules.specs.Conditions.{may_ask}

-- what an event answers and writes, as the drivers choose
abbrev pub outcome : Net → Event → Choice → Outcome
outcome net event.Initialize choice = initialize_outcome net choice.refuses
outcome net (event.Insert kind position setup) choice = insert_outcome net position choice
outcome net (event.Remove filter) choice = remove_outcome net filter
outcome net (event.Replace filter kind setup) choice = replace_outcome net filter choice
outcome net (event.Send binding cancel frames) choice = send_outcome net binding cancel frames
outcome net (event.Indicate frames) choice = indicate_outcome net frames
outcome net (event.Lend frames) choice = lend_outcome net frames
outcome net (event.GiveBack binding list) choice = give_back_outcome net binding list
outcome net (event.Cancel id) choice = cancel_outcome net id
outcome net (event.Ask binding kind code value) choice = ask_outcome net binding kind code value
outcome net (event.Status name) choice = status_outcome net name
outcome net event.Transmit choice = transmit_outcome net
outcome net event.Pump choice = pump_outcome net choice.keeps
outcome net event.Drain choice = drain_outcome net choice.keeps
outcome net event.BeginPause choice = begin_outcome net
outcome net event.PauseNext choice = pause_outcome net
outcome net event.RestartNext choice = restart_outcome net
outcome net event.Halt choice = halt_outcome net
outcome net event.CrossTake choice = take_outcome net
outcome net (event.CrossPut stack message vlan frames) choice = put_outcome net stack message vlan frames
outcome net (event.CrossDone message status) choice = done_outcome net message status
outcome net (event.CrossTakeUp binding vlan) choice = take_up_outcome net binding vlan
outcome net (event.CrossPutUp stack message frames) choice = put_up_outcome net stack message frames

-- The turn may come next: its event may be asked, and its reply and rows are those of the event as the
-- drivers chose.
pub record Next (net : Net) (turn : Turn) : Type 0 where
  pub choice : Choice
  pub asked : may_ask net.head turn.event ≡ true
  pub reply : turn.reply ≡ (outcome net turn.event choice).reply
  pub rows : turn.rows ≡ (outcome net turn.event choice).rows

abbrev pub SoundFrom : Net → List Turn → Type 0
SoundFrom net [] = Unit {0}
SoundFrom net (turn ∷ turns) = Next net turn × SoundFrom (after_turn net turn) turns

-- Each turn may come next after those before it.
abbrev pub Sound : StackHead → List Turn → Type 0
Sound head turns = SoundFrom (start head) turns
