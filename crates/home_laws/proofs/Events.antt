-- The rows of each event fit, and so do those of a sound journal.
use Rattle.std.proofs.Common.{List, [], ◌∷◌, sym, subst}
use Rattle.journal_types.specs.declared.Event.{Event}
use Rattle.journal_types.specs.declared.Event.TheVariants as event
use Rattle.journal_types.specs.declared.Row.{Row}
use Rattle.journal_types.specs.declared.StackHead.{StackHead}
use Rattle.journal_types.specs.declared.Turn.{Turn}
use Rattle.stack_rules.specs.declared.Choice.{Choice}
use Rattle.stack_rules.specs.Net.{Net, start, told, after_turn, after_turns, seen}
use Rattle.stack_rules.specs.Outcome.{Outcome}
use Rattle.stack_rules.specs.Pauses.{initialize_outcome, begin_outcome, pause_outcome, restart_outcome, halt_outcome}
use Rattle.stack_rules.specs.Requests.{ask_outcome}
use Rattle.stack_rules.specs.Rewires.{insert_outcome, remove_outcome, replace_outcome}
use Rattle.stack_rules.specs.Statuses.{status_outcome}
use Rattle.stack_rules.specs.Sound.{outcome, Next, SoundFrom, Sound}
use Rattle.home_laws.specs.Rows.{rows_of}
use Rattle.home_laws.proofs.Fits.{Register, empty, registered_rows, AllFit, IsSane}
use Rattle.home_laws.proofs.Registers.{sane_empty, sane_rows, AllFit-append, registered_rows-append}
use Rattle.home_laws.proofs.Agreed.{Agrees, agrees_rows, agrees_start, agrees_told}
use Rattle.home_laws.proofs.Quiet.{QuietOutcome, quiet_fit, initialize_quiet, begin_quiet, pause_quiet, restart_quiet, halt_quiet, insert_quiet, remove_quiet, replace_quiet, ask_quiet, status_quiet}
use Rattle.home_laws.proofs.Issues.{FitOutcome}
use Rattle.home_laws.proofs.Sends.{send_fits, transmit_fits}
use Rattle.home_laws.proofs.Receives.{indicate_fits, give_back_fits}
use Rattle.home_laws.proofs.Lends.{lend_fits}
use Rattle.home_laws.proofs.Cancels.{cancel_fits}
use Rattle.home_laws.proofs.Crosses.{take_fits, put_fits, done_fits, take_up_fits, put_up_fits}
use Rattle.home_laws.proofs.Pumps.{pump_fits}
use Rattle.home_laws.proofs.Drains.{drain_fits}

quiet_outcome : (reg : Register) (o : Outcome) → QuietOutcome o → FitOutcome reg o
quiet_outcome reg o q = quiet_fit reg o.rows q

pub outcome_fits : (net : Net) (reg : Register) (e : Event) (choice : Choice) → Agrees net reg → IsSane reg → FitOutcome reg (outcome net e choice)
outcome_fits net reg event.Initialize choice h s = quiet_outcome reg (initialize_outcome net choice.refuses) (initialize_quiet net choice.refuses)
outcome_fits net reg (event.Insert kind position setup) choice h s = quiet_outcome reg (insert_outcome net position choice) (insert_quiet net position choice)
outcome_fits net reg (event.Remove filter) choice h s = quiet_outcome reg (remove_outcome net filter) (remove_quiet net filter)
outcome_fits net reg (event.Replace filter kind setup) choice h s = quiet_outcome reg (replace_outcome net filter choice) (replace_quiet net filter choice)
outcome_fits net reg (event.Send binding cancel frames) choice h s = send_fits net reg binding cancel frames h
outcome_fits net reg (event.Indicate frames) choice h s = indicate_fits net reg frames h
outcome_fits net reg (event.Lend frames) choice h s = lend_fits net reg frames h s
outcome_fits net reg (event.GiveBack binding list) choice h s = give_back_fits net reg binding list h
outcome_fits net reg (event.Cancel id) choice h s = cancel_fits net reg id h
outcome_fits net reg (event.Ask binding kind code value) choice h s = quiet_outcome reg (ask_outcome net binding kind code value) (ask_quiet net binding kind code value)
outcome_fits net reg (event.Status name) choice h s = quiet_outcome reg (status_outcome net name) (status_quiet net name)
outcome_fits net reg event.Transmit choice h s = transmit_fits net reg h s
outcome_fits net reg event.Pump choice h s = pump_fits net reg choice.keeps h s
outcome_fits net reg event.Drain choice h s = drain_fits net reg choice.keeps h s
outcome_fits net reg event.BeginPause choice h s = quiet_outcome reg (begin_outcome net) (begin_quiet net)
outcome_fits net reg event.PauseNext choice h s = quiet_outcome reg (pause_outcome net) (pause_quiet net)
outcome_fits net reg event.RestartNext choice h s = quiet_outcome reg (restart_outcome net) (restart_quiet net)
outcome_fits net reg event.Halt choice h s = quiet_outcome reg (halt_outcome net) (halt_quiet net)
outcome_fits net reg event.CrossTake choice h s = take_fits net reg h
outcome_fits net reg (event.CrossPut stack message vlan frames) choice h s = put_fits net reg stack message vlan frames h
outcome_fits net reg (event.CrossDone message status) choice h s = done_fits net reg message status h
outcome_fits net reg (event.CrossTakeUp binding vlan) choice h s = take_up_fits net reg binding vlan
outcome_fits net reg (event.CrossPutUp stack message frames) choice h s = put_up_fits net reg stack message frames h

-- a turn that may come next
pub turn_fits : (net : Net) (reg : Register) (turn : Turn) → Agrees net reg → IsSane reg → Next net turn → AllFit reg turn.rows
turn_fits net reg turn h s n = subst (AllFit reg) (sym n.rows) (outcome_fits net reg turn.event n.choice h s)

pub turn_agrees : (net : Net) (reg : Register) (turn : Turn) → Agrees net reg → IsSane reg → AllFit reg turn.rows → Agrees (after_turn net turn) (registered_rows reg turn.rows)
turn_agrees net reg turn h s f = agrees_rows (told net turn.event turn.reply) reg turn.rows (agrees_told net reg turn.event turn.reply h) s f

-- the turns of a sound journal
pub record FitsAfter (reg : Register) (rows : List Row) (net : Net) : Type 0 where
  pub fit : AllFit reg rows
  pub agrees : Agrees net (registered_rows reg rows)

pub turns_fit : (net : Net) (reg : Register) (turns : List Turn) → Agrees net reg → IsSane reg → SoundFrom net turns → FitsAfter reg (rows_of turns) (after_turns net turns)
turns_fit net reg [] h s n = record { fit = tt; agrees = h }
turns_fit net reg (turn ∷ turns) h s n =
    let fit : AllFit reg turn.rows = turn_fits net reg turn h s n.0 in
    let rest : FitsAfter (registered_rows reg turn.rows) (rows_of turns) (after_turns (after_turn net turn) turns) =
    turns_fit (after_turn net turn) (registered_rows reg turn.rows) turns (turn_agrees net reg turn h s fit) (sane_rows reg turn.rows s fit) n.1 in
    record {
      fit = AllFit-append reg turn.rows (rows_of turns) fit rest.fit;
      agrees = subst (Agrees (after_turns (after_turn net turn) turns)) (sym (registered_rows-append reg turn.rows (rows_of turns))) rest.agrees;
    }

pub journal_fits : (head : StackHead) (turns : List Turn) → Sound head turns → FitsAfter empty (rows_of turns) (seen head turns)
journal_fits head turns n = turns_fit (start head) empty turns (agrees_start head) sane_empty n
