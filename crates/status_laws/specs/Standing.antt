-- What is known of the statuses on their way after each turn of a sound journal.
use Rattle.std.specs.Prelude.{◌≡◌, List}
use Rattle.std.specs.List.{Contains}
use Rattle.ndis_base.specs.declared.Phase.TheVariants.{Halted}
use Rattle.journal_types.specs.declared.Row.{Row}
use Rattle.journal_types.specs.declared.Row.TheVariants as row
use Rattle.journal_types.specs.declared.StackHead.{StackHead}
use Rattle.journal_types.specs.declared.Turn.{Turn}
use Rattle.stack_rules.specs.declared.StatusAway.{StatusAway}
use Rattle.stack_rules.specs.Net.{Net, seen}
use Rattle.stack_rules.specs.Pauses.{statuses_away}
use Rattle.stack_rules.specs.Sound.{Sound}
use Rattle.home_laws.specs.Rows.{rows_of}
use Rattle.place_laws.specs.Kept.{EachStatus}

-- the row that sends a status on its way
abbrev pub status_row : StatusAway → Row
status_row s = row.Status s.number s.name s.to

-- Each status on its way has a row that sent it there; while the stack is Halted there is none.
pub record StatusesStandByRows (rows : List Row) (net : Net) : Type 0 where
  pub sent : EachStatus (λ s. Contains rows (status_row s)) net.things
  pub halted : net.phase ≡ Halted → statuses_away net ≡ 0

-- Statuses stand after every sound journal.
abbrev pub EachStatusStands : Type 0
EachStatusStands = (head : StackHead) (turns : List Turn) → Sound head turns → StatusesStandByRows (rows_of turns) (seen head turns)
