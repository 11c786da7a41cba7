-- What contracts see of a journal: its head and turns, the rows of the turn under way, what rows and
-- events refer to, and the room.
use Rattle.std.specs.Prelude.{ℕ, ◌≤◌, List, length, All}
use Rattle.journal_types.specs.declared.Row.{Row}
use Rattle.journal_types.specs.declared.StackHead.{StackHead}
use Rattle.journal_types.specs.declared.Turn.{Turn}
use Rattle.flat_journal.specs.declared.types.FlatRow.{FlatRow}
use Rattle.flat_journal.specs.declared.types.TurnHead.{TurnHead}
use Rattle.flat_journal.specs.declared.types.Room.{Room}
use Rattle.flat_journal.specs.Payloads.{Payloads}
use Rattle.flat_journal.specs.Within.{RowWithin, TurnWithin}

pub record FlatView : Type 0 where
  pub head : StackHead
  pub turns : List Turn
  pub rows : List Row
  pub payloads : Payloads
  pub room : Room

-- all that the heads and rows refer to is there, and only the rows from `begun` on are of no turn yet
pub record Kept (p : Payloads) (heads : List TurnHead) (rows : List FlatRow) (begun : ℕ) : Type 0 where
  pub rows_within : All (RowWithin p) rows
  pub turns_within : All (TurnWithin p begun) heads
  pub begun_within : begun ≤ length rows
