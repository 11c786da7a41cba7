-- What contracts see of a journal: its head, its turns, and the room for the rows of further turns and
-- for the bytes of the frames in them.
use Rattle.std.specs.Prelude.{ℕ, List}
use Rattle.journal_types.specs.declared.StackHead.{StackHead}
use Rattle.journal_types.specs.declared.Turn.{Turn}

pub record Written : Type 0 where
  pub head : StackHead
  pub turns : List Turn
  pub row_room : ℕ
  pub byte_room : ℕ
