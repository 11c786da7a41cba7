-- How many bytes the frames of a turn have.
use Rattle.std.specs.Prelude.{ℕ, ◌+◌, List, length, sum_by}
use Rattle.journal_types.specs.declared.Event.{Event}
use Rattle.journal_types.specs.declared.Event.TheVariants.{Send, Indicate, Lend, CrossPut, CrossPutUp}
use Rattle.journal_types.specs.declared.Reply.{Reply}
use Rattle.journal_types.specs.declared.Reply.TheVariants.{Taken}
use Rattle.journal_types.specs.declared.Row.{Row}
use Rattle.journal_types.specs.declared.Row.TheVariants.{Issue, Wire, Deliver, CrossOut, CrossIn}
use Rattle.journal_types.specs.declared.Turn.{Turn}

abbrev pub frames_bytes : List (List ℕ) → ℕ
frames_bytes frames = sum_by length frames

abbrev pub event_bytes : Event → ℕ
event_bytes (Send binding cancel frames) = frames_bytes frames
event_bytes (Indicate frames) = frames_bytes frames
event_bytes (Lend frames) = frames_bytes frames
event_bytes (CrossPut stack message vlan frames) = frames_bytes frames
event_bytes (CrossPutUp stack message frames) = frames_bytes frames
event_bytes _ = 0

abbrev pub reply_bytes : Reply → ℕ
reply_bytes (Taken message frames) = frames_bytes frames
reply_bytes _ = 0

abbrev pub row_bytes : Row → ℕ
row_bytes (Issue list owner config direction cancel origin frames) = frames_bytes frames
row_bytes (Wire list frames) = frames_bytes frames
row_bytes (Deliver list binding how frames) = frames_bytes frames
row_bytes (CrossOut message way frames) = frames_bytes frames
row_bytes (CrossIn stack message way frames) = frames_bytes frames
row_bytes _ = 0

-- the bytes of all frames in a turn
abbrev pub turn_bytes : Turn → ℕ
turn_bytes turn = event_bytes turn.event + reply_bytes turn.reply + sum_by row_bytes turn.rows
