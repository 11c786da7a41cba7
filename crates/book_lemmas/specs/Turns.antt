-- What a piece of a turn does to a book, and what a whole turn does: one record each, which every function cites and
-- which grows by fields. `goes_none` and `goes_then` are proved once for each field.
use Rattle.std.specs.Prelude.{◌≡◌, ℕ, ◌+◌, ◌≤◌, Bool, true, false, List, [], ◌∷◌, ◌++◌, None, length, sum_by, count_by}
use Rattle.flat_journal.specs.Grows.{Grows}
use Rattle.journal_types.specs.declared.Asked.{Asked}
use Rattle.journal_types.specs.declared.Reply.{Reply}
use Rattle.journal_types.specs.declared.Row.{Row}
use Rattle.journal_types.specs.declared.Row.TheVariants as row
use Rattle.journal_types.specs.declared.Turn.{Turn}
use Rattle.stack_rules.specs.Net.{seen, told, after_rows}
use Rattle.stack_rules.specs.Sound.{Next}
use Rattle.book_lemmas.specs.Views.{BookView}
use Rattle.book_lemmas.specs.Did.{Did}
use Rattle.book_lemmas.specs.Shelves.{Balks}
use Rattle.book_lemmas.specs.Stands.{IsShelved}
use Rattle.driver_tray.specs.Tray.{TrayView}

-- the frames that a row shows; the value of a request takes the room of one
abbrev pub row_frames : Row → ℕ
row_frames (row.Issue list owner config direction cancel origin frames) = length frames
row_frames (row.Wire list frames) = length frames
row_frames (row.Deliver list binding how frames) = length frames
row_frames (row.OidIssue request parent binding kind code value) = 1
row_frames (row.OidDone request status value) = 1
row_frames _ = 0

-- the bytes of the frames, or of the value, that a row shows
abbrev pub shown_bytes : Row → ℕ
shown_bytes (row.Issue list owner config direction cancel origin frames) = sum_by length frames
shown_bytes (row.Wire list frames) = sum_by length frames
shown_bytes (row.Deliver list binding how frames) = sum_by length frames
shown_bytes (row.OidIssue request parent binding kind code value) = length value
shown_bytes (row.OidDone request status value) = length value
shown_bytes _ = 0

-- a row that puts something on its way, or a request into the stack
abbrev pub is_way : Row → Bool
is_way (row.Pass list way to) = true
is_way (row.Status number name to) = true
is_way (row.OidIssue request parent binding kind code value) = true
is_way (row.OidDone request status value) = true
is_way _ = false

-- no more room was used than the rows need, and what rows refer to was only added to
pub record HasUsed (before : TrayView) (rows : List Row) (t : TrayView) : Type 0 where
  pub rows_used : before.room.rows ≤ t.room.rows + length rows
  pub frames : before.room.frames ≤ t.room.frames + sum_by row_frames rows
  pub bytes : before.room.bytes ≤ t.room.bytes + sum_by shown_bytes rows
  pub slack : before.slack ≤ t.slack + count_by is_way rows
  pub turns : before.room.turns ≤ t.room.turns
  pub payloads : Grows before.payloads t.payloads

-- these rows were written, nothing else of the journal changed, and the drivers did what the rows say
pub record Goes (seats : List (ℕ × ℕ)) (old new : BookView) (more : List Row) : Type 0 where
  pub head : new.tray.head ≡ old.tray.head
  pub turns : new.tray.turns ≡ old.tray.turns
  pub told_by : new.tray.told_by ≡ old.tray.told_by
  pub net : new.tray.net ≡ after_rows old.tray.net more
  pub rows : new.tray.rows ≡ old.tray.rows ++ more
  pub used : HasUsed old.tray more new.tray
  pub did : Did seats old.held new.held old.tray.net more

-- the turn of these rows
abbrev pub asked_turn : Asked → Reply → List Row → Turn
asked_turn asked answer rows = record { who = asked.who; event = asked.event; reply = answer; rows = rows }

-- one turn was added, which may come next, and the drivers did what its rows say; where one refused it counted that; and
-- shelf and seats are those that are promised of the journal, where they were before
pub record AddsTurn (old new : BookView) (asked : Asked) (answer : Reply) : Type 0 where
  pub rows : List Row
  pub next : Next (seen old.tray.head old.tray.turns) (asked_turn asked answer rows)
  pub turns : new.tray.turns ≡ old.tray.turns ++ asked_turn asked answer rows ∷ []
  pub head : new.tray.head ≡ old.tray.head
  pub idle : new.tray.rows ≡ []
  pub untold : new.tray.told_by ≡ None
  pub did : Did old.held.seats old.held new.held (told (seen old.tray.head old.tray.turns) asked.event answer) rows
  pub refused : Balks asked.event answer old.held new.held
  pub shelved : IsShelved old.tray.net old.tray.turns old.held → IsShelved new.tray.net new.tray.turns new.held
