-- The text of a journal: its lines, each with a line feed at its end.
use Rattle.std.specs.Prelude.{ℕ, List, map}
use Rattle.std.specs.List.{concat}
use Rattle.journal_types.specs.declared.Turn.{Turn}
use Rattle.flat_journal.specs.declared.types.TurnRef.{TurnRef}
use Rattle.flat_journal.specs.Payloads.{Payloads}
use Rattle.flat_journal.specs.Shown.{event_of, reply_of, row_of}
use Rattle.flat_journal.specs.Flat.{FlatView}
use Rattle.journal_lines.specs.Text.{lines_of, text_of}

-- the lines of a journal
abbrev pub lines : FlatView → List (List ℕ)
lines journal = lines_of journal.head journal.turns

-- the text of a journal
abbrev pub text : FlatView → List ℕ
text journal = text_of journal.head journal.turns

-- the turn that is read in a journal
abbrev pub turn_shown : Payloads → TurnRef → Turn
turn_shown p turn = record { who = turn.who; event = event_of p turn.event; reply = reply_of p turn.reply; rows = map (row_of p) turn.rows.now }
