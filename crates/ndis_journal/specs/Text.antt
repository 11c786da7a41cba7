-- The text of a journal: its lines, each with a line feed at its end.
use Rattle.std.specs.Prelude.{ℕ, List}
use Rattle.std.specs.List.{concat}
use Rattle.journal_store.specs.Written.{Written}
use Rattle.journal_lines.specs.Text.{lines_of}

abbrev pub lines : Written → List (List ℕ)
lines journal = lines_of journal.head journal.turns

-- the text of a journal
abbrev pub text : Written → List ℕ
text journal = concat (lines journal)
