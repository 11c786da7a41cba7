use Rattle.flat_journal.specs.Shown.{row_of}
use Rattle.journal_rows.specs.Rows.{row_words}
use Rattle.journal_lines.specs.Text.{row_line}
use Rattle.journal_lines.proofs.Behind.{behind-none, line-ends}
use Rattle.flat_text.proofs.lines.push_row_line.Goals as goal

pub returns : goal.returns
unfolding row_line
returns c = line-ends c.text.result _ _ _ _ (behind-none _ _ (row_words (row_of c.args.journal.now.payloads c.args.row.now)) c.in_ok-push_row.ensures) c.text.ensures
