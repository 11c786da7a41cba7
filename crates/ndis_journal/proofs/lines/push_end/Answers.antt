use Rattle.std.proofs.Common.{◌∷◌, ap, ◌∙◌, rules}
use Rattle.std.specs.Prelude.{codes, decimal}
use Rattle.journal_words.specs.Words.{spaced}
use Rattle.journal_lines.specs.Text.{end_line, count_words}
use Rattle.journal_lines.proofs.Behind.{behind, line-ends}
use Rattle.ndis_journal.proofs.lines.push_end.Goals as goal

pub returns : goal.returns
unfolding end_line
returns c =
    let counts = count_words c.args.turns.now in
    line-ends c.text-2.result _ _ _ _
    (behind _ (codes "end") _ _ (codes "stack" ∷ decimal c.args.head.now.stack ∷ counts) c.in_ok-text.ensures (c.in_ok-push_counts.ensures ∙ ap (λ xs. spaced xs counts) (search rules)))
    c.text-2.ensures
