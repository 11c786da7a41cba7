use Rattle.std.proofs.Common.{◌∷◌, []}
use Rattle.std.specs.Prelude.{codes, decimal}
use Rattle.journal_events.specs.Events.{who_words, event_words, reply_words}
use Rattle.journal_lines.specs.Text.{turn_line}
use Rattle.journal_lines.proofs.Behind.{behind-four, line-ends}
use Rattle.flat_text.specs.Text.{turn_shown}
use Rattle.flat_text.proofs.lines.push_turn.Goals as goal

pub returns : goal.returns
unfolding turn_line
returns c =
    let turn = turn_shown c.args.journal.now.payloads c.args.turn.now in
    line-ends c.text-2.result _ _ _ _
    (behind-four _ (codes "turn") _ _ (decimal c.args.number ∷ []) (who_words turn.who) (event_words turn.event) (codes "=" ∷ reply_words turn.reply) c.in_ok-text.ensures c.in_ok-push_turn_words.ensures)
    c.text-2.ensures
