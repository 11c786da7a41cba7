use Rattle.std.proofs.Common.{◌+◌, arith}
use Rattle.std.proofs.lemmas.Option.{slice_get_within}
use Rattle.journal_lines.specs.Text.{turn_line}
use Rattle.flat_text.specs.Text.{turn_shown}
use Rattle.flat_text.proofs.Turns.{lines_next}
use Rattle.flat_text.proofs.lines.FlatLines.push_next_turn.Goals as goal

pub returns : goal.returns
returns c =
    let journal = c.args.journal.now in
    let turn = turn_shown journal.payloads c.turn-turn.result in
    record {
      line = turn_line (c.args.before + 1) turn;
      is = lines_next journal.head journal.turns c.args.before turn c.turn-turn.ensures.shown;
      added = c.in_ok-push_turn.ensures;
      within = (c.turn-turn.ensures.rows, omega (arith, slice_get_within journal.turns c.args.before turn c.turn-turn.ensures.shown));
    }
