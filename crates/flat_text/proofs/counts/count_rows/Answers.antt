use Rattle.journal_lines.specs.Counted.{is_issue, is_home, is_wire, is_deliver}
use Rattle.flat_text.specs.Text.{turn_shown}
use Rattle.flat_text.proofs.Turns.{counted_next}
use Rattle.flat_text.proofs.counts.count_rows.Goals as goal

pub loop-at-preserved : goal.loop-at-preserved
loop-at-preserved c =
    let journal = c.args.journal.now in
    let turn = turn_shown journal.payloads c.turn.result in
    let before = c.loop-at.invariant in
    record {
      lists = counted_next is_issue journal.turns c.loop-at.at turn _ _ _ c.turn.ensures.shown before.lists c.count_in.ensures c.saturating_add-lists.ensures;
      homes = counted_next is_home journal.turns c.loop-at.at turn _ _ _ c.turn.ensures.shown before.homes c.count_in-in-loop-at.ensures c.saturating_add-homes.ensures;
      wires = counted_next is_wire journal.turns c.loop-at.at turn _ _ _ c.turn.ensures.shown before.wires c.count_in-in-loop-at-2.ensures c.saturating_add-wires.ensures;
      delivers = counted_next is_deliver journal.turns c.loop-at.at turn _ _ _ c.turn.ensures.shown before.delivers c.count_in-in-loop-at-3.ensures c.saturating_add-delivers.ensures;
    }
