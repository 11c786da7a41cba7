use Rattle.std.proofs.Common.{◌≡◌, take}
use Rattle.journal_lines.specs.Counted.{is_issue, is_home, is_wire, is_deliver, rows_of}
use Rattle.flat_text.proofs.counts.count_rows.Given as goal

abbrev pub invariant-loop-at : goal.invariant-loop-at
invariant-loop-at l = record {
  lists : l.lists ≡ rows_of is_issue (take l.at l.journal.turns);
  homes : l.homes ≡ rows_of is_home (take l.at l.journal.turns);
  wires : l.wires ≡ rows_of is_wire (take l.at l.journal.turns);
  delivers : l.delivers ≡ rows_of is_deliver (take l.at l.journal.turns);
}
