use Rattle.std.proofs.Common.{◌≡◌, ◌≤◌, take, map}
use Rattle.std.specs.Prelude.{count_by}
use Rattle.flat_journal.specs.Shown.{row_of}
use Rattle.flat_text.specs.Counted.{test_of}
use Rattle.flat_text.proofs.counts.count_in.Given as goal

abbrev pub invariant-loop-row : goal.invariant-loop-row
invariant-loop-row l = record {
  counted : l.count ≡ count_by (test_of l.counted) (map (row_of l.journal.payloads) (take l.row-index l.rows));
  small : l.count ≤ l.row-index;
}
