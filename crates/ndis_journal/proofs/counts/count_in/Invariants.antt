use Rattle.std.proofs.Common.{◌≡◌, ◌≤◌, take}
use Rattle.std.specs.Prelude.{count_by}
use Rattle.ndis_journal.specs.Counted.{test_of}
use Rattle.ndis_journal.proofs.counts.count_in.Given as goal

abbrev pub invariant-loop-row : goal.invariant-loop-row
invariant-loop-row l = record {
  counted : l.count ≡ count_by (test_of l.counted) (take l.row-index l.rows);
  small : l.count ≤ l.row-index;
}
