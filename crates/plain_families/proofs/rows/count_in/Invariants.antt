use Rattle.std.proofs.Common.{◌≡◌, ◌≤◌, ◌+◌, drop, count_by}
use Rattle.plain_families.specs.Wanted.{test_of}
use Rattle.plain_families.proofs.rows.count_in.Given as goal

abbrev pub invariant-loop-row : goal.invariant-loop-row
invariant-loop-row l = (count_by (test_of l.turns l.wanted) l.rows ≡ l.n + count_by (test_of l.turns l.wanted) (drop l.row-index l.rows)) × (l.n ≤ l.row-index)
