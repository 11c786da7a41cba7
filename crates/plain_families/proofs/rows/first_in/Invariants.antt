use Rattle.std.proofs.Common.{◌≡◌, drop, find}
use Rattle.plain_families.specs.Wanted.{test_of}
use Rattle.plain_families.proofs.rows.first_in.Given as goal

abbrev pub invariant-loop-row : goal.invariant-loop-row
invariant-loop-row l = find (test_of l.turns l.wanted) l.rows ≡ find (test_of l.turns l.wanted) (drop l.row-index l.rows)
