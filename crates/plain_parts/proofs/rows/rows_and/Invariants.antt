use Rattle.std.proofs.Common.{◌≡◌, ◌++◌}
use Rattle.plain_parts.proofs.rows.rows_and.Given as goal

abbrev pub invariant-loop-row : goal.invariant-loop-row
invariant-loop-row l = l.all.items ≡ l.fn.rows.items ++ l.yielded
