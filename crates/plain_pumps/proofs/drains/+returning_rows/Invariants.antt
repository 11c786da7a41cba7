use Rattle.std.proofs.Common.{length}
use Rattle.plain_pumps.proofs.drains.+returning_rows.Given as goal

abbrev pub decreases-returning_rows : goal.decreases-returning_rows
decreases-returning_rows l = length l.bindings.now
