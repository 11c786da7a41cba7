use Rattle.std.proofs.Common.{length}
use Rattle.plain_pumps.proofs.drains.+passing_rows.Given as goal

abbrev pub decreases-passing_rows : goal.decreases-passing_rows
decreases-passing_rows l = length l.filters.now
