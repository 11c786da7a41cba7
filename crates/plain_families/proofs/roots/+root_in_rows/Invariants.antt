use Rattle.std.proofs.Common.{length}
use Rattle.plain_families.proofs.roots.+root_in_rows.Given as goal

abbrev pub decreases-root_in_rows : goal.decreases-root_in_rows
decreases-root_in_rows l = length l.rows.now
