use Rattle.std.proofs.Common.{length}
use Rattle.plain_families.proofs.families.+last_in_rows.Given as goal

abbrev pub decreases-last_in_rows : goal.decreases-last_in_rows
decreases-last_in_rows l = length l.rows.now
