use Rattle.std.proofs.Common.{length}
use Rattle.plain_families.proofs.families.+is_over_in_rows.Given as goal

abbrev pub decreases-is_over_in_rows : goal.decreases-is_over_in_rows
decreases-is_over_in_rows l = length l.rows.now
