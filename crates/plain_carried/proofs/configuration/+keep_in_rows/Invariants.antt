use Rattle.std.proofs.Common.{length}
use Rattle.plain_carried.proofs.configuration.+keep_in_rows.Given as goal

abbrev pub decreases-keep_in_rows : goal.decreases-keep_in_rows
decreases-keep_in_rows l = length l.rows.now
