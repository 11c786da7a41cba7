use Rattle.std.proofs.Common.{length}
use Rattle.plain_walk.proofs.sizes.+rows_bytes.Given as goal

abbrev pub decreases-rows_bytes : goal.decreases-rows_bytes
decreases-rows_bytes l = length l.rows.now
