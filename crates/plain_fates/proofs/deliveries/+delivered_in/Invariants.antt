use Rattle.std.proofs.Common.{length}
use Rattle.plain_fates.proofs.deliveries.+delivered_in.Given as goal

abbrev pub decreases-delivered_in : goal.decreases-delivered_in
decreases-delivered_in l = length l.rows.now
