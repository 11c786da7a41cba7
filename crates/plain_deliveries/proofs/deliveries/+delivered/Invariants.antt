use Rattle.std.proofs.Common.{length}
use Rattle.plain_deliveries.proofs.deliveries.+delivered.Given as goal

abbrev pub decreases-delivered : goal.decreases-delivered
decreases-delivered l = length l.bindings.now
