use Rattle.std.proofs.Common.{length}
use Rattle.plain_deliveries.proofs.deliveries.+last_of.Given as goal

abbrev pub decreases-last_of : goal.decreases-last_of
decreases-last_of l = length l.bindings.now
