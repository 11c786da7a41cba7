use Rattle.std.proofs.Common.{length}
use Rattle.plain_fates.proofs.deliveries.+deliveries_of.Given as goal

abbrev pub decreases-deliveries_of : goal.decreases-deliveries_of
decreases-deliveries_of l = length l.turns.now
