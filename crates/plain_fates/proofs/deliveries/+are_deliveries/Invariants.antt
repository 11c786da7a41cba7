use Rattle.std.proofs.Common.{length}
use Rattle.plain_fates.proofs.deliveries.+are_deliveries.Given as goal

abbrev pub decreases-are_deliveries : goal.decreases-are_deliveries
decreases-are_deliveries l = length l.bindings.now
