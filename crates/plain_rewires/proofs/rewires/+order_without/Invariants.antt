use Rattle.std.proofs.Common.{length}
use Rattle.plain_rewires.proofs.rewires.+order_without.Given as goal

abbrev pub decreases-order_without : goal.decreases-order_without
decreases-order_without l = length l.order.now
