use Rattle.std.proofs.Common.{length}
use Rattle.plain_rewires.proofs.rewires.+order_swapped.Given as goal

abbrev pub decreases-order_swapped : goal.decreases-order_swapped
decreases-order_swapped l = length l.order.now
