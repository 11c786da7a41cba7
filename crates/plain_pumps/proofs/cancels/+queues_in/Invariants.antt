use Rattle.std.proofs.Common.{length}
use Rattle.plain_pumps.proofs.cancels.+queues_in.Given as goal

abbrev pub decreases-queues_in : goal.decreases-queues_in
decreases-queues_in l = length l.order.now
