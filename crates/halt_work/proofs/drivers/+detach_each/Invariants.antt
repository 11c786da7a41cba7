use Rattle.std.proofs.Common.{length}
use Rattle.halt_work.proofs.drivers.+detach_each.Given as goal

abbrev pub decreases-detach_each : goal.decreases-detach_each
decreases-detach_each g l = length l.order.now
