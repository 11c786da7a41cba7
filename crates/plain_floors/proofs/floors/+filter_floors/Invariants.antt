use Rattle.std.proofs.Common.{length}
use Rattle.plain_floors.proofs.floors.+filter_floors.Given as goal

abbrev pub decreases-filter_floors : goal.decreases-filter_floors
decreases-filter_floors l = length l.order.now
