use Rattle.std.proofs.Common.{length}
use Rattle.plain_carried.proofs.carried.+carried_down.Given as goal

abbrev pub decreases-carried_down : goal.decreases-carried_down
decreases-carried_down l = length l.filters.now
