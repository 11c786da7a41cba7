use Rattle.std.proofs.Common.{length}
use Rattle.plain_carried.proofs.carried.+carried_up.Given as goal

abbrev pub decreases-carried_up : goal.decreases-carried_up
decreases-carried_up l = length l.filters.now
