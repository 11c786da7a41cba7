use Rattle.std.proofs.Common.{length}
use Rattle.plain_fates.proofs.settled.+takers_in.Given as goal

abbrev pub decreases-takers_in : goal.decreases-takers_in
decreases-takers_in l = length l.turns.now
