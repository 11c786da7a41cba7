use Rattle.std.proofs.Common.{length}
use Rattle.plain_carried.proofs.setups.+setup_of.Given as goal

abbrev pub decreases-setup_of : goal.decreases-setup_of
decreases-setup_of l = length l.turns.now
