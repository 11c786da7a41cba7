use Rattle.std.proofs.Common.{length}
use Rattle.plain_receives.proofs.receives.+lent_up.Given as goal

abbrev pub decreases-lent_up : goal.decreases-lent_up
decreases-lent_up l = length l.filters.now
