use Rattle.std.proofs.Common.{length}
use Rattle.plain_fates.proofs.fates.+have_fates_in.Given as goal

abbrev pub decreases-have_fates_in : goal.decreases-have_fates_in
decreases-have_fates_in l = length l.turns.now
