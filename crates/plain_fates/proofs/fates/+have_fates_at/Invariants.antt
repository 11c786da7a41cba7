use Rattle.std.proofs.Common.{length}
use Rattle.plain_fates.proofs.fates.+have_fates_at.Given as goal

abbrev pub decreases-have_fates_at : goal.decreases-have_fates_at
decreases-have_fates_at l = length l.rows.now
