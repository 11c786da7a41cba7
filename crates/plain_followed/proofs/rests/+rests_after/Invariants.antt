use Rattle.std.proofs.Common.{length}
use Rattle.plain_followed.proofs.rests.+rests_after.Given as goal

abbrev pub decreases-rests_after : goal.decreases-rests_after
decreases-rests_after l = length l.rests.now
