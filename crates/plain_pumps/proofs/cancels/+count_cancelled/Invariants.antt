use Rattle.std.proofs.Common.{length}
use Rattle.plain_pumps.proofs.cancels.+count_cancelled.Given as goal

abbrev pub decreases-count_cancelled : goal.decreases-count_cancelled
decreases-count_cancelled l = length l.modules.now
