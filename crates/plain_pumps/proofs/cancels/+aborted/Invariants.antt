use Rattle.std.proofs.Common.{length}
use Rattle.plain_pumps.proofs.cancels.+aborted.Given as goal

abbrev pub decreases-aborted : goal.decreases-aborted
decreases-aborted l = length l.lists.now
