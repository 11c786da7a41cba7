use Rattle.std.proofs.Common.{length}
use Rattle.plain_pumps.proofs.drains.+returned.Given as goal

abbrev pub decreases-returned : goal.decreases-returned
decreases-returned l = length l.lists.now
