use Rattle.std.proofs.Common.{length}
use Rattle.plain_pumps.proofs.drains.+passed.Given as goal

abbrev pub decreases-passed : goal.decreases-passed
decreases-passed l = length l.lists.now
