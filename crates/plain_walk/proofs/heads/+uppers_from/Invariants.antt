use Rattle.std.proofs.Common.{length}
use Rattle.plain_walk.proofs.heads.+uppers_from.Given as goal

abbrev pub decreases-uppers_from : goal.decreases-uppers_from
decreases-uppers_from l = length l.stacks.now
