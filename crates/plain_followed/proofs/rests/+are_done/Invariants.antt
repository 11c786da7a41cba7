use Rattle.std.proofs.Common.{length}
use Rattle.plain_followed.proofs.rests.+are_done.Given as goal

abbrev pub decreases-are_done : goal.decreases-are_done
decreases-are_done l = length l.rests.now
