use Rattle.std.proofs.Common.{length}
use Rattle.plain_followed.proofs.rests.+after_next.Given as goal

abbrev pub decreases-after_next : goal.decreases-after_next
decreases-after_next l = length l.turns.now
