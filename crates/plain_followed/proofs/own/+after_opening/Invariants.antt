use Rattle.std.proofs.Common.{length}
use Rattle.plain_followed.proofs.own.+after_opening.Given as goal

abbrev pub decreases-after_opening : goal.decreases-after_opening
decreases-after_opening l = length l.turns.now
