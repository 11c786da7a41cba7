use Rattle.std.proofs.Common.{length}
use Rattle.plain_followed.proofs.rests.+next_turn_on.Given as goal

abbrev pub decreases-next_turn_on : goal.decreases-next_turn_on
decreases-next_turn_on l = length l.rests.now
