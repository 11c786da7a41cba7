use Rattle.std.proofs.Common.{length}
use Rattle.plain_followed.proofs.rests.+next_turn.Given as goal

abbrev pub decreases-next_turn : goal.decreases-next_turn
decreases-next_turn l = length l.turns.now
