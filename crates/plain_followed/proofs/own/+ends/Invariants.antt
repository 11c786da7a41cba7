use Rattle.std.proofs.Common.{length}
use Rattle.plain_followed.proofs.own.+ends.Given as goal

abbrev pub decreases-ends : goal.decreases-ends
decreases-ends l = length l.turns.now
