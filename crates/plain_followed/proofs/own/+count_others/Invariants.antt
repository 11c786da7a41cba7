use Rattle.std.proofs.Common.{length}
use Rattle.plain_followed.proofs.own.+count_others.Given as goal

abbrev pub decreases-count_others : goal.decreases-count_others
decreases-count_others l = length l.turns.now
