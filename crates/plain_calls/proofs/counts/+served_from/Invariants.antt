use Rattle.std.proofs.Common.{length}
use Rattle.plain_calls.proofs.counts.+served_from.Given as goal

abbrev pub decreases-served_from : goal.decreases-served_from
decreases-served_from l = length l.turns.now
