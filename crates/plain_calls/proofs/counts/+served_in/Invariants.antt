use Rattle.std.proofs.Common.{length}
use Rattle.plain_calls.proofs.counts.+served_in.Given as goal

abbrev pub decreases-served_in : goal.decreases-served_in
decreases-served_in l = length l.rows.now
