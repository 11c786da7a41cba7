use Rattle.std.proofs.Common.{length}
use Rattle.plain_fates.proofs.settled.+is_settled_in.Given as goal

abbrev pub decreases-is_settled_in : goal.decreases-is_settled_in
decreases-is_settled_in l = length l.rows.now
