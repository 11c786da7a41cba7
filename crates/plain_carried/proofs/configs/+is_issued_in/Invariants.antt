use Rattle.std.proofs.Common.{length}
use Rattle.plain_carried.proofs.configs.+is_issued_in.Given as goal

abbrev pub decreases-is_issued_in : goal.decreases-is_issued_in
decreases-is_issued_in l = length l.rows.now
