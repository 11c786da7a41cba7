use Rattle.std.proofs.Common.{length}
use Rattle.plain_calls.proofs.logs.+log_in_rows.Given as goal

abbrev pub decreases-log_in_rows : goal.decreases-log_in_rows
decreases-log_in_rows l = length l.rows.now
