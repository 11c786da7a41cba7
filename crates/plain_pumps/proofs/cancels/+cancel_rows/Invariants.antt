use Rattle.std.proofs.Common.{length}
use Rattle.plain_pumps.proofs.cancels.+cancel_rows.Given as goal

abbrev pub decreases-cancel_rows : goal.decreases-cancel_rows
decreases-cancel_rows l = length l.modules.now
