use Rattle.std.proofs.Common.{length}
use Rattle.plain_links.proofs.messages.+is_issued.Given as goal

abbrev pub decreases-is_issued : goal.decreases-is_issued
decreases-is_issued l = length l.rows.now
