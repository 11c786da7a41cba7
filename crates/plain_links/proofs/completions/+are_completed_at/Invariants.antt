use Rattle.std.proofs.Common.{length}
use Rattle.plain_links.proofs.completions.+are_completed_at.Given as goal

abbrev pub decreases-are_completed_at : goal.decreases-are_completed_at
decreases-are_completed_at l = length l.rows.now
