use Rattle.std.proofs.Common.{length}
use Rattle.plain_links.proofs.completions.+are_answered.Given as goal

abbrev pub decreases-are_answered : goal.decreases-are_answered
decreases-are_answered l = length l.rows.now
