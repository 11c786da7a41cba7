use Rattle.std.proofs.Common.{length}
use Rattle.plain_links.proofs.links.+are_ended.Given as goal

abbrev pub decreases-are_ended : goal.decreases-are_ended
decreases-are_ended l = length l.rows.now
