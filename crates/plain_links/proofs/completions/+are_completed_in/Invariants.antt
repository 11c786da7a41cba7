use Rattle.std.proofs.Common.{length}
use Rattle.plain_links.proofs.completions.+are_completed_in.Given as goal

abbrev pub decreases-are_completed_in : goal.decreases-are_completed_in
decreases-are_completed_in l = length l.turns.now
