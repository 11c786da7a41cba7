use Rattle.std.proofs.Common.{length}
use Rattle.plain_links.proofs.completions.+complete_once_in.Given as goal

abbrev pub decreases-complete_once_in : goal.decreases-complete_once_in
decreases-complete_once_in l = length l.turns.now
