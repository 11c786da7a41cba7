use Rattle.std.proofs.Common.{length}
use Rattle.plain_families.proofs.families.+is_over_in.Given as goal

abbrev pub decreases-is_over_in : goal.decreases-is_over_in
decreases-is_over_in l = length l.turns.now
