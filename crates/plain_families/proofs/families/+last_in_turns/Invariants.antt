use Rattle.std.proofs.Common.{length}
use Rattle.plain_families.proofs.families.+last_in_turns.Given as goal

abbrev pub decreases-last_in_turns : goal.decreases-last_in_turns
decreases-last_in_turns l = length l.turns.now
