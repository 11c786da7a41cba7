use Rattle.std.proofs.Common.{length}
use Rattle.plain_calls.proofs.places.+is_used.Given as goal

abbrev pub decreases-is_used : goal.decreases-is_used
decreases-is_used l = length l.used.now
