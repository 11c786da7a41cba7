use Rattle.std.proofs.Common.{length}
use Rattle.plain_carried.proofs.configuration.+keep_in.Given as goal

abbrev pub decreases-keep_in : goal.decreases-keep_in
decreases-keep_in l = length l.turns.now
