use Rattle.std.proofs.Common.{length}
use Rattle.plain_fates.proofs.sends.+crossed_from.Given as goal

abbrev pub decreases-crossed_from : goal.decreases-crossed_from
decreases-crossed_from l = length l.turns.now
