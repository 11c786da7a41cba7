use Rattle.std.proofs.Common.{length}
use Rattle.plain_places.proofs.lists.+numbers_from.Given as goal

abbrev pub decreases-numbers_from : goal.decreases-numbers_from
decreases-numbers_from l = length l.setups.now
