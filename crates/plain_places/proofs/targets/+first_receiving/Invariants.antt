use Rattle.std.proofs.Common.{length}
use Rattle.plain_places.proofs.targets.+first_receiving.Given as goal

abbrev pub decreases-first_receiving : goal.decreases-first_receiving
decreases-first_receiving l = length l.filters.now
