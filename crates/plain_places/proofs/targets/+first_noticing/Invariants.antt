use Rattle.std.proofs.Common.{length}
use Rattle.plain_places.proofs.targets.+first_noticing.Given as goal

abbrev pub decreases-first_noticing : goal.decreases-first_noticing
decreases-first_noticing l = length l.filters.now
