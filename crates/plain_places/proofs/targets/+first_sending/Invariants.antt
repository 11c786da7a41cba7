use Rattle.std.proofs.Common.{length}
use Rattle.plain_places.proofs.targets.+first_sending.Given as goal

abbrev pub decreases-first_sending : goal.decreases-first_sending
decreases-first_sending l = length l.filters.now
