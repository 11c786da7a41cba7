use Rattle.std.proofs.Common.{length}
use Rattle.book_opening.proofs.pools.+push_places.Given as goal

abbrev pub decreases-push_places : goal.decreases-push_places
decreases-push_places g l = length l.filters.now
