use Rattle.std.proofs.Common.{length}
use Rattle.plain_calls.proofs.shelf.+without_place.Given as goal

abbrev pub decreases-without_place : goal.decreases-without_place
decreases-without_place l = length l.places.now
