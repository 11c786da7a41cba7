use Rattle.std.proofs.Common.{length}
use Rattle.plain_calls.proofs.shelf.+first_of_kind.Given as goal

abbrev pub decreases-first_of_kind : goal.decreases-first_of_kind
decreases-first_of_kind l = length l.places.now
