use Rattle.std.proofs.Common.{length}
use Rattle.plain_calls.proofs.places.+protocol_places.Given as goal

abbrev pub decreases-protocol_places : goal.decreases-protocol_places
decreases-protocol_places l = length l.bindings.now
