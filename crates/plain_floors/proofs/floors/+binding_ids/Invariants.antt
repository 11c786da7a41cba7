use Rattle.std.proofs.Common.{length}
use Rattle.plain_floors.proofs.floors.+binding_ids.Given as goal

abbrev pub decreases-binding_ids : goal.decreases-binding_ids
decreases-binding_ids l = length l.states.now
