use Rattle.std.proofs.Common.{length}
use Rattle.plain_walk.proofs.sizes.+items_bytes.Given as goal

abbrev pub decreases-items_bytes : goal.decreases-items_bytes
decreases-items_bytes l = length l.frames.now
