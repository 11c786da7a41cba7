use Rattle.std.proofs.Common.{length}
use Rattle.plain_oids.proofs.requests.+lowest_giving.Given as goal

abbrev pub decreases-lowest_giving : goal.decreases-lowest_giving
decreases-lowest_giving l = length l.modules.now
