use Rattle.std.proofs.Common.{length}
use Rattle.stack_modules.proofs.modules.StackModules.+first_oid.Given as goal

abbrev pub decreases-first_oid : goal.decreases-first_oid
decreases-first_oid l = length l.filters.now
