use Rattle.std.proofs.Common.{length}
use Rattle.plain_programs.proofs.rules.+apply.Given as goal

abbrev pub decreases-apply : goal.decreases-apply
decreases-apply l = length l.rules.now
