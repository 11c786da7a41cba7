use Rattle.std.proofs.Common.{length}
use Rattle.script_runs.proofs.built.+fit.Given as goal

abbrev pub decreases-fit : goal.decreases-fit
decreases-fit l = length l.frames.now
