use Rattle.std.proofs.Common.{length}
use Rattle.script_runs.proofs.built.+are_built_bindings.Given as goal

abbrev pub decreases-are_built_bindings : goal.decreases-are_built_bindings
decreases-are_built_bindings l = length l.bindings.now
