use Rattle.run_laws.proofs.Calls.{stays}
use Rattle.run_laws.proofs.calls_keep_the_phase.Goals as goal

pub returns : goal.returns
returns c = stays
