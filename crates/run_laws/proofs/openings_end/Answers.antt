use Rattle.run_laws.proofs.Opening.{initializes, restarts, rewires}
use Rattle.run_laws.proofs.openings_end.Goals as goal

pub returns : goal.returns
returns c = record { initialize = initializes; restart = restarts; rewire = rewires }
