use Rattle.run_laws.proofs.Pumping.{pumps}
use Rattle.run_laws.proofs.pumps_end.Goals as goal

pub returns : goal.returns
returns c = pumps
