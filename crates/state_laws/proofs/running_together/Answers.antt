use Rattle.state_laws.proofs.Tops.{all_running}
use Rattle.state_laws.proofs.running_together.Goals as goal

pub returns : goal.returns
returns c = all_running
