use Rattle.state_laws.proofs.Tops.{all_paused}
use Rattle.state_laws.proofs.paused_together.Goals as goal

pub returns : goal.returns
returns c = all_paused
