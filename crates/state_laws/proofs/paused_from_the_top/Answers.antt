use Rattle.state_laws.proofs.Tops.{from_the_top}
use Rattle.state_laws.proofs.paused_from_the_top.Goals as goal

pub returns : goal.returns
returns c = from_the_top
