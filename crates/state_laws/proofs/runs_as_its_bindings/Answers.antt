use Rattle.state_laws.proofs.Tops.{runs_as_bindings}
use Rattle.state_laws.proofs.runs_as_its_bindings.Goals as goal

pub returns : goal.returns
returns c = runs_as_bindings
