use Rattle.drain_laws.proofs.Served.{requests_served}
use Rattle.drain_laws.proofs.requests_are_served.Goals as goal

pub returns : goal.returns
returns c = requests_served
