use Rattle.served_laws.proofs.Served.{each_is_served}
use Rattle.served_laws.proofs.journals_are_served.Goals as goal

pub returns : goal.returns
returns c = each_is_served
