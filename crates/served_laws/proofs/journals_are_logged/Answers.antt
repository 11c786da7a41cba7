use Rattle.served_laws.proofs.Served.{each_is_logged}
use Rattle.served_laws.proofs.journals_are_logged.Goals as goal

pub returns : goal.returns
returns c = each_is_logged
