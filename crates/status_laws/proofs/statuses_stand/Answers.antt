use Rattle.status_laws.proofs.Stands.{each_status_stands}
use Rattle.status_laws.proofs.statuses_stand.Goals as goal

pub returns : goal.returns
returns c = each_status_stands
