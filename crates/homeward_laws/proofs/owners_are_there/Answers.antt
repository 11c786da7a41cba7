use Rattle.homeward_laws.proofs.Owners.{each_is_owned}
use Rattle.homeward_laws.proofs.owners_are_there.Goals as goal

pub returns : goal.returns
returns c = each_is_owned
