use Rattle.homeward_laws.proofs.Homes.{each_goes_home}
use Rattle.homeward_laws.proofs.lists_go_home.Goals as goal

pub returns : goal.returns
returns c = each_goes_home
