use Rattle.homeward_laws.proofs.Targets.{each_is_bound}
use Rattle.homeward_laws.proofs.targets_are_there.Goals as goal

pub returns : goal.returns
returns c = each_is_bound
