use Rattle.outstanding_laws.proofs.Keepers.{each_is_apart}
use Rattle.outstanding_laws.proofs.keepers_are_apart.Goals as goal

pub returns : goal.returns
returns c = each_is_apart
