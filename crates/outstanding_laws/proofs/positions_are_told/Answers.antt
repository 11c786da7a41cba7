use Rattle.outstanding_laws.proofs.Ways.{each_is_told}
use Rattle.outstanding_laws.proofs.positions_are_told.Goals as goal

pub returns : goal.returns
returns c = each_is_told
