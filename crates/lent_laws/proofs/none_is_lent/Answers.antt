use Rattle.lent_laws.proofs.Lent.{none_is_lent}
use Rattle.lent_laws.proofs.none_is_lent.Goals as goal

pub returns : goal.returns
returns c = none_is_lent
