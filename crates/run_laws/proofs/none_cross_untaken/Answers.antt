use Rattle.run_laws.proofs.Crossing.{keeps_uncrossed, none_cross_untaken}
use Rattle.run_laws.proofs.none_cross_untaken.Goals as goal

pub returns : goal.returns
returns c = record { journal = none_cross_untaken; turn = keeps_uncrossed }
