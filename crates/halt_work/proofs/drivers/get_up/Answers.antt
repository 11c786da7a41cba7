use Rattle.std.proofs.Common.{◌==◌, not, rules}
use Rattle.std.proofs.lemmas.Fn.{filter_same}
use Rattle.halt_work.proofs.drivers.get_up.Goals as goal

pub returns-clause-seats : goal.returns-clause-seats
returns-clause-seats c = filter_same _ (λ seat. not (seat.0 == c.args.f)) _ (λ x b g r. search rules) _ _ c.retain.ensures.filtered
