use Rattle.std.proofs.Common.{◌==◌, not, rules}
use Rattle.std.proofs.lemmas.Fn.{filter_same}
use Rattle.rewire_work.proofs.seats.take_off.Goals as goal

pub returns-clause-places : goal.returns-clause-places
returns-clause-places c = filter_same _ (λ other. not (other == c.args.place)) _ (λ x b g r. search rules) _ _ c.retain.ensures.filtered
