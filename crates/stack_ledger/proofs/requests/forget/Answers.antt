use Rattle.std.proofs.Common.{◌==◌, not, rules}
use Rattle.std.proofs.lemmas.Fn.{filter_same}
use Rattle.stack_ledger.proofs.requests.forget.Goals as goal

pub returns-clause-after : goal.returns-clause-after
returns-clause-after c = filter_same _ (λ r. not (r.request.0 == c.args.n)) _ (λ x b g k. search rules) _ _ c.retain.ensures.filtered
