use Rattle.std.proofs.Common.{◌==◌, not, rules}
use Rattle.std.proofs.lemmas.Fn.{filter_same}
use Rattle.stack_modules.proofs.filters.forget.Goals as goal

pub returns-clause-after : goal.returns-clause-after
returns-clause-after c = filter_same _ (λ a. not (a.filter == c.args.f)) _ (λ x b g r. search rules) _ _ c.retain.ensures.filtered
