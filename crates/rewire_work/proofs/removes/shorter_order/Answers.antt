use Rattle.std.proofs.Common.{◌==◌, not, rules, ap, ◌∙◌}
use Rattle.std.specs.List.{filter}
use Rattle.std.proofs.lemmas.Fn.{filter_same}
use Rattle.rewire_work.proofs.removes.shorter_order.Goals as goal

pub returns : goal.returns
returns c = filter_same _ (λ g. not (g == c.args.f)) _ (λ x b g r. search rules) _ _ c.retain.ensures.filtered ∙ ap (filter (λ g. not (g == c.args.f))) c.in_ok-shorter.ensures.items
