use Rattle.std.proofs.Common.{not, rules}
use Rattle.std.proofs.lemmas.Fn.{filter_same}
use Rattle.agenda_items.specs.Views.{carries_answer}
use Rattle.agenda_items.proofs.take_answer.Goals as goal

pub returns-clause-items : goal.returns-clause-items
returns-clause-items c = filter_same _ (λ x. not (carries_answer c.args.parent.0 x)) _ (λ x b g k. search rules) _ _ c.retain.ensures.filtered
