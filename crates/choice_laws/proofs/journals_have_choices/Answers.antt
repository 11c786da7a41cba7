use Rattle.choice_laws.proofs.Determined.{each_has_choices}
use Rattle.choice_laws.proofs.journals_have_choices.Goals as goal

pub returns : goal.returns
returns c = each_has_choices
