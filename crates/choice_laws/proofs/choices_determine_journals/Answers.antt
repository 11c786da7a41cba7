use Rattle.choice_laws.proofs.Determined.{choices_determine}
use Rattle.choice_laws.proofs.choices_determine_journals.Goals as goal

pub returns : goal.returns
returns c = choices_determine
