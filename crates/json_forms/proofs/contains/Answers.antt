use Rattle.std.proofs.Common.{◌∙◌, ap, sym, is_some}
use Rattle.json_forms.proofs.Names.{is_some-option_map}
use Rattle.json_forms.proofs.contains.Goals as goal

pub returns : goal.returns
returns c = c.is_some.ensures ∙ sym (is_some-option_map _ c.get.result) ∙ ap is_some c.get.ensures
