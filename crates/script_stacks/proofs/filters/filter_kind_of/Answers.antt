use Rattle.ndis_base.specs.Names.{filter_kind_text}
use Rattle.script_forms.specs.Filter.{filter_kinds}
use Rattle.script_stacks.proofs.Names.{named_not}
use Rattle.script_stacks.proofs.filters.filter_kind_of.Goals as goal

pub returns-in-None : goal.returns-in-None
returns-in-None c = named_not filter_kind_text filter_kinds _ _ c.in_ok-text_of.ensures c.in-None.ensures.none
