use Rattle.ndis_base.specs.Names.{miniport_kind_text}
use Rattle.script_forms.specs.Stack.{miniport_kinds}
use Rattle.script_stacks.proofs.Names.{named_not}
use Rattle.script_stacks.proofs.stacks.miniport_kind_of.Goals as goal

pub returns-in-None : goal.returns-in-None
returns-in-None c = named_not miniport_kind_text miniport_kinds _ _ c.in_ok-text_of.ensures c.in-None.ensures.none
