use Rattle.ndis_base.specs.Names.{protocol_kind_text}
use Rattle.script_forms.specs.Stack.{protocol_kinds}
use Rattle.script_stacks.proofs.Names.{named_not}
use Rattle.script_stacks.proofs.stacks.protocol_kind_of.Goals as goal

pub returns-in-None : goal.returns-in-None
returns-in-None c = named_not protocol_kind_text protocol_kinds _ _ c.in_ok-text_of.ensures c.in-None.ensures.none
