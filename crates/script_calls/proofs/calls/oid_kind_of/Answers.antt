use Rattle.std.proofs.Common.{[], ◌∷◌}
use Rattle.ndis_base.specs.Names.{oid_kind_text}
use Rattle.ndis_base.specs.declared.OidKind.TheVariants as oid_kind
use Rattle.script_stacks.proofs.Names.{named_not}
use Rattle.script_calls.proofs.calls.oid_kind_of.Goals as goal

pub returns-in-None : goal.returns-in-None
returns-in-None c = named_not oid_kind_text (oid_kind.Query ∷ oid_kind.Set ∷ []) _ _ c.in_ok-text_of.ensures c.in-None.ensures.none
