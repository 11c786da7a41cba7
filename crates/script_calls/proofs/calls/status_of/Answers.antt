use Rattle.std.proofs.Common.{[], ◌∷◌, Ok}
use Rattle.ndis_base.specs.Names.{status_name_text}
use Rattle.ndis_base.specs.declared.StatusName.{StatusName}
use Rattle.ndis_base.specs.declared.StatusName.TheVariants as status_name
use Rattle.script_types.specs.declared.CallKind.TheVariants as ask
use Rattle.script_stacks.proofs.Names.{named_not_then}
use Rattle.script_calls.proofs.calls.status_of.Goals as goal

pub returns-in-None : goal.returns-in-None
returns-in-None c =
    named_not_then status_name_text (status_name.LinkUp ∷ status_name.LinkDown ∷ status_name.Notice ∷ []) _ _ (λ (name : StatusName). Ok (ask.Status name))
    c.in_ok-text_at.ensures c.in-None.ensures.none
