use Rattle.json_forms.proofs.Names.{has_members-all, has_members-not}
use Rattle.json_forms.proofs.is_object_of.Goals as goal

pub returns-then-contains_all : goal.returns-then-contains_all
returns-then-contains_all c =
    has_members-all _ c.args.required.now c.args.optional.now _ _ _ c.contains_all.ensures c.if-contains_all.true c.contained.ensures c.has_so_many.ensures

pub returns-else-contains_all : goal.returns-else-contains_all
returns-else-contains_all c = has_members-not _ c.args.required.now c.args.optional.now _ c.contains_all.ensures c.if-contains_all.false
