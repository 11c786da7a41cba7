use Rattle.json_forms.proofs.Names.{has_count-object}
use Rattle.json_forms.proofs.has_so_many.Goals as goal

pub returns-in-Some : goal.returns-in-Some
returns-in-Some c = has_count-object _ c.in-Some.members.now.entries _ _ c.in-Some.ensures c.len.ensures.len
