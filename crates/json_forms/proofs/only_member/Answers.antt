use Rattle.std.proofs.Common.{arith}
use Rattle.json_forms.proofs.Names.{lone_member-none, lone_member-one}
use Rattle.json_forms.proofs.only_member.Goals as goal

pub returns-then-len-ne1 : goal.returns-then-len-ne1
returns-then-len-ne1 c = lone_member-none _ c.in_ok-members.members.now.entries c.len.result c.in_ok-members.ensures c.len.ensures.len (omega arith)

pub returns : goal.returns
returns c =
    rw c.as_str.ensures.value (lone_member-one _ c.in_ok-members.members.now.entries c.in_ok-name.name.now c.in_ok-name.member.now c.len.result
    c.in_ok-members.ensures c.len.ensures.len (omega arith) c.in_ok-name.ensures.first)
