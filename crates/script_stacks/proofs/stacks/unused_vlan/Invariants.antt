use Rattle.std.proofs.Common.{◌≡◌, drop}
use Rattle.std.specs.List.{list_any}
use Rattle.script_forms.specs.Stack.{stands_there}
use Rattle.script_stacks.proofs.stacks.unused_vlan.Given as goal

abbrev pub invariant-loop-stack : goal.invariant-loop-stack
invariant-loop-stack l = list_any (stands_there l.lower l.binding l.vlan) (drop l.stack-index l.before) ≡ list_any (stands_there l.lower l.binding l.vlan) l.before
