use Rattle.std.proofs.Common.{◌≡◌, drop, find}
use Rattle.stack_rules.specs.Messages.{is_for}
use Rattle.plain_crosses.proofs.crosses.oldest_for.Given as goal

abbrev pub invariant-loop-m : goal.invariant-loop-m
invariant-loop-m l = find (is_for l.binding l.vlan) l.messages ≡ find (is_for l.binding l.vlan) (drop l.m-index l.messages)
