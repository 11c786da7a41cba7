use Rattle.std.proofs.Common.{◌≡◌, drop}
use Rattle.std.specs.List.{list_any}
use Rattle.stack_rules.specs.Conditions.{is_link}
use Rattle.plain_conditions.proofs.conditions.has_link.Given as goal

abbrev pub invariant-loop-link : goal.invariant-loop-link
invariant-loop-link l = list_any (is_link l.b l.vlan) l.links ≡ list_any (is_link l.b l.vlan) (drop l.link-index l.links)
