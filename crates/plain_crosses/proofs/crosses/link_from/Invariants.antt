use Rattle.std.proofs.Common.{◌≡◌, drop, find}
use Rattle.stack_rules.specs.Crosses.{is_link_from}
use Rattle.plain_crosses.proofs.crosses.link_from.Given as goal

abbrev pub invariant-loop-link : goal.invariant-loop-link
invariant-loop-link l = find (is_link_from l.stack) l.links ≡ find (is_link_from l.stack) (drop l.link-index l.links)
