use Rattle.std.proofs.Common.{◌≡◌, take, count_by}
use Rattle.stack_rules.specs.Pauses.{is_status_thing}
use Rattle.plain_floors.proofs.items.count_statuses.Given as goal

abbrev pub invariant-loop-t : goal.invariant-loop-t
invariant-loop-t l = l.n ≡ count_by is_status_thing (take l.t-index l.things)
