use Rattle.std.proofs.Common.{◌≡◌, not, take, count_by}
use Rattle.stack_rules.specs.Requests.{is_at_entry}
use Rattle.plain_floors.proofs.items.count_left.Given as goal

abbrev pub invariant-loop-r : goal.invariant-loop-r
invariant-loop-r l = l.n ≡ count_by (λ r. not (is_at_entry r.at)) (take l.r-index l.requests)
