use Rattle.std.proofs.Common.{◌≡◌, ◌≤◌, ◌+◌, drop, count_by}
use Rattle.stack_rules.specs.Net.{lists}
use Rattle.stack_rules.specs.Places.{is_counted_at}
use Rattle.plain_places.proofs.lists.count_outstanding.Given as goal

abbrev pub invariant-loop-t : goal.invariant-loop-t
invariant-loop-t l = (count_by (is_counted_at l.order l.i) (lists l.things) ≡ l.n + count_by (is_counted_at l.order l.i) (lists (drop l.t-index l.things))) × (l.n ≤ l.t-index)
