use Rattle.std.proofs.Common.{◌≡◌, [], filter, get_or}
use Rattle.stack_rules.specs.Deliveries.{is_taken_by}
use Rattle.plain_deliveries.proofs.deliveries.takers.Given as goal

abbrev pub invariant-loop-b : goal.invariant-loop-b
invariant-loop-b l = l.bindings.items ≡ filter (λ b. is_taken_by (get_or l.net.port.delivers_by b 0) l.net.head.port.address (get_or l.frames 0 [])) l.yielded
