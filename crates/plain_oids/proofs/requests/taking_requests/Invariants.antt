use Rattle.std.proofs.Common.{◌≡◌, filter}
use Rattle.stack_rules.specs.Net.{has_oid}
use Rattle.plain_oids.proofs.requests.taking_requests.Given as goal

abbrev pub invariant-loop-f : goal.invariant-loop-f
invariant-loop-f l = l.filters.items ≡ filter (has_oid l.ms) l.yielded
