use Rattle.std.proofs.Common.{◌≡◌, ◌==◌, not, filter}
use Rattle.plain_state.proofs.requests.without_request.Given as goal

abbrev pub invariant-loop-r : goal.invariant-loop-r
invariant-loop-r l = l.after.items ≡ filter (λ r. not (r.request.0 == l.n)) l.yielded
