use Rattle.std.proofs.Common.{◌≡◌, ◌==◌, not, filter}
use Rattle.plain_state.proofs.filters.without_filter.Given as goal

abbrev pub invariant-loop-a : goal.invariant-loop-a
invariant-loop-a l = l.after.items ≡ filter (λ a. not (a.filter == l.f)) l.yielded
