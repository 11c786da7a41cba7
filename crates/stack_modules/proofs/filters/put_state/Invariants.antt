use Rattle.std.proofs.Common.{◌≡◌, ◌++◌, map, take, drop}
use Rattle.stack_rules.specs.Net.{with_state}
use Rattle.stack_modules.proofs.filters.put_state.Given as goal

abbrev pub invariant-loop-a : goal.invariant-loop-a
invariant-loop-a l = l.a-items ≡ map (with_state l.f l.s) (take l.a-index l.fn.entries.items) ++ drop l.a-index l.fn.entries.items
