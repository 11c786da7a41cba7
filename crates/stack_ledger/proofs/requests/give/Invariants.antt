use Rattle.std.proofs.Common.{◌≡◌, ◌++◌, map, take, drop}
use Rattle.stack_rules.specs.Net.{given_to}
use Rattle.stack_ledger.proofs.requests.give.Given as goal

abbrev pub invariant-loop-r : goal.invariant-loop-r
invariant-loop-r l = l.r-items ≡ map (given_to l.n l.m) (take l.r-index l.fn.requests.items) ++ drop l.r-index l.fn.requests.items
