use Rattle.std.proofs.Common.{◌≡◌, drop}
use Rattle.stack_rules.specs.Requests.{first_waiting}
use Rattle.stack_ledger.proofs.giving.first_waiting.Given as goal

abbrev pub invariant-loop-r : goal.invariant-loop-r
invariant-loop-r l = first_waiting l.requests l.m ≡ first_waiting (drop l.r-index l.requests) l.m
