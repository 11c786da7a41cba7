use Rattle.std.proofs.Common.{◌≡◌, drop}
use Rattle.stack_rules.specs.Requests.{has_waiting}
use Rattle.stack_ledger.proofs.giving.has_waiting.Given as goal

abbrev pub invariant-loop-r : goal.invariant-loop-r
invariant-loop-r l = has_waiting l.requests l.m ≡ has_waiting (drop l.r-index l.requests) l.m
