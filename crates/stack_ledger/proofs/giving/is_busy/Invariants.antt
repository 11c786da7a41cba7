use Rattle.std.proofs.Common.{◌≡◌, drop}
use Rattle.stack_rules.specs.Requests.{is_busy}
use Rattle.stack_ledger.proofs.giving.is_busy.Given as goal

abbrev pub invariant-loop-r : goal.invariant-loop-r
invariant-loop-r l = is_busy l.requests l.m ≡ is_busy (drop l.r-index l.requests) l.m
