use Rattle.std.proofs.Common.{◌≡◌, drop}
use Rattle.stack_rules.specs.Net.{request_of}
use Rattle.stack_ledger.proofs.requests.request_of.Given as goal

abbrev pub invariant-loop-r : goal.invariant-loop-r
invariant-loop-r l = request_of l.n l.requests ≡ request_of l.n (drop l.r-index l.requests)
