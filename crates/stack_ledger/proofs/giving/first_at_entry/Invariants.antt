use Rattle.std.proofs.Common.{◌≡◌, drop, find}
use Rattle.stack_rules.specs.Requests.{is_at_entry}
use Rattle.stack_ledger.proofs.giving.first_at_entry.Given as goal

abbrev pub invariant-loop-r : goal.invariant-loop-r
invariant-loop-r l = find (λ r. is_at_entry r.at) l.requests ≡ find (λ r. is_at_entry r.at) (drop l.r-index l.requests)
