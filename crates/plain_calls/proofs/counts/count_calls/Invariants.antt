use Rattle.std.proofs.Common.{◌≡◌, ◌≤◌, ◌+◌, drop, count_by}
use Rattle.promise_rules.specs.Calls.{is_call_of}
use Rattle.plain_calls.proofs.counts.count_calls.Given as goal

abbrev pub invariant-loop-call : goal.invariant-loop-call
invariant-loop-call l = (count_by (is_call_of l.m l.what) l.calls ≡ l.n + count_by (is_call_of l.m l.what) (drop l.call-index l.calls)) × (l.n ≤ l.call-index)
