use Rattle.std.proofs.Common.{◌≡◌, take, sum_by}
use Rattle.stack_rules.specs.Work.{request_work}
use Rattle.plain_work.proofs.requests_work.Given as goal

abbrev pub invariant-loop-r : goal.invariant-loop-r
invariant-loop-r l = l.n ≡ sum_by (λ r. request_work l.net r.at) (take l.r-index l.requests)
