use Rattle.std.proofs.Common.{◌≡◌, take, sum_by}
use Rattle.stack_rules.specs.Work.{thing_work}
use Rattle.plain_work.proofs.things_work.Given as goal

abbrev pub invariant-loop-t : goal.invariant-loop-t
invariant-loop-t l = l.n ≡ sum_by (thing_work l.net) (take l.t-index l.things)
