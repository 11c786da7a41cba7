use Rattle.std.proofs.Common.{rules, map}
use Rattle.book_scripts.proofs.Whole.{asked_next, made_next, made_none}
use Rattle.book_scripts.proofs.runs.run_calls.Goals as goal

pub loop-call-init : goal.loop-call-init
loop-call-init g c = record { made = made_none (map (λ call. call.now) c.args.calls.now) _ c.requires.between }

pub run_one-requires-clause-asked : goal.run_one-requires-clause-asked
run_one-requires-clause-asked g c =
    asked_next _ _ c.args.calls.now c.loop-call.call-index c.call-item.result c.loop-call.invariant.made.head_is (search rules) c.call-item.is c.requires.asked

pub loop-call-preserved : goal.loop-call-preserved
loop-call-preserved g c = record {
  made = made_next c.args.calls.now c.loop-call.call-index c.call-item.result _ _ _ (search rules) c.call-item.is c.loop-call.invariant.made c.in_ok-run_one.ensures.made;
}
