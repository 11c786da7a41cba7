use Rattle.std.proofs.Common.{◌<◌, length, refl, subst}
use Rattle.stack_rules.specs.Net.{given_to}
use Rattle.stack_modules.proofs.Changes.{next_changed}
use Rattle.stack_ledger.proofs.requests.give.Goals as goal

pub loop-r-preserved : goal.loop-r-preserved
loop-r-preserved c =
    let xs = c.args.requests.now.items in
    let i = c.loop-r.r-index in
    let lt : i < length xs = subst (λ ys. i < length ys) c.deref_mut-r-items.ensures.value c.loop-r-test.true in
    next_changed (given_to c.args.n c.args.m) xs c.loop-r.r-items _ i c.give_to.new.r c.r-item.result lt c.loop-r.invariant c.give_to.ensures refl
