use Rattle.std.proofs.Common.{subst}
use Rattle.turn_lock.specs.Account.{account_of}
use Rattle.turn_lock_tests.specs.Counting.{AddsCount}
use Rattle.turn_lock_tests.proofs.Totals.{both_added}
use Rattle.turn_lock_tests.proofs.threads.add_both.Goals as goal

pub returns-then-two : goal.returns-then-two
returns-then-two g c =
    both_added _ _ (account_of c.args.seat) _ _ _ _ _ _ _ _ c.requires.lock.new c.split-other.ensures.old c.split-other.ensures.new
    (subst (λ b. AddsCount c.args.first b (account_of c.split-other.new.seat) (account_of c.join-seat.result.0.0)) c.if-one.true c.join-seat.ensures.first.1)
    (subst (λ b. AddsCount c.args.second b (account_of c.split-other.result) (account_of c.join-seat.result.1.0)) c.if-two.true c.join-seat.ensures.second.1)
    c.join.ensures.account c.close-counter.ensures.object
