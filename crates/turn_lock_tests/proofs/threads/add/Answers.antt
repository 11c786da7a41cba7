use Rattle.std.proofs.Common.{subst, sym}
use Rattle.turn_lock.specs.Account.{account_of}
use Rattle.turn_lock_tests.specs.Counting.{AddsCount}
use Rattle.turn_lock_tests.proofs.Totals.{adds}
use Rattle.turn_lock_tests.proofs.threads.add.Goals as goal

pub returns-clause-adds : goal.returns-clause-adds
returns-clause-adds g c = subst (λ b. AddsCount c.args.more b (account_of c.args.seat) (account_of c.turn-reply.new.seat)) (sym c.is_ok.ensures.value) (adds _ _ _ _ _ c.turn-reply.ensures.turn)
