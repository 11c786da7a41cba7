use Rattle.std.proofs.Common.{refl, sym, subst}
use Rattle.driver_calls.specs.declared.fates.LentFate.{LentFate}
use Rattle.driver_calls.specs.Filters.{HandlesLent}
use Rattle.frame_filters.proofs.Passing.{leaves_all}
use Rattle.frame_filters.proofs.pass.PassFilterFilterDriver.receive_lent.Goals as goal

pub returns-clause-lent : goal.returns-clause-lent
returns-clause-lent c = record {
  same = c.receive_lent.ensures.counted;
  by = λ p is. subst (λ (b : LentFate). HandlesLent p c.args._list.now c.args._tray.now c.args._tray.now b) (sym c.receive_lent.ensures.leaves)
      (leaves_all p c.args._list.now c.args._tray.now c.args._tray.now (c.args.self.now.core.empty p is) refl);
}
