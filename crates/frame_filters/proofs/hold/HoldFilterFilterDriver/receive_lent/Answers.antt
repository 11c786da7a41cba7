use Rattle.std.proofs.Common.{refl}
use Rattle.frame_filters.proofs.Passing.{leaves_all}
use Rattle.frame_filters.proofs.hold.HoldFilterFilterDriver.receive_lent.Goals as goal

pub returns-clause-lent : goal.returns-clause-lent
returns-clause-lent c = record {
  same = refl;
  by = λ p is. leaves_all p c.args._list.now c.args._tray.now c.args._tray.now (c.args.self.now.empty p is) refl;
}
