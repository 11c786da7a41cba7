use Rattle.std.proofs.Common.{ap, arith}
use Rattle.driver_tray.specs.Tray.{TrayView}
use Rattle.lend_work.proofs.Meeting.{lent_rows}
use Rattle.lend_work.proofs.visits.lend_running.Goals as goal

pub settle-requires : goal.settle-requires
settle-requires g c =
    let given = ap (λ (t : TrayView). t.room.rows) c.give.ensures in
    omega (arith, given, c.requires.may.rows, lent_rows c.requires.may.setup c.receive_lent-became.ensures.lent)
