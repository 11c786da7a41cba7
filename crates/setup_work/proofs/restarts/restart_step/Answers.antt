use Rattle.std.proofs.Common.{ap, arith}
use Rattle.driver_tray.specs.Tray.{TrayView}
use Rattle.setup_work.proofs.restarts.restart_step.Goals as goal

pub write_step-requires-clause-room : goal.write_step-requires-clause-room
write_step-requires-clause-room g c =
    omega (arith, c.floor_at-floor.ensures.room, c.requires.room, ap (λ (x : TrayView). x.room.rows) c.restart_floor.ensures.tray)
