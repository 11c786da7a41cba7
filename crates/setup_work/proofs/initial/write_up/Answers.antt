use Rattle.std.proofs.Common.{ap, arith}
use Rattle.driver_tray.specs.Tray.{TrayView}
use Rattle.setup_work.proofs.Initialized.{made_up, room_up}
use Rattle.setup_work.proofs.initial.write_up.Goals as goal

pub write_phase-requires-clause-room : goal.write_phase-requires-clause-room
write_phase-requires-clause-room c =
    omega (arith, room_up c.args.tray.now _ _ c.args.bindings c.requires.room c.write_states.ensures c.write_bindings.ensures)

pub write_config-requires-clause-room : goal.write_config-requires-clause-room
write_config-requires-clause-room c =
    omega (arith, room_up c.args.tray.now _ _ c.args.bindings c.requires.room c.write_states.ensures c.write_bindings.ensures, ap (λ (x : TrayView). x.room.rows) c.write_phase.ensures)

pub returns : goal.returns
returns c = made_up c.args.tray.now _ _ _ _ c.args.bindings c.write_states.ensures c.write_bindings.ensures c.write_phase.ensures c.write_config.ensures
