use Rattle.std.proofs.Common.{ap, arith, sym, subst}
use Rattle.driver_tray.specs.Tray.{TrayView}
use Rattle.halt_work.specs.Halted.{AreNumbers}
use Rattle.halt_work.proofs.Wrote.{order_closed, room_closed, room_detached, all_written}
use Rattle.halt_work.proofs.rows.write_halted.Goals as goal

pub write_detached-requires-clause-numbers : goal.write_detached-requires-clause-numbers
write_detached-requires-clause-numbers c = subst AreNumbers (sym (order_closed c.args.tray.now _ c.args.bindings c.write_bindings.ensures)) c.requires.numbers

pub write_detached-requires-clause-room : goal.write_detached-requires-clause-room
write_detached-requires-clause-room c =
    let room = room_closed c.args.tray.now _ c.args.bindings c.requires.room c.write_bindings.ensures in
    omega (arith, room)

pub write_states-requires-clause-room : goal.write_states-requires-clause-room
write_states-requires-clause-room c =
    let room = room_detached c.args.tray.now _ _ c.args.bindings c.requires.room c.write_bindings.ensures c.write_detached.ensures in
    omega (arith, room)

pub write_phase-requires-clause-room : goal.write_phase-requires-clause-room
write_phase-requires-clause-room c =
    let room = room_detached c.args.tray.now _ _ c.args.bindings c.requires.room c.write_bindings.ensures c.write_detached.ensures in
    let left = ap (λ (x : TrayView). x.room.rows) c.write_states.ensures in
    omega (arith, room, left)

pub returns : goal.returns
returns c = all_written c.args.tray.now _ _ _ _ c.args.bindings c.write_bindings.ensures c.write_detached.ensures c.write_states.ensures c.write_phase.ensures
