use Rattle.std.proofs.Common.{◌*◌, ◌≤◌, sym, subst, arith}
use Rattle.driver_tray.specs.Tray.{TrayView}
use Rattle.driver_tray.proofs.Rows.{fits_bytes}
use Rattle.driver_tray.proofs.tray.Tray.pass_copy.Goals as goal

pub hold_frames-span-requires-clause-byte_room : goal.hold_frames-span-requires-clause-byte_room
hold_frames-span-requires-clause-byte_room c =
    let room : 8 * 1518 ≤ c.self.inside.journal.room.bytes = subst (λ (v : TrayView). 8 * 1518 ≤ v.room.bytes) (sym c.self.view_is) c.requires.byte_room in
    omega (arith, fits_bytes c.args.made.now c.requires.fits, room)
