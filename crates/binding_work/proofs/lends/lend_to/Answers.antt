use Rattle.std.proofs.Common.{arith, ap}
use Rattle.driver_tray.specs.Tray.{TrayView}
use Rattle.driver_tray.proofs.Rows.{fits_bytes}
use Rattle.binding_work.proofs.lends.lend_to.Goals as goal

pub deliver-span-requires-clause-byte_room : goal.deliver-span-requires-clause-byte_room
deliver-span-requires-clause-byte_room g c =
    omega (arith, fits_bytes c.args.list.now.frames c.requires.may.sized.fits, c.requires.may.bytes, ap (λ (t : TrayView). t.room.bytes) c.exchange_pool.ensures.tray, ap (λ (t : TrayView). t.room.bytes) c.set_caller.ensures)
