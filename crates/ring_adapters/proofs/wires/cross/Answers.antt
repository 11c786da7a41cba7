use Rattle.std.proofs.Common.{arith}
use Rattle.driver_log.proofs.Entries.{fits_bytes}
use Rattle.ring_adapters.proofs.wires.cross.Goals as goal

pub wire-span-requires-clause-byte_room : goal.wire-span-requires-clause-byte_room
wire-span-requires-clause-byte_room c = omega (arith, fits_bytes c.args.list.frames c.requires.sized.fits, c.requires.tray_room.byte_room)
