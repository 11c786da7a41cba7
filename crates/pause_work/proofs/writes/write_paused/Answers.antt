use Rattle.pause_work.specs.Positions.{next_width}
use Rattle.pause_work.proofs.Rows.{room_after, first_and_next}
use Rattle.pause_work.proofs.writes.write_paused.Goals as goal

pub write_next-requires-clause-room : goal.write_next-requires-clause-room
write_next-requires-clause-room c = room_after c.args.tray.now c.write_floor.new.tray c.args.floor (next_width c.args.next) c.write_floor.ensures c.requires.room

pub returns : goal.returns
returns c = first_and_next c.args.tray.now c.write_floor.new.tray c.write_next.new.tray c.args.floor c.args.next c.write_floor.ensures c.write_next.ensures
