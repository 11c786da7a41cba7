use Rattle.setup_work.proofs.Positions.{room_for_last, step_written}
use Rattle.setup_work.proofs.restarts.write_step.Goals as goal

pub write_when-requires-2 : goal.write_when-requires-2
write_when-requires-2 c = room_for_last c.args.tray.now _ _ c.args.begins c.args.floor c.requires.room c.write_when.ensures c.write_floor.ensures

pub returns : goal.returns
returns c = step_written c.args.tray.now _ _ _ c.args.begins c.args.floor c.args.top c.write_when.ensures c.write_floor.ensures c.write_when-2.ensures
