use Rattle.book_parts.proofs.Events.{begins_roomed}
use Rattle.pump_work.proofs.Firsts.{did_idle}
use Rattle.pump_work.proofs.pumps.idle.Goals as goal

pub returns-clause-did : goal.returns-clause-did
returns-clause-did g c =
    let room = c.make_room.ensures in
    did_idle _ _ c.requires.book c.requires.idle c.requires.still (begins_roomed _ _ room.same room.room_kept room.slack_kept)
