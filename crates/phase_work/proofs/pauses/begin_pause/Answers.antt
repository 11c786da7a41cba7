use Rattle.book_parts.proofs.Events.{begins_roomed}
use Rattle.phase_work.proofs.Pausing.{begun, turns_left, not_begun}
use Rattle.phase_work.proofs.pauses.begin_pause.Goals as goal

pub returns-in-Running-clause-did : goal.returns-in-Running-clause-did
returns-in-Running-clause-did g c =
    let room = c.make_room.ensures in
    begun _ _ _ _ c.requires.book c.requires.idle (begins_roomed _ _ room.same room.room_kept room.slack_kept) c.in-Running.ensures c.in-Some.ensures.all c.write_begin.ensures

pub returns-in-Running-clause-turn : goal.returns-in-Running-clause-turn
returns-in-Running-clause-turn g c = record { room = turns_left c.make_room.new.self _ c.in-Some.bindings c.in_ok-make_room.ensures.room.turns c.write_begin.ensures }

pub returns-in_default-phase : goal.returns-in_default-phase
returns-in_default-phase g c =
    let room = c.make_room.ensures in
    record {
      did = not_begun _ _ _ c.requires.book c.requires.idle (begins_roomed _ _ room.same room.room_kept room.slack_kept) c.phase.ensures c.in_default-phase.not-Running;
      within = record {};
      turn = record { room = c.in_ok-make_room.ensures.room.turns };
      memory = record {};
    }
