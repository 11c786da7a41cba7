use Rattle.std.proofs.Common.{arith}
use Rattle.book_parts.proofs.Events.{begins_roomed}
use Rattle.pause_work.proofs.Ends.{not_paused}
use Rattle.pause_work.proofs.next.pause_next.Goals as goal

pub returns-in_ok-make_room-in_default-phase : goal.returns-in_ok-make_room-in_default-phase
returns-in_ok-make_room-in_default-phase g c =
    let room = c.make_room.ensures in
    record {
      did = not_paused _ c.make_room.new.self c.phase.result c.requires.book c.requires.idle (begins_roomed _ _ room.same room.room_kept room.slack_kept) c.phase.ensures c.in_default-phase.not-Pausing;
      within = record {};
      turn = record { room = omega (arith, c.in_ok-make_room-in_default-phase.ensures.room.turns, c.room_for.ensures.turns) };
      memory = record {};
    }
