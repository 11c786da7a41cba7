use Rattle.std.proofs.Common.{true, false, refl}
use Rattle.ndis_base.specs.declared.Phase.TheVariants as phase
use Rattle.book_parts.proofs.Events.{begins_roomed}
use Rattle.setup_work.proofs.Steps.{can_restart, restarted, not_restarted, turns_left}
use Rattle.setup_work.proofs.restarts.restart_next.Goals as goal

pub restart_step-requires : goal.restart_step-requires
restart_step-requires g c =
    let room = c.make_room.ensures in
    can_restart _ _ _ phase.Paused c.requires.book c.requires.idle (begins_roomed _ _ room.same room.room_kept room.slack_kept) c.in-Paused.ensures tt c.in-Some.ensures.all c.next_fits.ensures c.in_ok-make_room.ensures.room.rows

pub restart_step-requires-in-Restarting : goal.restart_step-requires-in-Restarting
restart_step-requires-in-Restarting g c =
    let room = c.make_room.ensures in
    can_restart _ _ _ phase.Restarting c.requires.book c.requires.idle (begins_roomed _ _ room.same room.room_kept room.slack_kept) c.in-Restarting.ensures tt c.in-Some.ensures.all c.next_fits.ensures c.in_ok-make_room.ensures.room.rows

pub returns-in-Paused-clause-did : goal.returns-in-Paused-clause-did
returns-in-Paused-clause-did g c =
    let room = c.make_room.ensures in
    let step = c.restart_step.ensures in
    restarted _ c.make_room.new.self _ _ true _ phase.Paused c.requires.book c.requires.idle (begins_roomed _ _ room.same room.room_kept room.slack_kept) c.in-Paused.ensures tt refl step.tray step.held step.answer

pub returns-in-Paused-clause-turn : goal.returns-in-Paused-clause-turn
returns-in-Paused-clause-turn g c = record { room = turns_left c.make_room.new.self _ true c.in_ok-make_room.ensures.room.turns c.restart_step.ensures.tray }

pub returns-in-Restarting-clause-did : goal.returns-in-Restarting-clause-did
returns-in-Restarting-clause-did g c =
    let room = c.make_room.ensures in
    let step = c.restart_step-in-Restarting.ensures in
    restarted _ c.make_room.new.self _ _ false _ phase.Restarting c.requires.book c.requires.idle (begins_roomed _ _ room.same room.room_kept room.slack_kept) c.in-Restarting.ensures tt refl step.tray step.held step.answer

pub returns-in-Restarting-clause-turn : goal.returns-in-Restarting-clause-turn
returns-in-Restarting-clause-turn g c = record { room = turns_left c.make_room.new.self _ false c.in_ok-make_room.ensures.room.turns c.restart_step-in-Restarting.ensures.tray }

pub returns-in_default-phase : goal.returns-in_default-phase
returns-in_default-phase g c =
    let room = c.make_room.ensures in
    record {
      did = not_restarted _ _ _ c.requires.book c.requires.idle (begins_roomed _ _ room.same room.room_kept room.slack_kept) c.phase.ensures c.in_default-phase.not-Paused c.in_default-phase.not-Restarting;
      within = record {};
      turn = record { room = c.in_ok-make_room.ensures.room.turns };
      memory = record {};
    }
