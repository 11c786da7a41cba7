use Rattle.std.proofs.Common.{◌≤◌, subst, arith}
use Rattle.book_lemmas.specs.Views.{BookView}
use Rattle.book_parts.specs.Parts.{held_of, view_of}
use Rattle.book_parts.proofs.Events.{begins_roomed}
use Rattle.pause_work.specs.Positions.{IsFound}
use Rattle.pause_work.proofs.Fronts.{front_is, never_none}
use Rattle.pause_work.proofs.Ends.{stays, goes_on, turns_left}
use Rattle.pause_work.proofs.next.pause_front.Goals as goal

pub floor_at-requires-clause-below : goal.floor_at-requires-clause-below
floor_at-requires-clause-below g c = (front_is _ c.requires.book c.requires.idle c.requires.pausing).below

pub unreachable-requires : goal.unreachable-requires
unreachable-requires g c =
    never_none _ c.first_unpaused-position.result c.requires.book c.requires.idle c.requires.pausing c.first_unpaused-position.ensures
    (subst (IsFound c.args.book.now.tray.net.modules c.first_unpaused-position.result) c.in_default.is c.floor_at.ensures)

pub floor_at-next-requires-clause-below : goal.floor_at-next-requires-clause-below
floor_at-next-requires-clause-below g c = (front_is _ c.requires.book c.requires.idle c.requires.pausing).below

pub returns-then-waiting-gt0-clause-did : goal.returns-then-waiting-gt0-clause-did
returns-then-waiting-gt0-clause-did g c =
    let room = c.make_room.ensures in
    stays _ c.make_room.new.self c.in-Some.floor c.in-Some-all_count.waiting c.first_unpaused-position.result c.requires.book c.requires.idle (begins_roomed _ _ room.same room.room_kept room.slack_kept) c.requires.pausing c.first_unpaused-position.ensures
    (subst (IsFound c.args.book.now.tray.net.modules c.first_unpaused-position.result) c.in-Some.is c.floor_at.ensures) c.in-Some-all_count.ensures c.if-waiting-gt0.true

pub returns-else-waiting-gt0-clause-did : goal.returns-else-waiting-gt0-clause-did
returns-else-waiting-gt0-clause-did g c =
    let room = c.make_room.ensures in
    let done = c.pause_position.ensures in
    let old : BookView = view_of g.M.MiniportCalls.state g.P.ProtocolCalls.state g.F.FilterCalls.state c.args.book.now in
    let held = held_of g.M.MiniportCalls.state g.P.ProtocolCalls.state g.F.FilterCalls.state c.pause_position.new.book in
    goes_on old c.make_room.new.self c.pause_position.new.book.tray held c.in-Some.floor c.floor_at-next.result c.in-Some-all_count.waiting c.first_unpaused-position.result _ c.requires.book c.requires.idle
    (begins_roomed _ _ room.same room.room_kept room.slack_kept) c.requires.pausing c.first_unpaused-position.ensures
    (subst (IsFound c.args.book.now.tray.net.modules c.first_unpaused-position.result) c.in-Some.is c.floor_at.ensures) c.floor_at-next.ensures c.in-Some-all_count.ensures c.if-waiting-gt0.false done.tray done.held done.reply

pub returns-else-waiting-gt0-clause-turn : goal.returns-else-waiting-gt0-clause-turn
returns-else-waiting-gt0-clause-turn g c =
    let turns : 1 ≤ c.make_room.new.self.room.turns = omega (arith, c.in_ok-make_room.ensures.room.turns, c.room_for-room.ensures.turns) in
    record { room = turns_left c.make_room.new.self c.pause_position.new.book.tray c.in-Some.floor c.floor_at-next.result turns c.pause_position.ensures.tray }
