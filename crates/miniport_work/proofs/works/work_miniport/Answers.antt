use Rattle.std.proofs.Common.{arith}
use Rattle.miniport_work.proofs.Firsts.{taken_is, ready_taken, starts_with, goes_as, not_up, not_done}
use Rattle.miniport_work.proofs.Sends.{may_give, sent_down}
use Rattle.miniport_work.proofs.Returns.{may_give_back, came_back}
use Rattle.miniport_work.proofs.works.work_miniport.Goals as goal

pub take_list-list-requires : goal.take_list-list-requires
take_list-list-requires g c = starts_with c.requires.first c.in_ok-make_room.ensures.tray

pub give_to-requires-clause-may : goal.give_to-requires-clause-may
give_to-requires-clause-may g c =
    let r = c.in_ok-make_room.ensures.tray in
    let taken = taken_is c.requires.book c.requires.idle (goes_as c.requires.first r c.take_list-list.ensures c.in-Down.is) r c.take_list-list.ensures in
    may_give _ _ c.requires.book c.requires.idle taken.list _ _ c.in_ok-make_room.ensures.state (ready_taken c.take_list-list.ensures c.in_ok-make_room.ensures.ready)

pub give_back_to-requires : goal.give_back_to-requires
give_back_to-requires g c =
    let r = c.in_ok-make_room.ensures.tray in
    let back = goes_as c.requires.first r c.take_list-list.ensures c.in-Back.is in
    let taken = taken_is c.requires.book c.requires.idle back r c.take_list-list.ensures in
    may_give_back _ _ _ c.requires.book c.requires.idle taken.list _ _ (ready_taken c.take_list-list.ensures c.in_ok-make_room.ensures.ready)

pub returns-in-Down-clause-did : goal.returns-in-Down-clause-did
returns-in-Down-clause-did g c =
    let r = c.in_ok-make_room.ensures.tray in
    let taken = taken_is c.requires.book c.requires.idle (goes_as c.requires.first r c.take_list-list.ensures c.in-Down.is) r c.take_list-list.ensures in
    (sent_down _ _ c.requires.book c.requires.idle taken.list taken.begins c.in_ok-make_room.ensures.state c.give_to.ensures).0

pub returns-in-Down-clause-turn : goal.returns-in-Down-clause-turn
returns-in-Down-clause-turn g c =
    let r = c.in_ok-make_room.ensures.tray in
    let taken = taken_is c.requires.book c.requires.idle (goes_as c.requires.first r c.take_list-list.ensures c.in-Down.is) r c.take_list-list.ensures in
    let ready = ready_taken {t = c.take_list-list.new.tray} c.take_list-list.ensures c.in_ok-make_room.ensures.ready in
    let turns = (sent_down _ _ c.requires.book c.requires.idle taken.list taken.begins c.in_ok-make_room.ensures.state c.give_to.ensures).1 in
    record { room = omega (arith, turns, ready.covers.turns) }

pub returns-in-Back-clause-did : goal.returns-in-Back-clause-did
returns-in-Back-clause-did g c =
    let r = c.in_ok-make_room.ensures.tray in
    let back = goes_as c.requires.first r c.take_list-list.ensures c.in-Back.is in
    let taken = taken_is c.requires.book c.requires.idle back r c.take_list-list.ensures in
    (came_back _ _ _ c.requires.book c.requires.idle taken.list taken.begins c.in_ok-make_room.ensures.state c.give_back_to.ensures).0

pub returns-in-Back-clause-turn : goal.returns-in-Back-clause-turn
returns-in-Back-clause-turn g c =
    let r = c.in_ok-make_room.ensures.tray in
    let back = goes_as c.requires.first r c.take_list-list.ensures c.in-Back.is in
    let taken = taken_is c.requires.book c.requires.idle back r c.take_list-list.ensures in
    let ready = ready_taken {t = c.take_list-list.new.tray} c.take_list-list.ensures c.in_ok-make_room.ensures.ready in
    let turns = (came_back _ _ _ c.requires.book c.requires.idle taken.list taken.begins c.in_ok-make_room.ensures.state c.give_back_to.ensures).1 in
    record { room = omega (arith, turns, ready.covers.turns) }

pub unreachable-requires : goal.unreachable-requires
unreachable-requires g c = not_up c.requires.book c.requires.idle c.requires.first c.in_ok-make_room.ensures.tray c.take_list-list.ensures c.in-Up.is

pub unreachable-requires-in-Done : goal.unreachable-requires-in-Done
unreachable-requires-in-Done g c = not_done c.requires.book c.requires.idle c.requires.first c.in_ok-make_room.ensures.tray c.take_list-list.ensures c.in-Done.is
