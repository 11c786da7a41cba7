use Rattle.book_parts.specs.Parts.{view_of}
use Rattle.binding_work.proofs.Sending.{is_roomed}
use Rattle.receive_work.proofs.Indicating.{may_start, indicated_event, indicated_within, stopped_event}
use Rattle.receive_work.proofs.indications.indicate.Goals as goal

pub indicate_running-requires : goal.indicate_running-requires
indicate_running-requires g c =
    let old = view_of g.M.MiniportCalls.state g.P.ProtocolCalls.state g.F.FilterCalls.state c.args.book.now in
    let r = is_roomed old.tray c.make_room.new.self c.in_ok-make_room.ensures.same c.in_ok-make_room.ensures.room_kept c.in_ok-make_room.ensures.slack_kept c.in_ok-make_room.ensures.room.turns c.in_ok-make_room.ensures.room.rows c.in_ok-make_room.ensures.slack c.in_ok-make_room.ensures.low in
    may_start old c.make_room.new.self c.args.frames.now c.args.span c.requires.book c.requires.may r c.requires.within c.requires.shown

pub returns-in-Running-clause-did : goal.returns-in-Running-clause-did
returns-in-Running-clause-did g c =
    let old = view_of g.M.MiniportCalls.state g.P.ProtocolCalls.state g.F.FilterCalls.state c.args.book.now in
    let r = is_roomed old.tray c.make_room.new.self c.in_ok-make_room.ensures.same c.in_ok-make_room.ensures.room_kept c.in_ok-make_room.ensures.slack_kept c.in_ok-make_room.ensures.room.turns c.in_ok-make_room.ensures.room.rows c.in_ok-make_room.ensures.slack c.in_ok-make_room.ensures.low in
    (indicated_event old c.make_room.new.self _ c.args.frames.now c.indicate_running.result c.requires.book c.requires.idle c.in-Running.ensures c.requires.may r c.indicate_running.ensures).did

pub returns-in-Running-clause-within : goal.returns-in-Running-clause-within
returns-in-Running-clause-within g c = indicated_within c.indicate_running.ensures

pub returns-in-Running-clause-turn : goal.returns-in-Running-clause-turn
returns-in-Running-clause-turn g c =
    let old = view_of g.M.MiniportCalls.state g.P.ProtocolCalls.state g.F.FilterCalls.state c.args.book.now in
    let r = is_roomed old.tray c.make_room.new.self c.in_ok-make_room.ensures.same c.in_ok-make_room.ensures.room_kept c.in_ok-make_room.ensures.slack_kept c.in_ok-make_room.ensures.room.turns c.in_ok-make_room.ensures.room.rows c.in_ok-make_room.ensures.slack c.in_ok-make_room.ensures.low in
    (indicated_event old c.make_room.new.self _ c.args.frames.now c.indicate_running.result c.requires.book c.requires.idle c.in-Running.ensures c.requires.may r c.indicate_running.ensures).turn

pub returns-in_default-clause-did : goal.returns-in_default-clause-did
returns-in_default-clause-did g c =
    let old = view_of g.M.MiniportCalls.state g.P.ProtocolCalls.state g.F.FilterCalls.state c.args.book.now in
    let r = is_roomed old.tray c.make_room.new.self c.in_ok-make_room.ensures.same c.in_ok-make_room.ensures.room_kept c.in_ok-make_room.ensures.slack_kept c.in_ok-make_room.ensures.room.turns c.in_ok-make_room.ensures.room.rows c.in_ok-make_room.ensures.slack c.in_ok-make_room.ensures.low in
    (stopped_event old c.make_room.new.self c.args.frames.now c.state_of.result c.requires.book c.requires.idle c.state_of.ensures c.in_default.not-Running r).did
