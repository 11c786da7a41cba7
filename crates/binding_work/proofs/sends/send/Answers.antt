use Rattle.std.proofs.Common.{sym, ◌∙◌}
use Rattle.book_parts.specs.Parts.{view_of}
use Rattle.binding_work.proofs.Sending.{is_roomed, is_asked, is_bound, may_start, sent_event, sent_within, paused_event}
use Rattle.binding_work.proofs.sends.send.Goals as goal

pub returns-in_default-clause-did : goal.returns-in_default-clause-did
returns-in_default-clause-did g c =
    let old = view_of g.M.MiniportCalls.state g.P.ProtocolCalls.state g.F.FilterCalls.state c.args.book.now in
    (paused_event old c.make_room.new.self c.args.binding c.args.cancel c.args.frames.now c.args.phase c.requires.book c.requires.idle c.requires.phase c.in_default.not-Running
    (is_roomed old.tray c.make_room.new.self c.in_ok-make_room.ensures.same c.in_ok-make_room.ensures.room_kept c.in_ok-make_room.ensures.slack_kept c.in_ok-make_room.ensures.room.turns c.in_ok-make_room.ensures.room.rows c.in_ok-make_room.ensures.slack c.in_ok-make_room.ensures.low)).did

pub send_running-requires-clause-there : goal.send_running-requires-clause-there
send_running-requires-clause-there g c =
    let old = view_of g.M.MiniportCalls.state g.P.ProtocolCalls.state g.F.FilterCalls.state c.args.book.now in
    (is_bound old c.args.binding c.requires.book c.requires.idle (is_asked old c.args.binding c.args.cancel c.args.frames.now c.requires.may).below).pools

pub send_running-requires-clause-may : goal.send_running-requires-clause-may
send_running-requires-clause-may g c =
    let old = view_of g.M.MiniportCalls.state g.P.ProtocolCalls.state g.F.FilterCalls.state c.args.book.now in
    let a = is_asked old c.args.binding c.args.cancel c.args.frames.now c.requires.may in
    may_start old c.make_room.new.self c.args.binding c.args.frames.now c.args.span c.requires.book (is_bound old c.args.binding c.requires.book c.requires.idle a.below) a
    (is_roomed old.tray c.make_room.new.self c.in_ok-make_room.ensures.same c.in_ok-make_room.ensures.room_kept c.in_ok-make_room.ensures.slack_kept c.in_ok-make_room.ensures.room.turns c.in_ok-make_room.ensures.room.rows c.in_ok-make_room.ensures.slack c.in_ok-make_room.ensures.low)
    c.requires.within c.requires.shown

pub returns-in-Running-clause-did : goal.returns-in-Running-clause-did
returns-in-Running-clause-did g c =
    let old = view_of g.M.MiniportCalls.state g.P.ProtocolCalls.state g.F.FilterCalls.state c.args.book.now in
    (sent_event old c.make_room.new.self _ c.args.binding c.args.cancel c.args.frames.now c.send_running.result c.requires.book c.requires.idle (sym c.requires.phase ∙ c.in-Running.is) c.requires.may
    (is_roomed old.tray c.make_room.new.self c.in_ok-make_room.ensures.same c.in_ok-make_room.ensures.room_kept c.in_ok-make_room.ensures.slack_kept c.in_ok-make_room.ensures.room.turns c.in_ok-make_room.ensures.room.rows c.in_ok-make_room.ensures.slack c.in_ok-make_room.ensures.low)
    c.send_running.ensures).did

pub returns-in-Running-clause-within : goal.returns-in-Running-clause-within
returns-in-Running-clause-within g c = sent_within c.send_running.ensures

pub returns-in-Running-clause-turn : goal.returns-in-Running-clause-turn
returns-in-Running-clause-turn g c =
    let old = view_of g.M.MiniportCalls.state g.P.ProtocolCalls.state g.F.FilterCalls.state c.args.book.now in
    (sent_event old c.make_room.new.self _ c.args.binding c.args.cancel c.args.frames.now c.send_running.result c.requires.book c.requires.idle (sym c.requires.phase ∙ c.in-Running.is) c.requires.may
    (is_roomed old.tray c.make_room.new.self c.in_ok-make_room.ensures.same c.in_ok-make_room.ensures.room_kept c.in_ok-make_room.ensures.slack_kept c.in_ok-make_room.ensures.room.turns c.in_ok-make_room.ensures.room.rows c.in_ok-make_room.ensures.slack c.in_ok-make_room.ensures.low)
    c.send_running.ensures).turn
