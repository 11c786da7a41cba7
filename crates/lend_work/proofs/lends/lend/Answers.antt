use Rattle.std.proofs.Common.{arith}
use Rattle.std.proofs.lemmas.List.{length-map}
use Rattle.book_parts.specs.Parts.{view_of}
use Rattle.lend_work.proofs.Lending.{may_lend, lends_event, stopped_event}
use Rattle.lend_work.proofs.lends.lend.Goals as goal

pub lend_running-requires-clause-may : goal.lend_running-requires-clause-may
lend_running-requires-clause-may g c =
    may_lend (view_of g.M.MiniportCalls.state g.P.ProtocolCalls.state g.F.FilterCalls.state c.args.book.now) (view_of g.M.MiniportCalls.state g.P.ProtocolCalls.state g.F.FilterCalls.state c.make_room.new.book)
    c.in-Some.many c.args.frames.now c.args.span c.requires.book c.requires.idle c.make_room.ensures.roomed c.in_ok-make_room.ensures.ready
    (omega (arith, c.in-Some.ensures.all, c.len.ensures, c.args.book.now.protocols.ok.0, length-map c.args.book.now.protocols.items g.P.ProtocolCalls.state)) c.requires.may c.requires.within c.requires.shown

pub returns-in-Running-clause-did : goal.returns-in-Running-clause-did
returns-in-Running-clause-did g c =
    (lends_event (view_of g.M.MiniportCalls.state g.P.ProtocolCalls.state g.F.FilterCalls.state c.args.book.now) (view_of g.M.MiniportCalls.state g.P.ProtocolCalls.state g.F.FilterCalls.state c.make_room.new.book)
    (view_of g.M.MiniportCalls.state g.P.ProtocolCalls.state g.F.FilterCalls.state c.lend_running.new.book) c.in-Some.many c.args.frames.now c.lend_running.result c.requires.book c.requires.idle c.make_room.ensures.roomed
    c.in_ok-make_room.ensures.ready (omega (arith, c.in-Some.ensures.all, c.len.ensures, c.args.book.now.protocols.ok.0, length-map c.args.book.now.protocols.items g.P.ProtocolCalls.state)) c.requires.may c.in-Running.ensures
    c.lend_running.ensures).did

pub returns-in-Running-clause-turn : goal.returns-in-Running-clause-turn
returns-in-Running-clause-turn g c =
    (lends_event (view_of g.M.MiniportCalls.state g.P.ProtocolCalls.state g.F.FilterCalls.state c.args.book.now) (view_of g.M.MiniportCalls.state g.P.ProtocolCalls.state g.F.FilterCalls.state c.make_room.new.book)
    (view_of g.M.MiniportCalls.state g.P.ProtocolCalls.state g.F.FilterCalls.state c.lend_running.new.book) c.in-Some.many c.args.frames.now c.lend_running.result c.requires.book c.requires.idle c.make_room.ensures.roomed
    c.in_ok-make_room.ensures.ready (omega (arith, c.in-Some.ensures.all, c.len.ensures, c.args.book.now.protocols.ok.0, length-map c.args.book.now.protocols.items g.P.ProtocolCalls.state)) c.requires.may c.in-Running.ensures
    c.lend_running.ensures).turn

pub returns-in_default-state_of : goal.returns-in_default-state_of
returns-in_default-state_of g c =
    let e = stopped_event (view_of g.M.MiniportCalls.state g.P.ProtocolCalls.state g.F.FilterCalls.state c.args.book.now) (view_of g.M.MiniportCalls.state g.P.ProtocolCalls.state g.F.FilterCalls.state c.make_room.new.book)
    c.in-Some.many c.args.frames.now c.state_of.result c.requires.book c.requires.idle c.make_room.ensures.roomed c.in_ok-make_room.ensures.ready c.state_of.ensures c.in_default-state_of.not-Running in
    record { did = e.did; within = tt; turn = e.turn; memory = tt }
