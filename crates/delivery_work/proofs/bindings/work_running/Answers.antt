use Rattle.std.proofs.Common.{ap, arith}
use Rattle.std.proofs.lemmas.List.{length-map}
use Rattle.stack_rules.specs.Tests.{phase_is_running}
use Rattle.book_parts.specs.Parts.{view_of}
use Rattle.delivery_work.proofs.Readied.{may_work}
use Rattle.delivery_work.proofs.Worked.{works_event}
use Rattle.delivery_work.proofs.bindings.work_running.Goals as goal

pub work_first-requires-clause-may : goal.work_first-requires-clause-may
work_first-requires-clause-may g c =
    may_work (view_of g.M.MiniportCalls.state g.P.ProtocolCalls.state g.F.FilterCalls.state c.args.book.now) _ c.in-Some.many c.requires.book c.requires.idle c.requires.first
    c.make_all_room.ensures.roomed c.in_ok-make_all_room.ensures.ready
    (omega (arith, c.in-Some.ensures.all, c.len.ensures, c.args.book.now.protocols.ok.0, length-map c.args.book.now.protocols.items g.P.ProtocolCalls.state))

pub returns-clause-did : goal.returns-clause-did
returns-clause-did g c =
    (works_event (view_of g.M.MiniportCalls.state g.P.ProtocolCalls.state g.F.FilterCalls.state c.args.book.now) (view_of g.M.MiniportCalls.state g.P.ProtocolCalls.state g.F.FilterCalls.state c.make_all_room.new.book)
    (view_of g.M.MiniportCalls.state g.P.ProtocolCalls.state g.F.FilterCalls.state c.work_first.new.book) c.in-Some.many c.requires.book c.requires.idle (ap phase_is_running c.requires.running)
    c.make_all_room.ensures.roomed c.in_ok-make_all_room.ensures.ready
    (omega (arith, c.in-Some.ensures.all, c.len.ensures, c.args.book.now.protocols.ok.0, length-map c.args.book.now.protocols.items g.P.ProtocolCalls.state)) c.work_first.ensures).did

pub returns-clause-turn : goal.returns-clause-turn
returns-clause-turn g c =
    (works_event (view_of g.M.MiniportCalls.state g.P.ProtocolCalls.state g.F.FilterCalls.state c.args.book.now) (view_of g.M.MiniportCalls.state g.P.ProtocolCalls.state g.F.FilterCalls.state c.make_all_room.new.book)
    (view_of g.M.MiniportCalls.state g.P.ProtocolCalls.state g.F.FilterCalls.state c.work_first.new.book) c.in-Some.many c.requires.book c.requires.idle (ap phase_is_running c.requires.running)
    c.make_all_room.ensures.roomed c.in_ok-make_all_room.ensures.ready
    (omega (arith, c.in-Some.ensures.all, c.len.ensures, c.args.book.now.protocols.ok.0, length-map c.args.book.now.protocols.items g.P.ProtocolCalls.state)) c.work_first.ensures).turn
