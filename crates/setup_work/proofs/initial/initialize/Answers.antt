use Rattle.std.proofs.Common.{◌≡◌, arith, length, map, refl}
use Rattle.book_lemmas.specs.Views.{BookView, HeldView}
use Rattle.book_parts.specs.Parts.{view_of}
use Rattle.book_parts.proofs.Events.{begins_roomed}
use Rattle.setup_work.proofs.Halted.{few_protocols, may_initialize, may_open, was_halted}
use Rattle.setup_work.proofs.Initialized.{held_up, initialized, not_initialized, turns_left, wrong_phase}
use Rattle.setup_work.proofs.initial.initialize.Goals as goal

pub set_up-requires-clause-miniport : goal.set_up-requires-clause-miniport
set_up-requires-clause-miniport g c =
    let room = c.make_room.ensures in
    may_initialize (view_of g.M.MiniportCalls.state g.P.ProtocolCalls.state g.F.FilterCalls.state c.args.book.now) c.requires.book c.requires.idle
    (was_halted (view_of g.M.MiniportCalls.state g.P.ProtocolCalls.state g.F.FilterCalls.state c.args.book.now) c.make_room.new.self (begins_roomed _ _ room.same room.room_kept room.slack_kept) c.in-Halted.ensures)

pub set_up-requires-clause-protocols : goal.set_up-requires-clause-protocols
set_up-requires-clause-protocols g c =
    let room = c.make_room.ensures in
    may_open (view_of g.M.MiniportCalls.state g.P.ProtocolCalls.state g.F.FilterCalls.state c.args.book.now) c.requires.book c.requires.idle
    (was_halted (view_of g.M.MiniportCalls.state g.P.ProtocolCalls.state g.F.FilterCalls.state c.args.book.now) c.make_room.new.self (begins_roomed _ _ room.same room.room_kept room.slack_kept) c.in-Halted.ensures)

pub set_up-requires-clause-few : goal.set_up-requires-clause-few
set_up-requires-clause-few g c =
    let many : length c.args.book.now.protocols.items ≡ c.in-Some.bindings =
    few_protocols (view_of g.M.MiniportCalls.state g.P.ProtocolCalls.state g.F.FilterCalls.state c.args.book.now) g.P.ProtocolCalls.state c.args.book.now.protocols.items c.in-Some.bindings c.requires.book c.requires.idle refl c.in-Some.ensures.all in
    omega (arith, many)

pub returns-in-Ok-clause-did : goal.returns-in-Ok-clause-did
returns-in-Ok-clause-did g c =
    let room = c.make_room.ensures in
    let old : BookView = view_of g.M.MiniportCalls.state g.P.ProtocolCalls.state g.F.FilterCalls.state c.args.book.now in
    let held : HeldView = record old.held { miniport = g.M.MiniportCalls.state c.set_up.new.miniport; protocols = map g.P.ProtocolCalls.state c.set_up.new.protocols.items } in
    initialized old c.make_room.new.self _ held c.in-Some.bindings c.requires.book c.requires.idle (begins_roomed _ _ room.same room.room_kept room.slack_kept) c.in-Halted.ensures c.in-Some.ensures.all c.write_up.ensures
    (held_up _ old.held held c.in-Ok.ensures.up refl)

pub returns-in-Ok-clause-turn : goal.returns-in-Ok-clause-turn
returns-in-Ok-clause-turn g c = record { room = turns_left c.make_room.new.self _ c.in-Some.bindings c.in_ok-make_room.ensures.room.turns c.write_up.ensures }

pub returns-in-Err-Refused-clause-did : goal.returns-in-Err-Refused-clause-did
returns-in-Err-Refused-clause-did g c =
    let room = c.make_room.ensures in
    let old : BookView = view_of g.M.MiniportCalls.state g.P.ProtocolCalls.state g.F.FilterCalls.state c.args.book.now in
    let held : HeldView = record old.held { miniport = g.M.MiniportCalls.state c.set_up.new.miniport; protocols = map g.P.ProtocolCalls.state c.set_up.new.protocols.items } in
    not_initialized old c.make_room.new.self held c.requires.book c.requires.idle (begins_roomed _ _ room.same room.room_kept room.slack_kept) c.in-Halted.ensures (c.in-Err-Refused.ensures.refused c.in-Err-Refused.field-0-is) refl

pub returns-in_default-phase : goal.returns-in_default-phase
returns-in_default-phase g c =
    let room = c.make_room.ensures in
    record {
      did = wrong_phase _ _ _ c.requires.book c.requires.idle (begins_roomed _ _ room.same room.room_kept room.slack_kept) c.phase.ensures c.in_default-phase.not-Halted;
      within = record {};
      turn = record { room = c.in_ok-make_room.ensures.room.turns };
      memory = record {};
    }
