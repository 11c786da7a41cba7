use Rattle.std.proofs.Common.{◌<◌, true, false, map, subst}
use Rattle.std.proofs.lemmas.List.{length-map}
use Rattle.book_lemmas.specs.Views.{BookView}
use Rattle.book_parts.specs.Parts.{view_of}
use Rattle.book_parts.proofs.Events.{begins_roomed}
use Rattle.receive_work.proofs.Returning.{there_of, called_at, returned_event}
use Rattle.receive_work.proofs.returns.give_back.Goals as goal

pub return_at-kept-requires-clause-protocols : goal.return_at-kept-requires-clause-protocols
return_at-kept-requires-clause-protocols g c =
    let old = view_of g.M.MiniportCalls.state g.P.ProtocolCalls.state g.F.FilterCalls.state c.args.book.now in
    subst (λ n. c.args.binding < n) (length-map c.args.book.now.protocols.items g.P.ProtocolCalls.state) (there_of old c.args.binding c.args.list c.requires.book c.requires.idle c.requires.may).protocols

pub return_at-kept-requires-clause-pools : goal.return_at-kept-requires-clause-pools
return_at-kept-requires-clause-pools g c =
    let old = view_of g.M.MiniportCalls.state g.P.ProtocolCalls.state g.F.FilterCalls.state c.args.book.now in
    (there_of old c.args.binding c.args.list c.requires.book c.requires.idle c.requires.may).pools

pub returns-then-kept-clause-did : goal.returns-then-kept-clause-did
returns-then-kept-clause-did g c =
    let old : BookView = view_of g.M.MiniportCalls.state g.P.ProtocolCalls.state g.F.FilterCalls.state c.args.book.now in
    let new : BookView = record {
      tray = c.return_at-kept.new.tray;
      held = record old.held { protocols = map g.P.ProtocolCalls.state c.return_at-kept.new.protocols.items; protocol_pools = c.return_at-kept.new.pools.items };
    } in
    (returned_event old new c.make_room.new.self c.args.binding c.args.list true _ _ c.requires.book c.requires.idle c.requires.may
    (begins_roomed old.tray c.make_room.new.self c.in_ok-make_room.ensures.same c.in_ok-make_room.ensures.room_kept c.in_ok-make_room.ensures.slack_kept) c.in_ok-make_room.ensures.room.turns
    c.if-kept.ensures.returns (called_at old.held c.args.binding _ _ new.held.protocols new.held.protocol_pools c.if-kept.ensures.protocols c.if-kept.ensures.pools)).did

pub returns-then-kept-clause-turn : goal.returns-then-kept-clause-turn
returns-then-kept-clause-turn g c =
    let old : BookView = view_of g.M.MiniportCalls.state g.P.ProtocolCalls.state g.F.FilterCalls.state c.args.book.now in
    let new : BookView = record {
      tray = c.return_at-kept.new.tray;
      held = record old.held { protocols = map g.P.ProtocolCalls.state c.return_at-kept.new.protocols.items; protocol_pools = c.return_at-kept.new.pools.items };
    } in
    (returned_event old new c.make_room.new.self c.args.binding c.args.list true _ _ c.requires.book c.requires.idle c.requires.may
    (begins_roomed old.tray c.make_room.new.self c.in_ok-make_room.ensures.same c.in_ok-make_room.ensures.room_kept c.in_ok-make_room.ensures.slack_kept) c.in_ok-make_room.ensures.room.turns
    c.if-kept.ensures.returns (called_at old.held c.args.binding _ _ new.held.protocols new.held.protocol_pools c.if-kept.ensures.protocols c.if-kept.ensures.pools)).turn

pub returns-else-kept-clause-did : goal.returns-else-kept-clause-did
returns-else-kept-clause-did g c =
    let old : BookView = view_of g.M.MiniportCalls.state g.P.ProtocolCalls.state g.F.FilterCalls.state c.args.book.now in
    let new : BookView = record {
      tray = c.return_at-kept.new.tray;
      held = record old.held { protocols = map g.P.ProtocolCalls.state c.return_at-kept.new.protocols.items; protocol_pools = c.return_at-kept.new.pools.items };
    } in
    (returned_event old new c.make_room.new.self c.args.binding c.args.list false _ _ c.requires.book c.requires.idle c.requires.may
    (begins_roomed old.tray c.make_room.new.self c.in_ok-make_room.ensures.same c.in_ok-make_room.ensures.room_kept c.in_ok-make_room.ensures.slack_kept) c.in_ok-make_room.ensures.room.turns
    c.if-kept.ensures.returns (called_at old.held c.args.binding _ _ new.held.protocols new.held.protocol_pools c.if-kept.ensures.protocols c.if-kept.ensures.pools)).did

pub returns-else-kept-clause-turn : goal.returns-else-kept-clause-turn
returns-else-kept-clause-turn g c =
    let old : BookView = view_of g.M.MiniportCalls.state g.P.ProtocolCalls.state g.F.FilterCalls.state c.args.book.now in
    let new : BookView = record {
      tray = c.return_at-kept.new.tray;
      held = record old.held { protocols = map g.P.ProtocolCalls.state c.return_at-kept.new.protocols.items; protocol_pools = c.return_at-kept.new.pools.items };
    } in
    (returned_event old new c.make_room.new.self c.args.binding c.args.list false _ _ c.requires.book c.requires.idle c.requires.may
    (begins_roomed old.tray c.make_room.new.self c.in_ok-make_room.ensures.same c.in_ok-make_room.ensures.room_kept c.in_ok-make_room.ensures.slack_kept) c.in_ok-make_room.ensures.room.turns
    c.if-kept.ensures.returns (called_at old.held c.args.binding _ _ new.held.protocols new.held.protocol_pools c.if-kept.ensures.protocols c.if-kept.ensures.pools)).turn
