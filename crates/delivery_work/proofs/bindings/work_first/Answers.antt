use Rattle.std.proofs.Common.{refl, ◌∙◌, arith}
use Rattle.std.proofs.lemmas.List.{length-map}
use Rattle.journal_types.specs.declared.PassWay.TheVariants as way
use Rattle.journal_types.specs.declared.Target.TheVariants.{Bindings}
use Rattle.book_lemmas.specs.Views.{no_pool}
use Rattle.book_parts.specs.Parts.{view_of}
use Rattle.binding_work.proofs.Homing.{place_is}
use Rattle.binding_work.proofs.Upward.{first_begins}
use Rattle.delivery_work.proofs.Readied.{first_sized, may_first, room_to_return, works_delivers, works_returns}
use Rattle.delivery_work.proofs.bindings.work_first.Goals as goal

pub take_list-list-requires : goal.take_list-list-requires
take_list-list-requires g c = first_begins _ way.Up Bindings c.requires.may.first

pub next_taker-requires : goal.next_taker-requires
next_taker-requires g c =
    let v = view_of g.M.MiniportCalls.state g.P.ProtocolCalls.state g.F.FilterCalls.state c.args.book.now in
    (first_sized v c.args.many c.take_list-list.new.tray c.take_list-list.result.0 c.take_list-list.result.1 c.take_list-list.result.2 c.requires.may c.take_list-list.ensures).fits.some

pub deliver_each-requires : goal.deliver_each-requires
deliver_each-requires g c =
    let v = view_of g.M.MiniportCalls.state g.P.ProtocolCalls.state g.F.FilterCalls.state c.args.book.now in
    let states = length-map c.args.book.now.protocols.items g.P.ProtocolCalls.state in
    let rooms = length-map c.args.book.now.protocols.items g.P.ProtocolCalls.room in
    record {
      all = c.requires.may.protocols ∙ states;
      may = may_first v c.args.many c.in-Some.first c.take_list-list.new.tray c.take_list-list.result.0 c.take_list-list.result.1 c.take_list-list.result.2 c.requires.may c.take_list-list.ensures c.in-Some.ensures.below;
      rooms = λ k d low high. c.requires.rooms k d (omega (arith, high, c.requires.may.protocols, states, rooms));
    }

pub return_from-requires : goal.return_from-requires
return_from-requires g c =
    let v = view_of g.M.MiniportCalls.state g.P.ProtocolCalls.state g.F.FilterCalls.state c.args.book.now in
    let room = room_to_return v c.args.many c.take_list-list.new.tray c.take_list-list.result.0 c.take_list-list.result.1 c.take_list-list.result.2 c.requires.may c.take_list-list.ensures in
    record { room = room.0; slack = room.1 }

pub returns-in-Some : goal.returns-in-Some
returns-in-Some g c =
    let v = view_of g.M.MiniportCalls.state g.P.ProtocolCalls.state g.F.FilterCalls.state c.args.book.now in
    works_delivers v _ c.args.many c.in-Some.first c.take_list-list.new.tray c.take_list-list.result.0 c.take_list-list.result.1 c.take_list-list.result.2 c.requires.may c.take_list-list.ensures
    c.in-Some.ensures.taken c.deliver_each.ensures refl

pub returns-in-None : goal.returns-in-None
returns-in-None g c =
    let v = view_of g.M.MiniportCalls.state g.P.ProtocolCalls.state g.F.FilterCalls.state c.args.book.now in
    works_returns v _ c.args.many c.take_list-list.new.tray c.return_from.new.tray c.take_list-list.result.0 c.take_list-list.result.1 c.take_list-list.result.2 c.index_mut.result.now c.return_from.new.pool
    c.requires.may c.take_list-list.ensures c.in-None.ensures.none (place_is c.args.book.now.protocol_pools.items 0 no_pool c.index_mut.result.now (omega (arith, c.requires.may.some, c.requires.may.protocols, c.requires.may.pools)) c.index_mut.ensures.value) c.return_from.ensures.tray c.return_from.ensures.pool refl refl
