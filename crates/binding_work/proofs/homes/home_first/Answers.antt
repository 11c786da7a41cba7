use Rattle.std.proofs.Common.{◌<◌, subst, refl}
use Rattle.std.proofs.lemmas.List.{length-map}
use Rattle.book_parts.specs.Parts.{view_of}
use Rattle.binding_work.proofs.Homing.{begins_with, done_there, taken_done, may_come_home, has_come_home}
use Rattle.binding_work.proofs.homes.home_first.Goals as goal

pub take_list-list-requires : goal.take_list-list-requires
take_list-list-requires g c = begins_with _ c.args.binding c.requires.first

pub status_of-status-requires : goal.status_of-status-requires
status_of-status-requires g c =
    let v = view_of g.M.MiniportCalls.state g.P.ProtocolCalls.state g.F.FilterCalls.state c.args.book.now in
    let t = taken_done v c.take_list-list.new.tray c.args.binding c.take_list-list.result.0 c.take_list-list.result.1 c.take_list-list.result.2 c.requires.first c.take_list-list.ensures in
    record { status = t.status; is = t.way_is }

pub home_at-requires-clause-protocols : goal.home_at-requires-clause-protocols
home_at-requires-clause-protocols g c =
    let v = view_of g.M.MiniportCalls.state g.P.ProtocolCalls.state g.F.FilterCalls.state c.args.book.now in
    subst (λ n. c.args.binding < n) (length-map c.args.book.now.protocols.items g.P.ProtocolCalls.state) (done_there v c.args.binding c.requires.book c.requires.idle c.requires.first).protocols

pub home_at-requires-clause-pools : goal.home_at-requires-clause-pools
home_at-requires-clause-pools g c =
    let v = view_of g.M.MiniportCalls.state g.P.ProtocolCalls.state g.F.FilterCalls.state c.args.book.now in
    (done_there v c.args.binding c.requires.book c.requires.idle c.requires.first).pools

pub home_at-requires-clause-may : goal.home_at-requires-clause-may
home_at-requires-clause-may g c =
    let v = view_of g.M.MiniportCalls.state g.P.ProtocolCalls.state g.F.FilterCalls.state c.args.book.now in
    may_come_home v c.take_list-list.new.tray c.args.binding c.take_list-list.result.0 c.take_list-list.result.1 c.take_list-list.result.2 c.status_of-status.result c.requires.book c.requires.idle c.requires.first
    c.take_list-list.ensures c.status_of-status.ensures c.requires.room c.requires.count

pub returns : goal.returns
returns g c =
    let v = view_of g.M.MiniportCalls.state g.P.ProtocolCalls.state g.F.FilterCalls.state c.args.book.now in
    has_come_home v c.take_list-list.new.tray _ c.args.binding c.take_list-list.result.0 c.take_list-list.result.1 c.take_list-list.result.2 c.status_of-status.result c.requires.first
    c.take_list-list.ensures c.status_of-status.ensures c.home_at.ensures.home c.home_at.ensures.protocols c.home_at.ensures.pools refl
