use Rattle.std.proofs.Common.{refl}
use Rattle.journal_types.specs.declared.PassWay.TheVariants as way
use Rattle.journal_types.specs.declared.Target.TheVariants.{Bindings}
use Rattle.book_lemmas.specs.Views.{no_pool}
use Rattle.book_parts.specs.Parts.{view_of}
use Rattle.binding_work.proofs.Homing.{place_is}
use Rattle.binding_work.proofs.Upward.{first_begins, taken_up, gone_by}
use Rattle.binding_work.proofs.ups.turn_first.Goals as goal

pub take_list-list-requires : goal.take_list-list-requires
take_list-list-requires g c = first_begins _ way.Up Bindings c.requires.first

pub returns : goal.returns
returns g c =
    let v = view_of g.M.MiniportCalls.state g.P.ProtocolCalls.state g.F.FilterCalls.state c.args.book.now in
    gone_by v c.take_list-list.new.tray c.take_list-list.result.0 _ c.index_mut.result.now c.turn_from.new.pool c.turn_from.new.tray _
    (taken_up v c.take_list-list.new.tray c.take_list-list.result.0 c.take_list-list.result.1 c.take_list-list.result.2 c.requires.first c.take_list-list.ensures)
    (place_is c.args.book.now.protocol_pools.items 0 no_pool c.index_mut.result.now c.requires.there c.index_mut.ensures.value) c.turn_from.ensures.tray c.turn_from.ensures.pool refl refl
