use Rattle.delivery_work.proofs.Placed.{owns_at, may_own_at, room_at}
use Rattle.delivery_work.proofs.lending.own_at.Goals as goal

pub own_to-requires-clause-may : goal.own_to-requires-clause-may
own_to-requires-clause-may g c =
    may_own_at g.P.ProtocolCalls.state c.args.protocols.now.items c.args.binding c.index_mut.result.now c.args.pools.now.items c.index_mut-2.result.now c.args.list c.args.tray.now
    c.requires.protocols c.index_mut.ensures.value c.requires.pools c.index_mut-2.ensures.value c.requires.may

pub own_to-requires-clause-room : goal.own_to-requires-clause-room
own_to-requires-clause-room g c = room_at g.P.ProtocolCalls.room c.args.protocols.now.items c.args.binding c.index_mut.result.now c.requires.protocols c.index_mut.ensures.value c.requires.room

pub returns : goal.returns
returns g c =
    owns_at g.P.ProtocolCalls.state c.args.protocols.now.items c.args.binding c.index_mut.result.now c.own_to.new.protocol c.args.pools.now.items c.index_mut-2.result.now c.own_to.new.pool c.args.list c.args.tray.now c.own_to.new.tray
    c.requires.protocols c.index_mut.ensures.value c.requires.pools c.index_mut-2.ensures.value c.own_to.ensures
