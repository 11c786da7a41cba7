use Rattle.binding_work.proofs.Homing.{set_at}
use Rattle.delivery_work.proofs.Placed.{lends_at, may_lend_at, room_at}
use Rattle.lend_work.proofs.bindings.lend_at.Goals as goal

pub lend_to-requires-clause-may : goal.lend_to-requires-clause-may
lend_to-requires-clause-may g c =
    may_lend_at g.P.ProtocolCalls.state c.args.protocols.now.items c.args.binding c.index_mut.result.now c.args.pools.now.items c.index_mut-2.result.now c.args.list.now c.args.tray.now
    c.requires.protocols c.index_mut.ensures.value c.requires.pools c.index_mut-2.ensures.value c.requires.may

pub lend_to-requires-clause-room : goal.lend_to-requires-clause-room
lend_to-requires-clause-room g c = room_at g.P.ProtocolCalls.room c.args.protocols.now.items c.args.binding c.index_mut.result.now c.requires.protocols c.index_mut.ensures.value c.requires.room

pub returns-clause-lends : goal.returns-clause-lends
returns-clause-lends g c =
    lends_at g.P.ProtocolCalls.state c.args.protocols.now.items c.args.binding c.index_mut.result.now c.lend_to.new.protocol c.args.pools.now.items c.index_mut-2.result.now c.lend_to.new.pool c.args.list.now c.args.tray.now c.lend_to.new.tray
    c.requires.protocols c.index_mut.ensures.value c.requires.pools c.index_mut-2.ensures.value c.lend_to.ensures

pub returns-clause-rooms : goal.returns-clause-rooms
returns-clause-rooms g c = set_at g.P.ProtocolCalls.room c.args.protocols.now.items c.args.binding 0 c.lend_to.new.protocol c.requires.protocols
