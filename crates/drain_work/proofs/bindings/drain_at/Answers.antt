use Rattle.std.proofs.Common.{get_or-set_same}
use Rattle.book_lemmas.specs.Views.{no_pool, no_protocol}
use Rattle.drain_work.proofs.Returned.{ticked_at}
use Rattle.drain_work.proofs.Places.{old_at, new_at, place_is, set_at, same_at, on_err}
use Rattle.drain_work.proofs.bindings.drain_at.Goals as goal

pub returns-clause-protocols : goal.returns-clause-protocols
returns-clause-protocols g c = set_at g.P.ProtocolCalls.state c.args.protocols.now.items c.args.binding no_protocol c.drain_protocol.new.protocol c.requires.protocols

pub returns-clause-ticks : goal.returns-clause-ticks
returns-clause-ticks g c =
    ticked_at c.drain_protocol.result c.args.binding _ _ _ _ c.args.tray.now _ _ c.drain_protocol.new.tray _ _
    (old_at g.P.ProtocolCalls.state c.args.protocols.now.items c.args.binding no_protocol c.index_mut.result.now c.requires.protocols c.index_mut.ensures.value)
    (new_at g.P.ProtocolCalls.state c.args.protocols.now.items c.args.binding no_protocol c.drain_protocol.new.protocol c.requires.protocols)
    (place_is c.args.pools.now.items c.args.binding no_pool c.index_mut-2.result.now c.requires.pools c.index_mut-2.ensures.value)
    (get_or-set_same c.args.pools.now.items c.args.binding c.drain_protocol.new.pool no_pool c.requires.pools)
    c.drain_protocol.ensures.ticks

pub returns-clause-same_protocols : goal.returns-clause-same_protocols
returns-clause-same_protocols g c =
    on_err c.drain_protocol.result _ _ (same_at g.P.ProtocolCalls.state c.args.protocols.now.items c.args.binding c.index_mut.result.now c.drain_protocol.new.protocol c.index_mut.ensures.value) c.drain_protocol.ensures.protocol
