use Rattle.std.proofs.Common.{ap, sym, ◌∙◌, get_or-set_same}
use Rattle.buffer_pools.specs.Views.{PoolView}
use Rattle.book_lemmas.specs.Views.{no_pool, no_protocol}
use Rattle.binding_work.proofs.Homing.{old_at, place_is, new_at, set_at}
use Rattle.binding_work.proofs.Owned.{on_err, same_at}
use Rattle.binding_work.proofs.owns.own_at.Goals as goal

pub own_first-requires-clause-pool : goal.own_first-requires-clause-pool
own_first-requires-clause-pool g c = ap (λ (p : PoolView). p.bytes) (sym (place_is c.args.pools.now.items c.args.binding no_pool c.index_mut-2.result.now c.requires.pools c.index_mut-2.ensures.value)) ∙ c.requires.pool

pub returns-clause-protocols : goal.returns-clause-protocols
returns-clause-protocols g c = set_at g.P.ProtocolCalls.state c.args.protocols.now.items c.args.binding no_protocol c.own_first.new.protocol c.requires.protocols

pub returns-clause-owns : goal.returns-clause-owns
returns-clause-owns g c =
    rw (
      old_at g.P.ProtocolCalls.state c.args.protocols.now.items c.args.binding no_protocol c.index_mut.result.now c.requires.protocols c.index_mut.ensures.value,
      new_at g.P.ProtocolCalls.state c.args.protocols.now.items c.args.binding no_protocol c.own_first.new.protocol c.requires.protocols,
      place_is c.args.pools.now.items c.args.binding no_pool c.index_mut-2.result.now c.requires.pools c.index_mut-2.ensures.value,
      get_or-set_same c.args.pools.now.items c.args.binding c.own_first.new.pool no_pool c.requires.pools,
    )
    c.own_first.ensures.owns

pub returns-clause-same_protocols : goal.returns-clause-same_protocols
returns-clause-same_protocols g c = on_err c.own_first.result _ _ (same_at g.P.ProtocolCalls.state c.args.protocols.now.items c.args.binding c.index_mut.result.now c.own_first.new.protocol c.index_mut.ensures.value) c.own_first.ensures.protocol
