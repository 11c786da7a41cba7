use Rattle.std.proofs.Common.{get_or-set_same}
use Rattle.book_lemmas.specs.Views.{no_pool, no_protocol}
use Rattle.binding_work.proofs.Homing.{old_at, place_is, new_at, set_at}
use Rattle.receive_work.proofs.returns.return_at.Goals as goal

pub returns-clause-protocols : goal.returns-clause-protocols
returns-clause-protocols g c = set_at g.P.ProtocolCalls.state c.args.protocols.now.items c.args.binding no_protocol c.return_from.new.protocol c.requires.protocols

pub returns-clause-returns : goal.returns-clause-returns
returns-clause-returns g c =
    rw (
      old_at g.P.ProtocolCalls.state c.args.protocols.now.items c.args.binding no_protocol c.index_mut.result.now c.requires.protocols c.index_mut.ensures.value,
      new_at g.P.ProtocolCalls.state c.args.protocols.now.items c.args.binding no_protocol c.return_from.new.protocol c.requires.protocols,
      place_is c.args.pools.now.items c.args.binding no_pool c.index_mut-2.result.now c.requires.pools c.index_mut-2.ensures.value,
      get_or-set_same c.args.pools.now.items c.args.binding c.return_from.new.pool no_pool c.requires.pools,
    )
    c.return_from.ensures
