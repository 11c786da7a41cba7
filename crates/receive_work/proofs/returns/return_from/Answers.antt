use Rattle.std.proofs.Common.{subst, ap, ◌∙◌}
use Rattle.buffer_pools.specs.Views.{PoolView}
use Rattle.driver_tray.specs.Tray.{TrayView}
use Rattle.driver_calls.specs.Protocols.{IsGivenBack}
use Rattle.receive_work.proofs.returns.return_from.Goals as goal

pub returns : goal.returns
returns g c = record {
  mid = c.give_back-kept.new.tray;
  gives = subst (λ (t : TrayView). IsGivenBack (g.P.ProtocolCalls.state c.args.protocol.now) c.args.list.0 t c.give_back-kept.result (g.P.ProtocolCalls.state c.give_back-kept.new.self) c.give_back-kept.new.tray)
      (c.exchange_pool.ensures.tray ∙ ap (λ (t : TrayView). record t { pool = c.args.pool.now }) c.set_caller.ensures)
      c.give_back-kept.ensures;
  tray = c.exchange_pool-2.ensures.tray ∙ ap (λ (p : PoolView). record c.give_back-kept.new.tray { pool = p }) (c.exchange_pool.ensures.pool ∙ ap (λ (t : TrayView). t.pool) c.set_caller.ensures);
  pool_is = c.exchange_pool-2.ensures.pool;
}
