use Rattle.std.proofs.Common.{is_some, subst, ap, ◌∙◌}
use Rattle.buffer_pools.specs.Views.{PoolView}
use Rattle.driver_tray.specs.Tray.{TrayView, first_way}
use Rattle.driver_calls.specs.Filters.{IsDrained}
use Rattle.drain_work.proofs.calls.tick_filter.Goals as goal

pub returns : goal.returns
returns g c = record {
  left = c.tick.new.tray;
  does = subst (λ (t : TrayView). IsDrained (g.F.FilterCalls.state c.args.filter.now) t (g.F.FilterCalls.state c.tick.new.self) c.tick.new.tray)
      (c.exchange_pool.ensures.tray ∙ ap (λ (t : TrayView). record t { pool = c.args.pool.now }) c.set_caller.ensures)
      c.tick.ensures;
  tray = c.exchange_pool-2.ensures.tray ∙ ap (λ (p : PoolView). record c.tick.new.tray { pool = p }) (c.exchange_pool.ensures.pool ∙ ap (λ (t : TrayView). t.pool) c.set_caller.ensures);
  pool_is = c.exchange_pool-2.ensures.pool;
  moved_is = c.is_some.ensures ∙ ap (λ o. is_some o) c.first.ensures ∙ ap (λ (t : TrayView). is_some (first_way t.queue)) c.exchange_pool-2.ensures.tray;
}
