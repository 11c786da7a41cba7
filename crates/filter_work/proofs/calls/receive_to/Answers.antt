use Rattle.std.proofs.Common.{subst, ap, ◌∙◌}
use Rattle.buffer_pools.specs.Views.{PoolView}
use Rattle.driver_tray.specs.Tray.{TrayView}
use Rattle.filter_work.specs.Works.{Climbs}
use Rattle.filter_work.proofs.calls.receive_to.Goals as goal

pub returns : goal.returns
returns g c = record {
  left = c.climb_to.new.tray;
  takes = subst (λ (t : TrayView). Climbs (g.F.FilterCalls.state c.args.filter.now) c.args.list t (g.F.FilterCalls.state c.climb_to.new.filter) c.climb_to.new.tray)
      (c.exchange_pool.ensures.tray ∙ ap (λ (t : TrayView). record t { pool = c.args.pool.now }) c.set_caller.ensures)
      c.climb_to.ensures;
  tray = c.exchange_pool-2.ensures.tray ∙ ap (λ (p : PoolView). record c.climb_to.new.tray { pool = p }) (c.exchange_pool.ensures.pool ∙ ap (λ (t : TrayView). t.pool) c.set_caller.ensures);
  pool_is = c.exchange_pool-2.ensures.pool;
}
