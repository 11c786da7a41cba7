use Rattle.std.proofs.Common.{subst, ap, ◌∙◌}
use Rattle.journal_types.specs.declared.Handler.TheVariants as handler
use Rattle.promise_rules.specs.declared.Called.TheVariants as called
use Rattle.buffer_pools.specs.Views.{PoolView}
use Rattle.driver_tray.specs.Tray.{TrayView}
use Rattle.filter_work.specs.Works.{GoesHome}
use Rattle.filter_work.proofs.calls.back_to.Goals as goal

pub returns : goal.returns
returns g c = record {
  left = c.back_at.new.tray;
  takes = subst (λ (t : TrayView). GoesHome called.Returned handler.Returned (g.F.FilterCalls.state c.args.filter.now) c.args.list c.args.status t (g.F.FilterCalls.state c.back_at.new.filter) c.back_at.new.tray)
      (c.exchange_pool.ensures.tray ∙ ap (λ (t : TrayView). record t { pool = c.args.pool.now }) c.set_caller.ensures)
      c.back_at.ensures;
  tray = c.exchange_pool-2.ensures.tray ∙ ap (λ (p : PoolView). record c.back_at.new.tray { pool = p }) (c.exchange_pool.ensures.pool ∙ ap (λ (t : TrayView). t.pool) c.set_caller.ensures);
  pool_is = c.exchange_pool-2.ensures.pool;
}
