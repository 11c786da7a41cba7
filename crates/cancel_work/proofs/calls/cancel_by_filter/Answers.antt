use Rattle.std.proofs.Common.{subst, ap, ◌∙◌, arith}
use Rattle.buffer_pools.specs.Views.{PoolView}
use Rattle.driver_tray.specs.Tray.{TrayView}
use Rattle.driver_calls.specs.Filters.{Cancels}
use Rattle.cancel_work.proofs.Fewer.{fewer}
use Rattle.cancel_work.proofs.calls.cancel_by_filter.Goals as goal

pub overflow_sub-result : goal.overflow_sub-result
overflow_sub-result g c = omega (arith, fewer _ _ _ _ _ (c.cancel.ensures.holds c.requires.hold), c.held-kept.ensures, c.held.ensures)

pub returns : goal.returns
returns g c =
    let less = fewer _ _ _ _ _ (c.cancel.ensures.holds c.requires.hold) in
    record {
      same = c.cancel.ensures.same;
      turns = record {
        left = c.cancel.new.tray;
        cancels = subst (λ (t : TrayView). Cancels (g.F.FilterCalls.state c.args.filter.now).kept c.args.id t (g.F.FilterCalls.state c.cancel.new.self).kept c.cancel.new.tray)
            (c.exchange_pool.ensures.tray ∙ ap (λ (t : TrayView). record t { pool = c.args.pool.now }) c.set_caller.ensures)
            (c.cancel.ensures.holds c.requires.hold);
        tray = c.exchange_pool-2.ensures.tray ∙ ap (λ (p : PoolView). record c.cancel.new.tray { pool = p }) (c.exchange_pool.ensures.pool ∙ ap (λ (t : TrayView). t.pool) c.set_caller.ensures);
        pool_is = c.exchange_pool-2.ensures.pool;
        count = omega (arith, less, c.held-kept.ensures, c.held.ensures);
      };
    }
