use Rattle.std.proofs.Common.{subst, ap, ◌∙◌}
use Rattle.journal_types.specs.declared.Handler.TheVariants as handler
use Rattle.promise_rules.specs.declared.Called.TheVariants as called
use Rattle.driver_tray.specs.Tray.{TrayView, given}
use Rattle.driver_calls.specs.Filters.{IsHandled}
use Rattle.filter_work.proofs.calls.raise_to.Goals as goal

pub returns : goal.returns
returns g c =
    subst (λ (t : TrayView). IsHandled called.Receive (g.F.FilterCalls.state c.args.filter.now) c.args.list t (g.F.FilterCalls.state c.receive.new.self) c.receive.new.tray)
    (c.give.ensures ∙ ap (λ n. given c.args.tray.now n handler.Receive) c.number.ensures) c.receive.ensures
