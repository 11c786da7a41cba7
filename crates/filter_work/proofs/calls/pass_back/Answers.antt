use Rattle.std.proofs.Common.{subst, ap, ◌∙◌}
use Rattle.journal_types.specs.declared.Handler.TheVariants as handler
use Rattle.promise_rules.specs.declared.Called.TheVariants as called
use Rattle.driver_tray.specs.Tray.{TrayView, given}
use Rattle.driver_calls.specs.Filters.{IsCompleted}
use Rattle.filter_work.proofs.calls.pass_back.Goals as goal

pub returns : goal.returns
returns g c =
    subst (λ (t : TrayView). IsCompleted called.Returned (g.F.FilterCalls.state c.args.filter.now) c.args.list c.args.status t (g.F.FilterCalls.state c.returned.new.self) c.returned.new.tray)
    (c.give.ensures ∙ ap (λ n. given c.args.tray.now n handler.Returned) c.number.ensures) c.returned.ensures
