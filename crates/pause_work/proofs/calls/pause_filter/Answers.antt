use Rattle.std.proofs.Common.{sym, ap, ◌∙◌}
use Rattle.pause_work.proofs.Places.{same_shown}
use Rattle.pause_work.proofs.calls.pause_filter.Goals as goal

pub returns : goal.returns
returns g c =
    same_shown g.F.FilterCalls.state c.args.filters.now c.args.place c.index-filters-place.result c.pause_one.new.filter c.index-filters-place.is
    (c.pause_one.ensures ∙ ap g.F.FilterCalls.state (sym c.index-filters-place.is))
