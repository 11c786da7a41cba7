use Rattle.std.proofs.Common.{IsSome, subst}
use Rattle.driver_views.specs.States.{FilterState}
use Rattle.filter_work.proofs.Parts.{old_at, new_at, set_at, same_at, on_err}
use Rattle.request_work.proofs.forwards.forward_at.Goals as goal

pub forward_first-requires : goal.forward_first-requires
forward_first-requires g c =
    subst (λ (s : FilterState). IsSome s.setup) (old_at g.F.FilterCalls.state c.args.filters.now.items c.args.place c.index_mut.result.now c.requires.filters c.index_mut.ensures.value) c.requires.setup

pub returns-clause-filters : goal.returns-clause-filters
returns-clause-filters g c = set_at g.F.FilterCalls.state c.args.filters.now.items c.args.place c.forward_first.new.filter c.requires.filters

pub returns-clause-forwards : goal.returns-clause-forwards
returns-clause-forwards g c =
    rw (
      old_at g.F.FilterCalls.state c.args.filters.now.items c.args.place c.index_mut.result.now c.requires.filters c.index_mut.ensures.value,
      new_at g.F.FilterCalls.state c.args.filters.now.items c.args.place c.forward_first.new.filter c.requires.filters,
    )
    c.forward_first.ensures.forwards

pub returns-clause-same_filters : goal.returns-clause-same_filters
returns-clause-same_filters g c =
    on_err c.forward_first.result _ _ (same_at g.F.FilterCalls.state c.args.filters.now.items c.args.place c.index_mut.result.now c.forward_first.new.filter c.index_mut.ensures.value) c.forward_first.ensures.filter
