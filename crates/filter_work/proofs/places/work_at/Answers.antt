use Rattle.std.proofs.Common.{get_or-set_same}
use Rattle.book_lemmas.specs.Views.{no_pool}
use Rattle.filter_work.proofs.Parts.{pool_at_is, old_at, new_at, set_at, same_at, on_err}
use Rattle.filter_work.proofs.places.work_at.Goals as goal

pub returns-clause-filters : goal.returns-clause-filters
returns-clause-filters g c = set_at g.F.FilterCalls.state c.args.filters.now.items c.args.place c.work_first.new.filter c.requires.filters

pub returns-clause-works : goal.returns-clause-works
returns-clause-works g c =
    rw (
      old_at g.F.FilterCalls.state c.args.filters.now.items c.args.place c.index_mut.result.now c.requires.filters c.index_mut.ensures.value,
      new_at g.F.FilterCalls.state c.args.filters.now.items c.args.place c.work_first.new.filter c.requires.filters,
      pool_at_is c.args.pools.now.items c.args.place c.index_mut-2.result.now c.requires.pools c.index_mut-2.ensures.value,
      get_or-set_same c.args.pools.now.items c.args.place c.work_first.new.pool no_pool c.requires.pools,
    )
    c.work_first.ensures.works

pub returns-clause-same_filters : goal.returns-clause-same_filters
returns-clause-same_filters g c =
    on_err c.work_first.result _ _ (same_at g.F.FilterCalls.state c.args.filters.now.items c.args.place c.index_mut.result.now c.work_first.new.filter c.index_mut.ensures.value) c.work_first.ensures.filter
