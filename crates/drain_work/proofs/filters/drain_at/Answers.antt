use Rattle.std.proofs.Common.{get_or-set_same}
use Rattle.book_lemmas.specs.Views.{no_filter, no_pool}
use Rattle.drain_work.proofs.Passed.{ticked_at}
use Rattle.drain_work.proofs.Places.{old_at, new_at, place_is, set_at, same_at, on_err}
use Rattle.drain_work.proofs.filters.drain_at.Goals as goal

pub returns-clause-filters : goal.returns-clause-filters
returns-clause-filters g c = set_at g.F.FilterCalls.state c.args.filters.now.items c.args.place no_filter c.drain_one.new.filter c.requires.filters

pub returns-clause-ticks : goal.returns-clause-ticks
returns-clause-ticks g c =
    ticked_at c.drain_one.result c.args.f _ _ _ _ c.args.tray.now _ _ c.drain_one.new.tray _ _
    (old_at g.F.FilterCalls.state c.args.filters.now.items c.args.place no_filter c.index_mut.result.now c.requires.filters c.index_mut.ensures.value)
    (new_at g.F.FilterCalls.state c.args.filters.now.items c.args.place no_filter c.drain_one.new.filter c.requires.filters)
    (place_is c.args.pools.now.items c.args.place no_pool c.index_mut-2.result.now c.requires.pools c.index_mut-2.ensures.value)
    (get_or-set_same c.args.pools.now.items c.args.place c.drain_one.new.pool no_pool c.requires.pools)
    c.drain_one.ensures.ticks

pub returns-clause-same_filters : goal.returns-clause-same_filters
returns-clause-same_filters g c =
    on_err c.drain_one.result _ _ (same_at g.F.FilterCalls.state c.args.filters.now.items c.args.place c.index_mut.result.now c.drain_one.new.filter c.index_mut.ensures.value) c.drain_one.ensures.filter
