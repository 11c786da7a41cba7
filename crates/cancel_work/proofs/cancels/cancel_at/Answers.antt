use Rattle.std.proofs.Common.{◌≡◌, true, slice_set, sym, ap, subst, get_or-set_same}
use Rattle.stack_rules.specs.Tests.{is_hold}
use Rattle.driver_views.specs.States.{FilterState}
use Rattle.driver_calls.specs.Filters.{MayGiveAll}
use Rattle.book_lemmas.specs.Views.{no_filter, no_pool}
use Rattle.drain_work.proofs.Places.{old_at, new_at, place_is, set_at}
use Rattle.cancel_work.proofs.Filters.{turns_at}
use Rattle.cancel_work.proofs.cancels.cancel_at.Goals as goal

pub cancel_by_filter-requires-clause-may : goal.cancel_by_filter-requires-clause-may
cancel_by_filter-requires-clause-may g c =
    subst (λ (s : FilterState). MayGiveAll s c.args.tray.now) (old_at g.F.FilterCalls.state c.args.filters.now.items c.args.place no_filter c.index_mut.result.now c.requires.filters c.index_mut.ensures.value) c.requires.may

pub cancel_by_filter-requires-clause-hold : goal.cancel_by_filter-requires-clause-hold
cancel_by_filter-requires-clause-hold g c =
    subst (λ (s : FilterState). is_hold s.kind ≡ true) (old_at g.F.FilterCalls.state c.args.filters.now.items c.args.place no_filter c.index_mut.result.now c.requires.filters c.index_mut.ensures.value) c.requires.hold

pub returns-clause-filters : goal.returns-clause-filters
returns-clause-filters g c = set_at g.F.FilterCalls.state c.args.filters.now.items c.args.place no_filter c.cancel_by_filter.new.filter c.requires.filters

pub returns-clause-pools : goal.returns-clause-pools
returns-clause-pools g c = ap (slice_set c.args.pools.now.items c.args.place) (sym (get_or-set_same c.args.pools.now.items c.args.place c.cancel_by_filter.new.pool no_pool c.requires.pools))

pub returns-clause-turns : goal.returns-clause-turns
returns-clause-turns g c =
    turns_at c.args.f c.args.id c.cancel_by_filter.result _ _ _ _ c.args.tray.now _ _ c.cancel_by_filter.new.tray _ _
    (old_at g.F.FilterCalls.state c.args.filters.now.items c.args.place no_filter c.index_mut.result.now c.requires.filters c.index_mut.ensures.value)
    (new_at g.F.FilterCalls.state c.args.filters.now.items c.args.place no_filter c.cancel_by_filter.new.filter c.requires.filters)
    (place_is c.args.pools.now.items c.args.place no_pool c.index_mut-2.result.now c.requires.pools c.index_mut-2.ensures.value)
    (get_or-set_same c.args.pools.now.items c.args.place c.cancel_by_filter.new.pool no_pool c.requires.pools)
    c.cancel_by_filter.ensures
