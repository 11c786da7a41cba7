use Rattle.filter_work.proofs.Parts.{old_at, new_at, set_at, same_at, on_err}
use Rattle.answer_work.proofs.finishes.work_at.Goals as goal

pub returns-clause-filters : goal.returns-clause-filters
returns-clause-filters g c = set_at g.F.FilterCalls.state c.args.filters.now.items c.args.place c.work_first.new.filter c.requires.filters

pub returns-clause-finishes : goal.returns-clause-finishes
returns-clause-finishes g c =
    rw (
      old_at g.F.FilterCalls.state c.args.filters.now.items c.args.place c.index_mut.result.now c.requires.filters c.index_mut.ensures.value,
      new_at g.F.FilterCalls.state c.args.filters.now.items c.args.place c.work_first.new.filter c.requires.filters,
    )
    c.work_first.ensures.finishes

pub returns-clause-same_filters : goal.returns-clause-same_filters
returns-clause-same_filters g c =
    on_err c.work_first.result _ _ (same_at g.F.FilterCalls.state c.args.filters.now.items c.args.place c.index_mut.result.now c.work_first.new.filter c.index_mut.ensures.value) c.work_first.ensures.filter
