use Rattle.driver_calls.specs.declared.faults.AttachFault.TheVariants.{Memory}
use Rattle.rewire_work.proofs.Places.{old_at, new_at, set_at, same_at, on_fault}
use Rattle.rewire_work.proofs.seats.attach_at.Goals as goal

pub returns-clause-filters : goal.returns-clause-filters
returns-clause-filters g c = set_at g.F.FilterCalls.state c.args.filters.now.items c.args.place c.attach_one.new.filter c.requires.place

pub returns-clause-attached : goal.returns-clause-attached
returns-clause-attached g c =
    rw (
      old_at g.F.FilterCalls.state c.args.filters.now.items c.args.place c.index_mut.result.now c.requires.place c.index_mut.ensures.value,
      new_at g.F.FilterCalls.state c.args.filters.now.items c.args.place c.attach_one.new.filter c.requires.place,
    )
    c.attach_one.ensures.attached

pub returns-clause-refused : goal.returns-clause-refused
returns-clause-refused g c =
    rw (
      old_at g.F.FilterCalls.state c.args.filters.now.items c.args.place c.index_mut.result.now c.requires.place c.index_mut.ensures.value,
      new_at g.F.FilterCalls.state c.args.filters.now.items c.args.place c.attach_one.new.filter c.requires.place,
    )
    c.attach_one.ensures.refused

pub returns-clause-memory : goal.returns-clause-memory
returns-clause-memory g c =
    on_fault c.attach_one.result Memory _ _ (same_at g.F.FilterCalls.state c.args.filters.now.items c.args.place c.index_mut.result.now c.attach_one.new.filter c.index_mut.ensures.value) c.attach_one.ensures.memory
