use Rattle.rewire_work.specs.Seated.{put_down}
use Rattle.rewire_work.proofs.Places.{took_at}
use Rattle.rewire_work.proofs.seats.detach_at.Goals as goal

pub returns : goal.returns
returns g c = took_at g.F.FilterCalls.state c.args.filters.now.items c.args.place c.index_mut.result.now c.detach_one.new.filter put_down c.requires.place c.index_mut.ensures.value c.detach_one.ensures
