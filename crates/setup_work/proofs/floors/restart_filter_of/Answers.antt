use Rattle.setup_work.proofs.Protocols.{unseen_at}
use Rattle.setup_work.proofs.floors.restart_filter_of.Goals as goal

pub returns : goal.returns
returns g c = unseen_at g.F.FilterCalls.state _ c.in-Some.place _ _ c.index_mut.ensures.value c.restart_filter.ensures
