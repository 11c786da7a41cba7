use Rattle.run_laws.proofs.Crossing.{done_is_back, keeps_none_in, none_crossed_where_done}
use Rattle.run_laws.proofs.taken_lists_come_back.Goals as goal

pub returns : goal.returns
returns c = record { kept = keeps_none_in; done = done_is_back; journal = none_crossed_where_done }
