use Rattle.work_laws.proofs.InPlace.{all_in_place}
use Rattle.drain_laws.proofs.Idle.{idle_is_empty, idle_where_done}
use Rattle.drain_laws.proofs.idle_drains_are_done.Goals as goal

pub returns : goal.returns
returns c = record { empty = idle_is_empty all_in_place; done = idle_where_done all_in_place }
