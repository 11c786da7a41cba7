use Rattle.std.proofs.Common.{rules}
use Rattle.turn_lock.specs.History.{ByStep}
use Rattle.turn_lock.proofs.Keeps.{draws}
use Rattle.turn_lock.proofs.table.TurnLock.draw.Goals as goal

pub fetch_add-requires : goal.fetch_add-requires
fetch_add-requires g c = (search rules, search rules, draws (ByStep g.O.Turned.fixed g.O.Turned.steps g.O.Turned.phase_of) g.O.Turned.phase_of _ _ _ _ _ c.requires.live.0 c.requires.idle.0 c.requires.idle.1)
