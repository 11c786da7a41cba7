use Rattle.std.proofs.Common.{rules}
use Rattle.turn_lock.specs.History.{ByStep}
use Rattle.turn_lock.proofs.Keeps.{stores}
use Rattle.turn_lock.proofs.table.TurnLock.finish.Goals as goal

pub store-requires : goal.store-requires
store-requires g c = (search rules, search rules, stores (ByStep g.O.Turned.fixed g.O.Turned.steps g.O.Turned.phase_of) g.O.Turned.phase_of _ _ _ _ _ c.args.front _ c.requires.live.0 c.requires.live.1 c.requires.ready)
