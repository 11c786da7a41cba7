use Rattle.std.proofs.Common.{rules, ap}
use Rattle.turn_lock.specs.History.{ByStep}
use Rattle.turn_lock.specs.Orderly.{IsQuiet}
use Rattle.turn_lock.proofs.Keeps.{looks}
use Rattle.turn_lock.proofs.table.TurnLock.look.Goals as goal

pub load-found-requires : goal.load-found-requires
load-found-requires g c = let s = c.args.seat.now in (search rules, search rules, looks (ByStep g.O.Turned.fixed g.O.Turned.steps g.O.Turned.phase_of) g.O.Turned.phase_of _ _ _ _ _ s.live s.named (ap IsQuiet s.idle))
