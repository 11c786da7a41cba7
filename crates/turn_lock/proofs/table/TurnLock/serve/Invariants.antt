use Rattle.std.proofs.Common.{Some}
use Rattle.turn_lock.specs.History.{entry}
use Rattle.turn_lock.proofs.table.TurnLock.serve.Given as goal

-- the seat's entry: the call that was made, its answer, and the phase after it
abbrev pub ghosts-finish : goal.ghosts-finish
ghosts-finish g a = record { entry = Some (entry a.seat.now.me.0.number a._said.now.value a._answered.now.value a._phase) }
