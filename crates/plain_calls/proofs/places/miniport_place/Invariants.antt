use Rattle.std.proofs.Common.{◌≡◌, drop}
use Rattle.promise_rules.specs.Drivers.{miniport_from}
use Rattle.plain_calls.proofs.places.miniport_place.Given as goal

abbrev pub invariant-loop-place : goal.invariant-loop-place
invariant-loop-place l = miniport_from 0 l.kind l.kinds ≡ miniport_from l.place l.kind (drop l.place l.kinds)
