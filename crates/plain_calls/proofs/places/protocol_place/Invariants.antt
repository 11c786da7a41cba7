use Rattle.std.proofs.Common.{◌≡◌, drop}
use Rattle.promise_rules.specs.Drivers.{protocol_from}
use Rattle.plain_calls.proofs.places.protocol_place.Given as goal

abbrev pub invariant-loop-place : goal.invariant-loop-place
invariant-loop-place l = protocol_from 0 l.used l.kind l.kinds ≡ protocol_from l.place l.used l.kind (drop l.place l.kinds)
