use Rattle.std.proofs.Common.{◌≡◌, map}
use Rattle.pause_work.proofs.calls.pause_bindings.Given as goal

abbrev pub invariant-loop-place : goal.invariant-loop-place
invariant-loop-place g l = map g.P.ProtocolCalls.state l.protocols ≡ map g.P.ProtocolCalls.state l.initial.protocols
