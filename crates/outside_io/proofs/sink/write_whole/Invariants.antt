use Rattle.std.proofs.Common.{length, take, ◌-◌, ◌≡◌, ◌≤◌}
use Rattle.outside_io.specs.Edges.{after}
use Rattle.outside_io.proofs.sink.write_whole.Given as goal

abbrev pub decreases-loop-from : goal.decreases-loop-from
decreases-loop-from g l = length l.piece - l.from

abbrev pub invariant-loop-from : goal.invariant-loop-from
invariant-loop-from g l = record {
  within : l.from ≤ length l.piece;
  sofar : g.K.Sink.holds l.sink ≡ after (g.K.Sink.holds l.initial.sink) (take l.from l.piece);
  count : g.K.Sink.faults l.initial.sink ≤ g.K.Sink.faults l.sink;
}
