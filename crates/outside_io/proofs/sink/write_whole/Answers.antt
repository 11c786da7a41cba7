use Rattle.std.proofs.Common.{arith, ℕ}
use Rattle.std.proofs.lemmas.List.{length-take, length-drop}
use Rattle.outside_io.proofs.Pieces.{wrote-more}
use Rattle.outside_io.proofs.sink.write_whole.Goals as goal

pub loop-from-preserved : goal.loop-from-preserved
loop-from-preserved g c = record {
  within = omega (arith, c.in_ok-from.ensures.bound, length-take {A = ℕ}, length-drop {A = ℕ}, c.loop-from.invariant.within);
  sofar = wrote-more _ _ _ _ _ _ c.loop-from.invariant.within c.loop-from.invariant.sofar c.in_ok-from.ensures.told;
  count = omega (arith, c.write.ensures.count, c.loop-from.invariant.count);
}
