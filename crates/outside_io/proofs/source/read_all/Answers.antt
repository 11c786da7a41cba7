use Rattle.std.proofs.Common.{take, ◌++◌}
use Rattle.outside_io.proofs.Pieces.{before-more}
use Rattle.outside_io.proofs.source.read_all.Goals as goal

pub returns-in-Err-extend_from_slice-clause-taken :
    goal.returns-in-Err-extend_from_slice-clause-taken
returns-in-Err-extend_from_slice-clause-taken g c = record {
  read = c.loop-chunk.bytes.items ++ take c.in-Ok.n c.read.new.out;
  is = before-more _ _ _ _ _ c.loop-chunk.invariant.all c.in-Ok.ensures.told;
}
