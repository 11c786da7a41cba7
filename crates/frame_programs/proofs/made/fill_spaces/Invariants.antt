use Rattle.std.proofs.Common.{◌-◌, All, vec_len}
use Rattle.frame_programs.specs.Spaces.{HasRoom}
use Rattle.frame_programs.proofs.made.fill_spaces.Given as goal

abbrev pub invariant-loop-alloc : goal.invariant-loop-alloc
invariant-loop-alloc l = All HasRoom l.spaces.items

abbrev pub decreases-loop-alloc : goal.decreases-loop-alloc
decreases-loop-alloc l = 8 - vec_len l.spaces
