use Rattle.std.proofs.Common.{◌≡◌, ◌+◌, ◌-◌, ◌++◌, All, vec_len, vec_capacity}
use Rattle.frame_programs.specs.Spaces.{HasRoom, written}
use Rattle.frame_programs.proofs.wrapping.wrap.Given as goal

abbrev pub invariant-loop-spaces : goal.invariant-loop-spaces
invariant-loop-spaces l = record {
  made : l.made.items ++ written l.spaces.items (l.many - vec_len l.made) ≡ written l.fn.spaces.items l.many;
  spaces : vec_len l.spaces + vec_len l.made ≡ vec_len l.fn.spaces;
  room : All HasRoom l.spaces.items;
  places : vec_capacity l.made ≡ vec_capacity l.fn.made;
}

abbrev pub decreases-loop-spaces : goal.decreases-loop-spaces
decreases-loop-spaces l = l.many - vec_len l.made
