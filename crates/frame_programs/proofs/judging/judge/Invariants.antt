use Rattle.std.proofs.Common.{◌≡◌, take, All, vec_len}
use Rattle.program_types.specs.Apply.{applied}
use Rattle.frame_programs.specs.Judged.{Judges}
use Rattle.frame_programs.specs.Spaces.{HasRoom, written}
use Rattle.frame_programs.proofs.judging.judge.Given as goal

abbrev pub invariant-loop-i : goal.invariant-loop-i
invariant-loop-i l = record {
  judged : Judges l.verdict (applied 1518 l.program (take l.i l.list.frames)) (take l.i l.list.frames) (written l.spaces.items l.i);
  room : All HasRoom l.spaces.items;
  count : vec_len l.spaces ≡ vec_len l.fn.spaces;
}
