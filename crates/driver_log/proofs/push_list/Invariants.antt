use Rattle.std.proofs.Common.{◌≡◌, ◌+◌, ◌++◌, length, take}
use Rattle.std.specs.Prelude.{sum_by}
use Rattle.driver_log.proofs.push_list.Given as goal

abbrev pub invariant-loop-i : goal.invariant-loop-i
invariant-loop-i l = record {
  frames : l.frames.frames ≡ l.fn.frames.frames ++ take l.i l.list.frames;
  frame_room : l.frames.frame_room + l.i ≡ l.fn.frames.frame_room;
  byte_room : l.frames.byte_room + sum_by length (take l.i l.list.frames) ≡ l.fn.frames.byte_room;
}
