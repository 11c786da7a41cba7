use Rattle.std.proofs.Common.{◌≡◌, ◌+◌, ◌++◌, length, take}
use Rattle.std.specs.Prelude.{sum_by}
use Rattle.frame_arena.proofs.FrameArena.push_frames_reserved.Given as goal

abbrev pub invariant-loop-frame : goal.invariant-loop-frame
invariant-loop-frame l = record {
  done : l.self.frames ≡ l.fn.self.frames ++ take l.frame-index l.frames;
  frame_room : l.self.frame_room + l.frame-index ≡ l.fn.self.frame_room;
  byte_room : l.self.byte_room + sum_by length (take l.frame-index l.frames) ≡ l.fn.self.byte_room;
}
