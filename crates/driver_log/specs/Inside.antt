-- A log from the inside.
use Rattle.std.specs.Prelude.{◌+◌, ◌*◌, ◌≤◌, map, All}
use Rattle.std.specs.Vec.{vec_len, vec_capacity}
use Rattle.frame_arena.specs.Spans.{frames_at, SpanWithin}
use Rattle.driver_log.specs.Log.{LogView}
use Rattle.driver_log.specs.declared.DriverLog.TheInside.{Inside}

-- the entries are what the spans show
abbrev pub log_view : Inside → LogView
log_view l = record { entries = map (frames_at l.frames.frames) l.spans.items; room = l.room }

-- the spans' frames are there, and there is room for so many more lists of 8 frames of 1518 bytes
pub record IsLog (l : Inside) : Type 0 where
  pub within : All (SpanWithin l.frames.frames) l.spans.items
  pub span_room : vec_len l.spans + l.room ≤ vec_capacity l.spans
  pub frame_room : 8 * l.room ≤ l.frames.frame_room
  pub byte_room : 12144 * l.room ≤ l.frames.byte_room
