-- Frames that stand beside each other.
use Rattle.std.specs.Prelude.{ℕ, ◌+◌, ◌≤◌, List, length, take, drop}
use Rattle.frame_arena.specs.declared.FrameSpan.{FrameSpan}

-- the frames of a span
abbrev pub frames_at : List (List ℕ) → FrameSpan → List (List ℕ)
frames_at frames span = take span.count (drop span.first frames)

-- the frames of the span are there
abbrev pub SpanWithin : List (List ℕ) → FrameSpan → Type 0
SpanWithin frames span = span.first + span.count ≤ length frames
