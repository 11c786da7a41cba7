-- A span shows the same frames when frames are added.
use Rattle.std.proofs.Common.{◌≡◌, ℕ, List, ◌++◌, ◌+◌, ◌≤◌, length, take, ◌∙◌, ap, refl, arith}
use Rattle.std.proofs.lemmas.List.{length-append}
use Rattle.frame_arena.specs.declared.FrameSpan.{FrameSpan}
use Rattle.frame_arena.specs.Spans.{frames_at, SpanWithin}
use Rattle.frame_arena.proofs.Ranges.{part_grown, part_added}

pub span_within_grown : (frames more : List (List ℕ)) (span : FrameSpan) → SpanWithin frames span → SpanWithin (frames ++ more) span
span_within_grown frames more span within = omega (arith, length-append frames more)

pub frames_at_grown : (frames more : List (List ℕ)) (span : FrameSpan) → SpanWithin frames span → frames_at (frames ++ more) span ≡ frames_at frames span
frames_at_grown frames more span within = part_grown frames more span.first span.count within

-- the span of what was added last
pub frames_at_added : (frames more : List (List ℕ)) → frames_at (frames ++ more) (record { first = length frames; count = length more }) ≡ more
frames_at_added frames more = part_added frames more
