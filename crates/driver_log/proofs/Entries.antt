-- The entries of a log when frames are added.
use Rattle.std.proofs.Common.{◌≡◌, ℕ, List, [], ◌∷◌, ◌++◌, ◌+◌, ◌-◌, ◌*◌, ◌≤◌, length, map, All, ◌∙◌, refl, sym, subst, arith}
use Rattle.std.specs.Prelude.{sum_by}
use Rattle.std.proofs.lemmas.List.{map_push}
use Rattle.std.proofs.lemmas.List.Elements.{All-head, All-tail, All-weaker, All-push}
use Rattle.std.proofs.lemmas.List.Sums.{sum_by-cons}
use Rattle.buffer_pools.specs.Views.{Fits}
use Rattle.frame_arena.specs.declared.FrameSpan.{FrameSpan}
use Rattle.frame_arena.specs.Spans.{frames_at, SpanWithin}
use Rattle.frame_arena.proofs.Spans.{frames_at_grown, span_within_grown}
use Rattle.driver_log.specs.Log.{LogView}

-- frames of a list have at most so many bytes together
sum_short : (frames : List (List ℕ)) → All (λ f. length f ≤ 1518) frames → sum_by length frames ≤ 1518 * length frames
sum_short [] short = omega arith
sum_short (f ∷ fs) short =
    let cons : sum_by length (f ∷ fs) ≡ length f + sum_by length fs = sum_by-cons length f fs in
    let first : length f ≤ 1518 = All-head (λ (g : List ℕ). length g ≤ 1518) f fs short in
    let others : sum_by length fs ≤ 1518 * length fs = sum_short fs (All-tail (λ (g : List ℕ). length g ≤ 1518) f fs short) in
    omega (arith, cons, first, others)

pub fits_bytes : (frames : List (List ℕ)) → Fits frames 1518 → sum_by length frames ≤ 12144
fits_bytes frames fits = omega (arith, fits.few, sum_short frames fits.short)

-- the spans show the same
pub entries_kept : (frames more : List (List ℕ)) (spans : List FrameSpan) → All (SpanWithin frames) spans → map (frames_at (frames ++ more)) spans ≡ map (frames_at frames) spans
entries_kept frames more [] within = refl
entries_kept frames more (s ∷ spans) within =
    let first : frames_at (frames ++ more) s ≡ frames_at frames s = frames_at_grown frames more s (All-head (SpanWithin frames) s spans within) in
    let others : map (frames_at (frames ++ more)) spans ≡ map (frames_at frames) spans = entries_kept frames more spans (All-tail (SpanWithin frames) s spans within) in
    cc

pub within_kept : (frames more : List (List ℕ)) (spans : List FrameSpan) → All (SpanWithin frames) spans → All (SpanWithin (frames ++ more)) spans
within_kept frames more spans within = All-weaker (SpanWithin frames) (SpanWithin (frames ++ more)) (λ s w. span_within_grown frames more s w) spans within

-- one more entry
pub entries_added : (frames more all : List (List ℕ)) (spans : List FrameSpan) (span : FrameSpan) → All (SpanWithin frames) spans → all ≡ frames ++ more → frames_at all span ≡ more
    → map (frames_at all) (spans ++ span ∷ []) ≡ map (frames_at frames) spans ++ more ∷ []
entries_added frames more all spans span within e shown =
    let kept : map (frames_at all) spans ≡ map (frames_at frames) spans = rw e (entries_kept frames more spans within) in
    map_push (frames_at all) spans span ∙ cc

pub within_added : (frames more all : List (List ℕ)) (spans spans' : List FrameSpan) (span : FrameSpan) → All (SpanWithin frames) spans → all ≡ frames ++ more → SpanWithin all span → spans' ≡ spans ++ span ∷ []
    → All (SpanWithin all) spans'
within_added frames more all spans spans' span within e here now =
    let kept : All (SpanWithin all) spans = subst (λ (fs : List (List ℕ)). All (SpanWithin fs) spans) (sym e) (within_kept frames more spans within) in
    subst (All (SpanWithin all)) (sym now) (All-push (SpanWithin all) spans span kept here)

abbrev pub log_of : List (List (List ℕ)) → ℕ → LogView
log_of entries room = record { entries = entries; room = room }

-- a log with one more entry
abbrev pub log_more : List (List ℕ) → LogView → LogView
log_more more l = record { entries = l.entries ++ more ∷ []; room = l.room - 1 }
