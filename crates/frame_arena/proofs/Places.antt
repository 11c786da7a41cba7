-- The frames of an arena when bytes are added.
use Rattle.std.proofs.Common.{◌≡◌, ℕ, List, [], ◌∷◌, ◌++◌, ◌+◌, length, map, All, ◌∙◌, refl}
use Rattle.std.proofs.lemmas.List.{map_push}
use Rattle.std.proofs.lemmas.List.Elements.{All-head, All-tail}
use Rattle.frame_arena.proofs.Ranges.{slice_range_grown, slice_range_added}
use Rattle.frame_arena.specs.declared.FramePlace.{FramePlace}
use Rattle.frame_arena.specs.Places.{bytes_at, PlaceWithin}

pub frames_kept : (bytes more : List ℕ) (places : List FramePlace) → All (PlaceWithin bytes) places → map (bytes_at (bytes ++ more)) places ≡ map (bytes_at bytes) places
frames_kept bytes more [] within = refl
frames_kept bytes more (place ∷ places) within =
    let here : PlaceWithin bytes place = All-head (PlaceWithin bytes) place places within in
    let first : bytes_at (bytes ++ more) place ≡ bytes_at bytes place = slice_range_grown bytes more place.start place.end here.ordered here.inside in
    let others : map (bytes_at (bytes ++ more)) places ≡ map (bytes_at bytes) places = frames_kept bytes more places (All-tail (PlaceWithin bytes) place places within) in
    cc

-- one more frame, whose bytes stand behind all others
pub frames_added : (bytes frame : List ℕ) (places : List FramePlace) (place : FramePlace) → All (PlaceWithin bytes) places → place.start ≡ length bytes → place.end ≡ length bytes + length frame → map (bytes_at (bytes ++ frame)) (places ++ place ∷ []) ≡ map (bytes_at bytes) places ++ frame ∷ []
frames_added bytes frame places place within start end =
    let kept : map (bytes_at (bytes ++ frame)) places ≡ map (bytes_at bytes) places = frames_kept bytes frame places within in
    let here : bytes_at (bytes ++ frame) place ≡ frame = rw start (slice_range_added bytes frame place.end end) in
    map_push (bytes_at (bytes ++ frame)) places place ∙ cc
