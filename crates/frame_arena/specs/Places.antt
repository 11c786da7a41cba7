-- Where the bytes of a frame stand.
use Rattle.std.specs.Prelude.{ℕ, ◌≤◌, List, length, slice_range}
use Rattle.frame_arena.specs.declared.FramePlace.{FramePlace}

abbrev pub bytes_at : List ℕ → FramePlace → List ℕ
bytes_at bytes place = slice_range bytes place.start place.end

pub record PlaceWithin (bytes : List ℕ) (place : FramePlace) : Type 0 where
  pub ordered : place.start ≤ place.end
  pub inside : place.end ≤ length bytes
