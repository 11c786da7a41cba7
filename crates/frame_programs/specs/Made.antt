-- What contracts see of frames that programs made.
use Rattle.std.specs.Prelude.{ℕ, List}

-- the frames that were made last, and for how many more lists there is room
pub record MadeView : Type 0 where
  pub frames : List (List ℕ)
  pub room : ℕ
