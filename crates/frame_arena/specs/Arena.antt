-- What contracts see of an arena: its frames in order, and the room for further frames and their bytes.
use Rattle.std.specs.Prelude.{ℕ, List}

pub record ArenaView : Type 0 where
  pub frames : List (List ℕ)
  pub frame_room : ℕ
  pub byte_room : ℕ
