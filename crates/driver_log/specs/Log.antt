-- What contracts see of a log.
use Rattle.std.specs.Prelude.{ℕ, List}

-- the entries, each the frames of a list, and room for so many more
pub record LogView : Type 0 where
  pub entries : List (List (List ℕ))
  pub room : ℕ
