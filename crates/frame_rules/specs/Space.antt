-- What contracts see of a byte space.
use Rattle.std.specs.Prelude.{ℕ, List}

-- the bytes that it has room for, and the bytes in it
pub record Space : Type 0 where
  pub room : ℕ
  pub bytes : List ℕ
