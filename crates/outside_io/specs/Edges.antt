-- What reads and writes do to what a source has left and a sink holds, where they tell that.
use Rattle.std.specs.Prelude.{◌≡◌, ℕ, ◌+◌, ◌-◌, ◌^◌, ◌<◌, ◌≤◌, ◌++◌, List, Option, option_map, take, min, length}

-- a count that rises by one, and stands still at its last value
abbrev pub raised : ℕ → ℕ
raised count = min (count + 1) (2 ^ 64 - 1)

-- the count rose in this call; one that stands at its last value is taken as risen
abbrev pub Rose : ℕ → ℕ → Type 0
Rose old new = raised old ≤ new

-- what was left is what was read, and what is left now
abbrev pub before : List ℕ → Option (List ℕ) → Option (List ℕ)
before read rest = option_map (λ r. read ++ r) rest

-- what is held is what was held, and then this
abbrev pub after : Option (List ℕ) → List ℕ → Option (List ℕ)
after held piece = option_map (λ h. h ++ piece) held

-- some bytes were read
pub record Takes (old new : Option (List ℕ)) : Type 0 where
  pub read : List ℕ
  pub is : old ≡ before read new

-- more bytes than the limit were read
pub record TakesMore (limit : ℕ) (old new : Option (List ℕ)) : Type 0 where
  pub read : List ℕ
  pub is : old ≡ before read new
  pub more : limit < length read

-- so many bytes of the text were added
pub record AddsPrefix (old new : Option (List ℕ)) (text : List ℕ) : Type 0 where
  pub much : ℕ
  pub is : new ≡ after old (take much text)
