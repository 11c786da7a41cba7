-- The spaces that programs write frames into.
use Rattle.std.specs.Prelude.{ℕ, ◌≤◌, List, map, take}
use Rattle.frame_rules.specs.Space.{Space}

-- there is room for a frame
abbrev pub HasRoom : Space → Type 0
HasRoom s = 1518 ≤ s.room

-- what stands in the first so many of them
abbrev pub written : List Space → ℕ → List (List ℕ)
written spaces many = map (λ s. s.bytes) (take many spaces)
