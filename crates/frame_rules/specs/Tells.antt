-- What a verdict tells of a frame, of what a program made of it, and of the bytes that were written.
use Rattle.std.specs.Prelude.{◌≡◌, ◌≢◌, ◌+◌, ◌≤◌, ℕ, Bool, true, false, List, length, Option, Some, None}
use Rattle.frame_rules.specs.declared.applying.Verdict.{Verdict}
use Rattle.frame_rules.specs.declared.applying.Verdict.TheVariants.{Same, Changed, Drop}
use Rattle.frame_rules.specs.Space.{Space}

-- Drop where the program made none, Same where it made the frame itself, else Changed. Where it made
-- one, that was written.
abbrev pub Tells : Verdict → Option (List ℕ) → List ℕ → List ℕ → Type 0
Tells Drop value frame written = value ≡ None
Tells Same value frame written = (value ≡ Some frame) × (written ≡ frame)
Tells Changed value frame written = (value ≡ Some written) × (written ≢ frame)

-- a frame that an action left, of a length from 14 to a limit
pub record Leaves (value : Option (List ℕ)) (max : ℕ) (old new : Space) : Type 0 where
  pub written : value ≡ Some new.bytes
  pub long : 14 ≤ length new.bytes
  pub short : length new.bytes ≤ max
  pub room : new.room ≡ old.room

-- the answer yes where an action left a frame, no where it dropped it
abbrev pub Performs : Bool → Option (List ℕ) → ℕ → Space → Space → Type 0
Performs true value max old new = Leaves value max old new
Performs false value max old new = (value ≡ None) × (new.room ≡ old.room)
