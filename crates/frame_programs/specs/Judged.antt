-- What a verdict tells of the frames of a list, and of what a program made of them.
use Rattle.std.specs.Prelude.{◌≡◌, ◌≢◌, ℕ, false, List, Option, Some, None}
use Rattle.frame_rules.specs.declared.applying.Verdict.{Verdict}
use Rattle.frame_rules.specs.declared.applying.Verdict.TheVariants.{Same, Changed, Drop}
use Rattle.stack_rules.specs.Tests.{same_frames}
use Rattle.hand_lemmas.specs.Frames.{AreSized}

-- a frame that is dropped drops the list, and else a frame that is changed changes it
abbrev pub both : Verdict → Verdict → Verdict
both Drop next = Drop
both Same next = next
both Changed Drop = Drop
both Changed Same = Changed
both Changed Changed = Changed

-- Drop where the program made none, Same where it made the frames themselves, else Changed. Where it made some, those
-- were written.
abbrev pub Judges : Verdict → Option (List (List ℕ)) → List (List ℕ) → List (List ℕ) → Type 0
Judges Drop value frames written = value ≡ None
Judges Same value frames written = (value ≡ Some frames) × (written ≡ frames)
Judges Changed value frames written = (value ≡ Some written) × (written ≢ frames)

-- these are what the program made: not the frames that there were, and fit for a list
pub record IsMadeOf (value : Option (List (List ℕ))) (frames made : List (List ℕ)) : Type 0 where
  pub is : value ≡ Some made
  pub other : same_frames made frames ≡ false
  pub sized : AreSized made

-- the verdict, and where the frames were changed what was made of them
abbrev pub Leaves : Verdict → Option (List (List ℕ)) → List (List ℕ) → List (List ℕ) → Type 0
Leaves Drop value frames made = value ≡ None
Leaves Same value frames made = value ≡ Some frames
Leaves Changed value frames made = IsMadeOf value frames made
