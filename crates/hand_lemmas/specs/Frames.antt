-- The sizes of frames, and the rules that keep them.
use Rattle.std.specs.Prelude.{◌≡◌, ℕ, ◌≤◌, List, length, All}
use Rattle.program_types.specs.declared.Action.{Action}
use Rattle.program_types.specs.declared.Action.TheVariants as action
use Rattle.program_types.specs.declared.Rule.{Rule}
use Rattle.buffer_pools.specs.Views.{Fits}

-- a frame of at least the 14 bytes of an Ethernet header, and at most so many
pub record IsFrame (most : ℕ) (frame : List ℕ) : Type 0 where
  pub header : 14 ≤ length frame
  pub short : length frame ≤ most

-- 1 to 8 frames, each of 14 to 1518 bytes
pub record AreSized (frames : List (List ℕ)) : Type 0 where
  pub fits : Fits frames 1518
  pub each : All (IsFrame 1518) frames

-- the address that an action writes has 6 bytes
abbrev pub IsAddressed : Action → Type 0
IsAddressed (action.SetDst address) = length address ≡ 6
IsAddressed (action.SetSrc address) = length address ≡ 6
IsAddressed _ = Unit {0}

-- each address that a program writes has 6 bytes
abbrev pub AreAddressed : List Rule → Type 0
AreAddressed rules = All (λ r. IsAddressed r.action) rules
