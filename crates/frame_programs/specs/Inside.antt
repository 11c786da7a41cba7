-- Made frames from the inside.
use Rattle.std.specs.Prelude.{◌≤◌, ◌*◌, All, vec_len, vec_capacity}
use Rattle.frame_programs.specs.Made.{MadeView}
use Rattle.frame_programs.specs.Spaces.{HasRoom}
use Rattle.frame_programs.specs.declared.made.MadeFrames.TheInside.{Inside}

abbrev pub made_view : Inside → MadeView
made_view m = record { frames = m.made.items; room = m.room }

-- each space has room for a frame, and there are spaces and places for the frames of each list that there is room for
pub record IsMade (m : Inside) : Type 0 where
  pub roomy : All HasRoom m.spaces.items
  pub spaces : 8 * m.room ≤ vec_len m.spaces
  pub places : 8 * m.room ≤ vec_capacity m.made
