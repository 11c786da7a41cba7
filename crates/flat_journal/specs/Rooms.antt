-- The room of a journal.
use Rattle.std.specs.Prelude.{◌≡◌, ◌+◌, ◌≤◌}
use Rattle.flat_journal.specs.declared.types.Room.{Room}

abbrev pub no_room : Room
no_room = record { turns = 0; rows = 0; frames = 0; bytes = 0; filters = 0; setups = 0 }

-- there is at least as much room as is wanted
pub record Covers (room wanted : Room) : Type 0 where
  pub turns : wanted.turns ≤ room.turns
  pub rows : wanted.rows ≤ room.rows
  pub frames : wanted.frames ≤ room.frames
  pub bytes : wanted.bytes ≤ room.bytes
  pub filters : wanted.filters ≤ room.filters
  pub setups : wanted.setups ≤ room.setups

-- the room was `before`, so much of it is used, and `after` is left
pub record Uses (before after used : Room) : Type 0 where
  pub turns : after.turns + used.turns ≡ before.turns
  pub rows : after.rows + used.rows ≡ before.rows
  pub frames : after.frames + used.frames ≡ before.frames
  pub bytes : after.bytes + used.bytes ≡ before.bytes
  pub filters : after.filters + used.filters ≡ before.filters
  pub setups : after.setups + used.setups ≡ before.setups
