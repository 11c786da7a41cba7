-- What the vectors of a journal show.
use Rattle.std.specs.Prelude.{◌-◌, map, drop, vec_len, vec_capacity}
use Rattle.flat_journal.specs.declared.journal.FlatJournal.TheInside.{Inside}
use Rattle.flat_journal.specs.declared.types.Room.{Room}
use Rattle.flat_journal.specs.Payloads.{Payloads}
use Rattle.flat_journal.specs.Shown.{row_of, turn_of}
use Rattle.flat_journal.specs.Flat.{FlatView, Kept}

abbrev pub payloads_of : Inside → Payloads
payloads_of j = record { frames = j.arena.frames; filters = j.filters.items; setups = j.setups.items }

abbrev pub room_of : Inside → Room
room_of j = record {
  turns = vec_capacity j.turns - vec_len j.turns;
  rows = vec_capacity j.rows - vec_len j.rows;
  frames = j.arena.frame_room;
  bytes = j.arena.byte_room;
  filters = vec_capacity j.filters - vec_len j.filters;
  setups = vec_capacity j.setups - vec_len j.setups;
}

abbrev pub shown : Inside → FlatView
shown j = record {
  head = j.head;
  turns = map (turn_of (payloads_of j) j.rows.items) j.turns.items;
  rows = map (row_of (payloads_of j)) (drop j.begun j.rows.items);
  payloads = payloads_of j;
  room = room_of j;
}

abbrev pub IsKept : Inside → Type 0
IsKept j = Kept (payloads_of j) j.turns.items j.rows.items j.begun
