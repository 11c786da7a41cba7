-- Kept lists from the inside.
use Rattle.std.specs.Prelude.{◌≡◌, ◌+◌, ◌≤◌, []}
use Rattle.std.specs.VecDeque.{deque_len, deque_capacity}
use Rattle.kept_lists.specs.Kept.{KeptView}
use Rattle.kept_lists.specs.declared.kept.KeptLists.TheInside.{Inside}

abbrev pub kept_view : Inside → KeptView
kept_view k = record { lists = k.kept.items; room = k.room }

-- nothing is leaving between calls, and all lists have room among those that leave
pub record IsKept (k : Inside) : Type 0 where
  pub leaving : k.leaving.items ≡ []
  pub kept_room : deque_len k.kept + k.room ≤ deque_capacity k.kept
  pub leaving_room : deque_len k.kept + k.room ≤ deque_capacity k.leaving
