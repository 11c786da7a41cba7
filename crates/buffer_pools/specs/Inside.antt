-- What a pool is made of, and how that is seen.
use Rattle.std.specs.Prelude.{◌≡◌, ◌+◌, ◌≤◌, Some, None, map, option_map, vec_capacity, vec_len, All}
use Rattle.slab.specs.Slab.{Slab, slab_len, get, Updates}
use Rattle.buffer_pools.specs.Views.{PoolView, ListView, Live}
use Rattle.buffer_pools.specs.declared.slot.Slot.{Slot}
use Rattle.buffer_pools.specs.declared.pool.ListPool.TheInside.{Inside}

-- the live list of a slot
abbrev pub live_of : Slot → Live
live_of s = record { label = s.label; frames = s.image.frames }

-- what a pool shows
abbrev pub pool_view : Inside → PoolView
pool_view p = record { size = p.size; bytes = p.bytes; slots = map (option_map live_of) p.live.slots }

-- each list is spare or live, and what is spare or live has room in the other place
pub record IsSound (p : Inside) : Type 0 where
  pub all : vec_len p.spare + slab_len p.live ≡ p.size
  pub spare_room : p.size ≤ vec_capacity p.spare
  pub live_room : p.size ≤ p.live.capacity
  pub bytes : All (λ s. s.bytes ≡ p.bytes) p.spare.items

-- the slots have one more, at the list's slot, which holds the list's label and frames
pub record Enters (old : Slab Slot) (l : ListView) (after : Slab Slot) : Type 0 where
  pub slot : Slot
  pub is : live_of slot ≡ record { label = l.label; frames = l.frames }
  pub vacant : get old l.slot ≡ None
  pub updates : Updates old after l.slot (Some slot)
  pub len : slab_len after ≡ slab_len old + 1
  pub capacity : after.capacity ≡ old.capacity
