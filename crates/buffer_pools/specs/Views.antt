-- What contracts see of lists and pools.
use Rattle.std.specs.Prelude.{ℕ, ◌≡◌, ◌≢◌, ◌+◌, ◌<◌, ◌≤◌, List, Option, Some, None, length, All, slice_index_or, is_some, count_by}
use Rattle.buffer_pools.specs.declared.label.Label.{Label}

-- what the buffers of a list show: the frames in them, and the bytes that each has room for
pub record SpaceView : Type 0 where
  pub frames : List (List ℕ)
  pub bytes : ℕ

-- these may be the frames of a list: 1 to 8 of at most so many bytes each
pub record Fits (frames : List (List ℕ)) (most : ℕ) : Type 0 where
  pub some : 0 < length frames
  pub few : length frames ≤ 8
  pub short : All (λ f. length f ≤ most) frames

-- what a list shows: its label and frames, the bytes for each frame of the pool that made it, and
-- its slot there
pub record ListView : Type 0 where
  pub label : Label
  pub frames : List (List ℕ)
  pub bytes : ℕ
  pub slot : ℕ

-- a live list as its pool knows it
pub record Live : Type 0 where
  pub label : Label
  pub frames : List (List ℕ)

-- what a pool shows: how many lists it has, the bytes for each frame, and the live list in each slot
pub record PoolView : Type 0 where
  pub size : ℕ
  pub bytes : ℕ
  pub slots : List (Option Live)

-- the live list in a slot
abbrev pub live_at : PoolView → ℕ → Option Live
live_at p slot = slice_index_or p.slots slot None

-- how many lists are live
abbrev pub live_count : PoolView → ℕ
live_count p = count_by is_some p.slots

-- the list is one of the pool's live lists, and has its bytes for each frame
pub record IsOf (p : PoolView) (l : ListView) : Type 0 where
  pub live : live_at p l.slot ≡ Some (record { label = l.label; frames = l.frames })
  pub bytes : l.bytes ≡ p.bytes

-- the pool has one more live list, and the others as before
pub record Issues (old : PoolView) (l : ListView) (after : PoolView) : Type 0 where
  pub size : after.size ≡ old.size
  pub bytes : after.bytes ≡ old.bytes
  pub vacant : live_at old l.slot ≡ None
  pub is : IsOf after l
  pub others : (slot : ℕ) → slot ≢ l.slot → live_at after slot ≡ live_at old slot
  pub count : live_count after ≡ live_count old + 1

-- the pool has this list no more, and the others as before
pub record Frees (old : PoolView) (l : ListView) (after : PoolView) : Type 0 where
  pub size : after.size ≡ old.size
  pub bytes : after.bytes ≡ old.bytes
  pub vacant : live_at after l.slot ≡ None
  pub others : (slot : ℕ) → slot ≢ l.slot → live_at after slot ≡ live_at old slot
  pub count : live_count after + 1 ≡ live_count old
