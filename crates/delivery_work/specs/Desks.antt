-- A list is delivered to one binding after the other: lent to all but the last one, which gets it as its own.
use Rattle.std.specs.Prelude.{◌≡◌, ℕ, ◌+◌, ◌*◌, ◌≤◌, ◌<◌, ◌^◌, List, [], ◌∷◌, length, slice_index_or, slice_set}
use Rattle.std.specs.List.{AllWithin}
use Rattle.buffer_pools.specs.Views.{ListView, PoolView}
use Rattle.promise_rules.specs.declared.Called.TheVariants as called
use Rattle.hand_lemmas.specs.Frames.{AreSized}
use Rattle.driver_views.specs.States.{ProtocolState}
use Rattle.driver_tray.specs.Tray.{TrayView}
use Rattle.driver_calls.specs.Rooms.{CanCount}
use Rattle.book_lemmas.specs.Views.{no_pool, no_protocol}
use Rattle.binding_work.specs.Owns.{Owns, Lends}

-- what deliveries change: the protocols and their pools, and the tray
pub record Desk : Type 0 where
  pub protocols : List ProtocolState
  pub pools : List PoolView
  pub tray : TrayView

abbrev pub desk : List ProtocolState → List PoolView → TrayView → Desk
desk protocols pools tray = record { protocols = protocols; pools = pools; tray = tray }

-- the list was lent to the protocol of a binding
pub record LendsAt (b : ℕ) (l : ListView) (d d' : Desk) : Type 0 where
  pub there : b < length d.protocols
  pub housed : b < length d.pools
  pub state : ProtocolState
  pub pool : PoolView
  pub lends : Lends b l (slice_index_or d.protocols b no_protocol) d.tray (slice_index_or d.pools b no_pool) state d'.tray pool
  pub protocols : d'.protocols ≡ slice_set d.protocols b state
  pub pools : d'.pools ≡ slice_set d.pools b pool

-- the list was delivered to the protocol of a binding as its own
pub record OwnsAt (b : ℕ) (l : ListView) (d d' : Desk) : Type 0 where
  pub there : b < length d.protocols
  pub housed : b < length d.pools
  pub state : ProtocolState
  pub pool : PoolView
  pub owns : Owns b l (slice_index_or d.protocols b no_protocol) d.tray (slice_index_or d.pools b no_pool) state d'.tray pool
  pub protocols : d'.protocols ≡ slice_set d.protocols b state
  pub pools : d'.pools ≡ slice_set d.pools b pool

-- the list was lent to a binding, and then so delivered to others, of which this one is next
pub record Passes (b c : ℕ) (l : ListView) (d : Desk) (so : Desk → Type 0) : Type 0 where
  pub mid : Desk
  pub less : b < c
  pub lends : LendsAt b l d mid
  pub others : so mid

-- the list was delivered to a binding and to those after it, the last of which owns it
abbrev pub Delivers : ListView → ℕ → List ℕ → Desk → Desk → Type 0
Delivers l b [] d d' = OwnsAt b l d d'
Delivers l b (c ∷ bs) d d' = Passes b c l d (λ mid. Delivers l c bs mid d')

-- a protocol can count one more delivery of each kind
pub record CanTake (s : ProtocolState) : Type 0 where
  pub own : CanCount called.Receive s.did.served
  pub lent : CanCount called.ReceiveLent s.did.served

-- there is room in the tray for deliveries to the bindings from this one on, of so many in all
pub record HasRoomFrom (from many : ℕ) (t : TrayView) : Type 0 where
  pub rows : 3 * many + 1 ≤ t.room.rows + 3 * from
  pub slack : many + 1 ≤ t.slack + from
  pub frames : 8 * many ≤ t.room.frames + 8 * from
  pub bytes : 12144 * many ≤ t.room.bytes + 12144 * from
  pub list : t.net.next.list + many ≤ 2 ^ 60 + from
  pub sent : t.net.port.sent < 2 ^ 60
  pub received : t.net.port.received < 2 ^ 60

-- a list may be delivered to the bindings from this one on
pub record MayDeliver (from : ℕ) (l : ListView) (d : Desk) : Type 0 where
  pub below : from < length d.protocols
  pub pools : length d.pools ≡ length d.protocols
  pub counts : AllWithin CanTake d.protocols from (length d.protocols)
  pub bytes : AllWithin (λ (p : PoolView). p.bytes ≡ 1518) d.pools from (length d.pools)
  pub sized : AreSized l.frames
  pub room : HasRoomFrom from (length d.protocols) d.tray
