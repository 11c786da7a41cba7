-- Adapters that have a transmit ring.
use Rattle.std.specs.Prelude.{◌≡◌, ◌≢◌, ℕ, ◌+◌, ◌-◌, ◌*◌, ◌≤◌, ◌<◌, ◌^◌, Bool, true, [], ◌∷◌, ◌++◌, Option, None, length}
use Rattle.ndis_base.specs.declared.Direction.TheVariants as direction
use Rattle.ndis_base.specs.declared.ListStatus.TheVariants.{Success, Resources}
use Rattle.ndis_base.specs.declared.MiniportKind.{MiniportKind}
use Rattle.journal_types.specs.declared.PortSetup.{PortSetup}
use Rattle.buffer_pools.specs.Views.{ListView, live_count}
use Rattle.driver_views.specs.declared.Served.{Served}
use Rattle.driver_views.specs.States.{MiniportState, not_called}
use Rattle.driver_tray.specs.Tray.{TrayView, turned_back, passed_back, noted, wired, Starts}
use Rattle.driver_log.specs.Log.{LogView}
use Rattle.kept_lists.specs.Kept.{KeptView}

-- what an adapter shows
abbrev pub adapter_of : MiniportKind → Option PortSetup → KeptView → Served → LogView → ℕ → MiniportState
adapter_of kind port ring served log refusals =
    record { kind = kind; port = port; kept = ring.lists; did = record { served = served; log = log.entries }; refusals = refusals }

-- an adapter that is halted and was never called
abbrev pub new_adapter : MiniportKind → MiniportState
new_adapter kind = record { kind = kind; port = None; kept = []; did = record { served = not_called; log = [] }; refusals = 0 }

-- the lists of the ring and the free places are as many as the port says
abbrev pub IsRing : KeptView → PortSetup → Type 0
IsRing ring port = length ring.lists + ring.room ≡ port.ring

-- a list goes into the ring, or is turned back where the ring is full
pub data Enqueues (ring : KeptView) (l : ListView) (t : TrayView) (ring' : KeptView) (t' : TrayView) : Type 0 where
  keeps : 1 ≤ ring.room → ring' ≡ record { lists = ring.lists ++ l ∷ []; room = ring.room - 1 } → t' ≡ noted t l.label.number → Enqueues ring l t ring' t'
  fills : ring.room ≡ 0 → ring' ≡ ring → t' ≡ turned_back t l Resources → Enqueues ring l t ring' t'

-- the adapter's pool has a list for frames that it loops
abbrev pub CanLoop : Bool → TrayView → Type 0
CanLoop loops t = (loops ≡ true) × (live_count t.pool ≢ t.pool.size)

-- it indicates the frames as a list of its own, where it can
pub data Indicates (loops : Bool) (l : ListView) (t t' : TrayView) : Type 0 where
  quiet : (CanLoop loops t → ⊥) → t' ≡ t → Indicates loops l t t'
  starts : CanLoop loops t → Starts t direction.Up None l.frames t' → Indicates loops l t t'

-- a list went onto the wire, its frames are indicated where they can be, and it is passed back
pub record Crosses (loops : Bool) (l : ListView) (t t' : TrayView) : Type 0 where
  pub begun : TrayView
  pub indicates : Indicates loops l (wired t l) begun
  pub back : t' ≡ passed_back begun l Success

-- for the rows of a list that goes onto the wire, and of one that is indicated
pub record CanCross (t : TrayView) : Type 0 where
  pub pool : t.pool.bytes ≡ 1518
  pub rows : 4 ≤ t.room.rows
  pub slack : 2 ≤ t.slack
  pub frame_room : 8 ≤ t.room.frames
  pub byte_room : 8 * 1518 ≤ t.room.bytes
  pub low : t.net.next.list < 2 ^ 60
  pub sent : t.net.port.sent < 2 ^ 60
  pub received : t.net.port.received < 2 ^ 60
