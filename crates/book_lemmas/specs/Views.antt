-- What contracts see of drivers of every kind, and of a book that holds them: boxes stay at the places where the
-- caller's order puts them; shelf and seats hold places.
use Rattle.std.specs.Prelude.{ℕ, ◌≡◌, ◌<◌, ◌==◌, false, List, [], ◌∷◌, Option, Some, None, if◌then◌else◌, length, slice_index_or}
use Rattle.ndis_base.specs.declared.ProtocolKind.TheVariants as protocol_kind
use Rattle.ndis_base.specs.declared.FilterKind.TheVariants as filter_kind
use Rattle.ndis_base.specs.declared.ModuleId.{ModuleId}
use Rattle.ndis_base.specs.declared.ModuleId.TheVariants.{Miniport, Filter, Binding}
use Rattle.buffer_pools.specs.Views.{ListView, PoolView}
use Rattle.driver_views.specs.States.{Record, FilterState, MiniportState, ProtocolState, not_called}
use Rattle.agenda_items.specs.declared.Carried.{Carried}
use Rattle.hand_lemmas.specs.Hands.{Hands}
use Rattle.driver_tray.specs.Tray.{TrayView}

-- what is held: the drivers by place, the places on the shelf, the places of the filters that are attached, and the
-- pools
pub record HeldView : Type 0 where
  pub miniport : MiniportState
  pub protocols : List ProtocolState
  pub filters : List FilterState
  pub shelf : List ℕ
  pub seats : List (ℕ × ℕ)
  pub miniport_pool : PoolView
  pub protocol_pools : List PoolView
  pub filter_pools : List PoolView

-- the book: the tray, and what is held
pub record BookView : Type 0 where
  pub tray : TrayView
  pub held : HeldView

-- the pool of a module that isn't there has no list, and so no frame of any size
abbrev pub no_pool : PoolView
no_pool = record { size = 0; bytes = 1518; slots = [] }

-- a driver that was never called
abbrev pub never : Record
never = record { served = not_called; log = [] }

-- the driver of a filter that isn't there keeps nothing
abbrev pub no_filter : FilterState
no_filter = record { kind = filter_kind.Pass; setup = None; kept = []; did = never; refusals = 0 }

-- the driver of a binding that isn't there keeps nothing
abbrev pub no_protocol : ProtocolState
no_protocol = record { kind = protocol_kind.Log; is_open = false; kept = []; did = never }

-- the place of a filter's driver
abbrev pub seat_of : List (ℕ × ℕ) → ℕ → Option ℕ
seat_of [] f = None
seat_of (s ∷ ss) f = if s.0 == f then Some s.1 else seat_of ss f

-- no filter sits at this place
abbrev pub IsVacant : List (ℕ × ℕ) → ℕ → Type 0
IsVacant seats place = (f : ℕ) → seat_of seats f ≡ Some place → ⊥

-- there is a driver at this place, and a pool
pub record IsPlace (held : HeldView) (place : ℕ) : Type 0 where
  pub driver : place < length held.filters
  pub pool : place < length held.filter_pools

-- a place on the shelf has a driver and a pool, and no filter sits there
pub record IsOnShelf (held : HeldView) (place : ℕ) : Type 0 where
  pub is : IsPlace held place
  pub vacant : IsVacant held.seats place

-- the driver at a place
abbrev pub filter_at : List FilterState → Option ℕ → FilterState
filter_at filters None = no_filter
filter_at filters (Some place) = slice_index_or filters place no_filter

-- the pool at a place
abbrev pub pool_at : List PoolView → Option ℕ → PoolView
pool_at pools None = no_pool
pool_at pools (Some place) = slice_index_or pools place no_pool

-- the lists that a module keeps
abbrev pub kept_of : HeldView → ModuleId → List ListView
kept_of held Miniport = held.miniport.kept
kept_of held (Filter f) = (filter_at held.filters (seat_of held.seats f)).kept
kept_of held (Binding i) = (slice_index_or held.protocols i no_protocol).kept

-- a module's pool
abbrev pub held_pool : HeldView → ModuleId → PoolView
held_pool held Miniport = held.miniport_pool
held_pool held (Filter f) = pool_at held.filter_pools (seat_of held.seats f)
held_pool held (Binding i) = slice_index_or held.protocol_pools i no_pool

-- all that is in hand: what is on its way, what the drivers keep, and what the function of the event has issued in
-- this turn
abbrev pub hands_of : List Carried → HeldView → List ListView → Hands
hands_of queue held loose = record { queue = queue; loose = loose; kept = kept_of held; pools = held_pool held }
