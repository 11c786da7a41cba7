-- What is held after a driver was called with its pool.
use Rattle.std.specs.Prelude.{ℕ, ◌≡◌, Some, List, slice_set}
use Rattle.ndis_base.specs.declared.ModuleId.{ModuleId}
use Rattle.buffer_pools.specs.Views.{ListView, PoolView}
use Rattle.driver_views.specs.States.{FilterState, MiniportState, ProtocolState}
use Rattle.hand_lemmas.specs.Hands.{put_at}
use Rattle.book_lemmas.specs.Views.{HeldView, IsPlace, seat_of, kept_of, held_pool}
use Rattle.book_lemmas.specs.Stands.{SeatsApart}

-- the filter at a place was called
abbrev pub filter_called : HeldView → ℕ → FilterState → PoolView → HeldView
filter_called held place s pool = record held { filters = slice_set held.filters place s; filter_pools = slice_set held.filter_pools place pool }

-- the miniport was called
abbrev pub miniport_called : HeldView → MiniportState → PoolView → HeldView
miniport_called held s pool = record held { miniport = s; miniport_pool = pool }

-- the protocol of a binding was called
abbrev pub protocol_called : HeldView → ℕ → ProtocolState → PoolView → HeldView
protocol_called held i s pool = record held { protocols = slice_set held.protocols i s; protocol_pools = slice_set held.protocol_pools i pool }

-- a filter sits at a place, and no other filter does
pub record SitsAt (held : HeldView) (f place : ℕ) : Type 0 where
  pub apart : SeatsApart held.seats
  pub seat : seat_of held.seats f ≡ Some place
  pub is : IsPlace held place

-- one module keeps these lists now and has this pool; the others are as they were
pub record IsCalled (old new : HeldView) (m : ModuleId) (kept : List ListView) (pool : PoolView) : Type 0 where
  pub kept_is : (k : ModuleId) → kept_of new k ≡ put_at m kept (kept_of old) k
  pub pool_is : (k : ModuleId) → held_pool new k ≡ put_at m pool (held_pool old) k
