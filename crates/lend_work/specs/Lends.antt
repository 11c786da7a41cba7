-- The miniport lends a list, and takes it home as the turn ends.
use Rattle.std.specs.Prelude.{◌≡◌, ◌≢◌, ℕ, ◌+◌, ◌≤◌, ◌<◌, ◌*◌, ◌^◌, true, List, Some, None, length, slice_index}
use Rattle.std.specs.List.{All}
use Rattle.ndis_base.specs.declared.ListStatus.{ListStatus}
use Rattle.ndis_base.specs.declared.ModuleId.TheVariants.{Miniport}
use Rattle.frame_arena.specs.declared.FrameSpan.{FrameSpan}
use Rattle.buffer_pools.specs.Views.{ListView, PoolView, live_count}
use Rattle.journal_types.specs.declared.Refusal.TheVariants as refusal
use Rattle.flat_journal.specs.declared.types.FlatReply.{FlatReply}
use Rattle.flat_journal.specs.declared.types.FlatReply.TheVariants as flat_reply
use Rattle.stack_rules.specs.Targets.{has_receive}
use Rattle.promise_rules.specs.declared.Called.TheVariants as called
use Rattle.hand_lemmas.specs.Frames.{AreSized}
use Rattle.driver_views.specs.States.{FilterState, times}
use Rattle.driver_tray.specs.Tray.{TrayView, LendsOut, Spends}
use Rattle.book_lemmas.specs.Views.{BookView, HeldView}
use Rattle.binding_work.specs.Sends.{MayStart, called_with}
use Rattle.delivery_work.specs.Desks.{Desk, CanTake, desk}
use Rattle.lend_work.specs.Visits.{Bench, bench}
use Rattle.lend_work.specs.Climbs.{Climbs, MayClimb, IsServed, receivers}
use Rattle.lend_work.specs.Bindings.{Arrives}

-- the parts of a book that a list at its filters and at its bindings changes
abbrev pub bench_of : BookView → Bench
bench_of v = bench v.held.filters v.held.filter_pools v.tray

abbrev pub desk_of : BookView → Desk
desk_of v = desk v.held.protocols v.held.protocol_pools v.tray

-- a new list of the miniport's pool was lent
pub record LendsFor (made : List (List ℕ)) (t : TrayView) (pool : PoolView) (l : ListView) (t' : TrayView) (pool' : PoolView) : Type 0 where
  pub mid : TrayView
  pub lends : LendsOut (called_with t Miniport pool) made l mid
  pub tray : t' ≡ record mid { pool = t.pool }
  pub pool_is : pool' ≡ mid.pool

-- a list of the miniport's pool is home
pub record TakesHome (l : ListView) (status : ListStatus) (t : TrayView) (pool : PoolView) (t' : TrayView) (pool' : PoolView) : Type 0 where
  pub mid : TrayView
  pub spends : Spends (called_with t Miniport pool) l status mid
  pub tray : t' ≡ record mid { pool = t.pool }
  pub pool_is : pool' ≡ mid.pool

-- a list went home from a filter, or came to the bindings
pub data Carries (many : ℕ) (l : ListView) (v : BookView) (status : ListStatus) (v' : BookView) : Type 0 where
  stops : Climbs v.held.seats l (receivers v.tray.net.modules (length v.tray.net.modules.order)) (bench_of v) (Some status) (bench_of v')
      → v'.held ≡ record v.held { filters = v'.held.filters; filter_pools = v'.held.filter_pools } → Carries many l v status v'
  arrives : (mid : BookView) → Climbs v.held.seats l (receivers v.tray.net.modules (length v.tray.net.modules.order)) (bench_of v) None (bench_of mid)
      → mid.held ≡ record v.held { filters = mid.held.filters; filter_pools = mid.held.filter_pools }
      → Arrives many l (desk_of mid) status (desk_of v')
      → v'.held ≡ record mid.held { protocols = v'.held.protocols; protocol_pools = v'.held.protocol_pools } → Carries many l v status v'

-- a filter can count one more list that is lent to it
pub record CanVisit (s : FilterState) : Type 0 where
  pub count : times s.did.served called.ReceiveLent < 2 ^ 60

-- there is room in the tray for a list that is lent to all filters of the order and to so many bindings
pub record HasRoom (many : ℕ) (t : TrayView) : Type 0 where
  pub turns : 1 ≤ t.room.turns
  pub order : length t.net.modules.order ≤ 2 ^ 60
  pub rows : length t.net.modules.order + 3 * many + 5 ≤ t.room.rows
  pub slack : many + 2 ≤ t.slack
  pub frames : 8 * many + 8 ≤ t.room.frames
  pub bytes : 12144 * many + 12144 ≤ t.room.bytes
  pub list : t.net.next.list + many < 2 ^ 60
  pub sent : t.net.port.sent < 2 ^ 60
  pub received : t.net.port.received < 2 ^ 60

-- and for the list itself
pub record IsTrayReady (many : ℕ) (t : TrayView) : Type 0 where
  pub turns : 1 ≤ t.room.turns
  pub order : length t.net.modules.order ≤ 2 ^ 60
  pub rows : length t.net.modules.order + 3 * many + 6 ≤ t.room.rows
  pub slack : many + 2 ≤ t.slack
  pub frames : 8 * many + 8 ≤ t.room.frames
  pub bytes : 12144 * many + 12144 ≤ t.room.bytes
  pub list : t.net.next.list + many + 1 < 2 ^ 60
  pub sent : t.net.port.sent < 2 ^ 60
  pub received : t.net.port.received + 8 < 2 ^ 60

-- so it is, and all drivers can count one more list that is lent to them
pub record IsReady (many : ℕ) (v : BookView) : Type 0 where
  pub tray : IsTrayReady many v.tray
  pub filters : All CanVisit v.held.filters
  pub protocols : All CanTake v.held.protocols

-- a list may be lent to the filters, and to so many bindings
pub record MayCarry (many : ℕ) (l : ListView) (v : BookView) : Type 0 where
  pub climb : MayClimb v.held.seats (length v.tray.net.modules.order) l (bench_of v)
  pub some : 1 ≤ many
  pub protocols : many ≡ length v.held.protocols
  pub pools : many ≡ length v.held.protocol_pools
  pub counts : All CanTake v.held.protocols
  pub bytes : All (λ (p : PoolView). p.bytes ≡ 1518) v.held.protocol_pools
  pub room : HasRoom many v.tray

-- frames may be lent by the miniport, whose room is made
pub record MayLend (many : ℕ) (made : List (List ℕ)) (span : FrameSpan) (v : BookView) : Type 0 where
  pub start : MayStart v.tray v.held.miniport_pool made span
  pub sized : AreSized made
  pub ready : IsReady many v
  pub served : (k : ℕ) → k < length v.tray.net.modules.order → has_receive v.tray.net.modules (slice_index v.tray.net.modules.order k) ≡ true
      → IsServed v.held.seats (slice_index v.tray.net.modules.order k) (bench_of v)
  pub some : 1 ≤ many
  pub protocols : many ≡ length v.held.protocols
  pub pools : many ≡ length v.held.protocol_pools
  pub bytes : All (λ (p : PoolView). p.bytes ≡ 1518) v.held.protocol_pools

-- only the miniport's pool changed
abbrev pub pooled : HeldView → PoolView → HeldView
pooled held pool = record held { miniport_pool = pool }

-- a list was lent, carried up and taken home; or the miniport's pool is full and all is as before
pub data Lends (many : ℕ) (made : List (List ℕ)) (v : BookView) (r : FlatReply) (v' : BookView) : Type 0 where
  lends : (l : ListView) (mid after : BookView) (status : ListStatus) → LendsFor made v.tray v.held.miniport_pool l mid.tray mid.held.miniport_pool → mid.held ≡ pooled v.held mid.held.miniport_pool
      → Carries many l mid status after → TakesHome l status after.tray after.held.miniport_pool v'.tray v'.held.miniport_pool → v'.held ≡ pooled after.held v'.held.miniport_pool
      → live_count v.held.miniport_pool ≢ v.held.miniport_pool.size → r ≡ flat_reply.Lent l.label.number → Lends many made v r v'
  lacks : live_count v.held.miniport_pool ≡ v.held.miniport_pool.size → v'.tray ≡ record v.tray { caller = Miniport } → v'.held ≡ v.held → r ≡ flat_reply.Refused refusal.NoList → Lends many made v r v'
