-- A list is lent to one filter (WDK, "Receiving Data in a Filter Driver").
use Rattle.std.specs.Prelude.{◌≡◌, ℕ, ◌≤◌, ◌<◌, ◌*◌, ◌^◌, true, false, List, Option, Some, None, IsSome, length, slice_set}
use Rattle.ndis_base.specs.declared.Direction.TheVariants as direction
use Rattle.ndis_base.specs.declared.ListStatus.{ListStatus}
use Rattle.ndis_base.specs.declared.ListStatus.TheVariants.{Success, Dropped, Resources, Paused}
use Rattle.ndis_base.specs.declared.ModuleId.TheVariants.{Filter}
use Rattle.journal_types.specs.declared.Handler.TheVariants as handler
use Rattle.journal_types.specs.declared.Row.TheVariants as row
use Rattle.buffer_pools.specs.Views.{ListView, PoolView}
use Rattle.stack_rules.specs.Places.{state_of}
use Rattle.stack_rules.specs.Tests.{is_running}
use Rattle.promise_rules.specs.declared.Called.TheVariants as called
use Rattle.hand_lemmas.specs.Frames.{AreSized}
use Rattle.driver_views.specs.States.{FilterState}
use Rattle.driver_tray.specs.Tray.{TrayView, written, given}
use Rattle.driver_calls.specs.declared.fates.LentFate.{LentFate}
use Rattle.driver_calls.specs.declared.fates.LentFate.TheVariants as fate
use Rattle.driver_calls.specs.Rooms.{CanCount}
use Rattle.driver_calls.specs.Filters.{IsLentTo}
use Rattle.book_lemmas.specs.Views.{filter_at, pool_at}

-- a list may be lent to a filter
pub record MayVisit (s : FilterState) (l : ListView) (t : TrayView) (pool : PoolView) : Type 0 where
  pub setup : IsSome s.setup
  pub count : CanCount called.ReceiveLent s.did.served
  pub direction : l.label.direction ≡ direction.Lent
  pub sized : AreSized l.frames
  pub size : pool.bytes ≡ 1518
  pub rows : 4 ≤ t.room.rows
  pub slack : 1 ≤ t.slack
  pub frames : 8 ≤ t.room.frames
  pub bytes : 8 * 1518 ≤ t.room.bytes
  pub low : t.net.next.list < 2 ^ 60
  pub received : t.net.port.received < 2 ^ 60

-- with which status the list goes home by what the filter made of it; None where it goes further up
abbrev pub went_by : LentFate → Option ListStatus
went_by fate.Left = None
went_by fate.Dropped = Some Dropped
went_by fate.Lacking = Some Resources
went_by fate.Copied = Some Success

-- the module that is called turned a lent list back
abbrev pub refused : TrayView → ListView → ListStatus → TrayView
refused t l status = written t (row.TurnBack l.label.number t.caller status)

-- what the filter made of the list was written
abbrev pub settled : TrayView → ListView → LentFate → TrayView
settled t l fate.Left = t
settled t l fate.Dropped = refused t l Dropped
settled t l fate.Lacking = refused t l Resources
settled t l fate.Copied = t

-- the list was lent to a filter that runs
pub record Takes (s : FilterState) (l : ListView) (t : TrayView) (went : Option ListStatus) (s' : FilterState) (left : TrayView) : Type 0 where
  pub became : LentFate
  pub mid : TrayView
  pub lent : IsLentTo s l (given t l.label.number handler.ReceiveLent) became s' mid
  pub left_is : left ≡ settled mid l became
  pub went_is : went ≡ went_by became

-- it was lent to a filter that runs; for any other the stack itself turned it back
pub data Meets (s : FilterState) (l : ListView) (t : TrayView) (went : Option ListStatus) (s' : FilterState) (left : TrayView) : Type 0 where
  takes : is_running (state_of t.net t.caller) ≡ true → Takes s l t went s' left → Meets s l t went s' left
  stops : is_running (state_of t.net t.caller) ≡ false → s' ≡ s → left ≡ refused t l Paused → went ≡ Some Paused → Meets s l t went s' left

-- so it was, with the filter's pool in the tray, and the pool is out again
pub record Visits (f : ℕ) (l : ListView) (s : FilterState) (t : TrayView) (pool : PoolView) (went : Option ListStatus) (s' : FilterState) (t' : TrayView) (pool' : PoolView) : Type 0 where
  pub left : TrayView
  pub meets : Meets s l (record t { caller = Filter f; pool = pool }) went s' left
  pub tray : t' ≡ record left { pool = t.pool }
  pub pool_is : pool' ≡ left.pool

-- what lists at filters change: the filters and their pools by place, and the tray
pub record Bench : Type 0 where
  pub filters : List FilterState
  pub pools : List PoolView
  pub tray : TrayView

abbrev pub bench : List FilterState → List PoolView → TrayView → Bench
bench filters pools tray = record { filters = filters; pools = pools; tray = tray }

-- the list was lent to the filter at a place
pub record VisitsAt (f place : ℕ) (l : ListView) (d : Bench) (went : Option ListStatus) (d' : Bench) : Type 0 where
  pub there : place < length d.filters
  pub housed : place < length d.pools
  pub setup : IsSome (filter_at d.filters (Some place)).setup
  pub state : FilterState
  pub pool : PoolView
  pub visits : Visits f l (filter_at d.filters (Some place)) d.tray (pool_at d.pools (Some place)) went state d'.tray pool
  pub filters : d'.filters ≡ slice_set d.filters place state
  pub pools : d'.pools ≡ slice_set d.pools place pool
