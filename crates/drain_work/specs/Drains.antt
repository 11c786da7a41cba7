-- What a drain does where nothing is on its way.
use Rattle.std.specs.Prelude.{ℕ, ◌≡◌, ◌≢◌, ◌≤◌, ◌*◌, Bool, true, false, List, [], ◌++◌, map, drop, is_some}
use Rattle.ndis_base.specs.declared.ModuleId.{ModuleId}
use Rattle.ndis_base.specs.declared.Phase.TheVariants as phase
use Rattle.journal_types.specs.declared.Row.{Row}
use Rattle.buffer_pools.specs.Views.{PoolView}
use Rattle.flat_journal.specs.Rooms.{Covers}
use Rattle.stack_rules.specs.Drains.{returns_all, passes_all, first_rows, drained, drain_outcome}
use Rattle.stack_rules.specs.Heads.{numbers_from, binding_numbers}
use Rattle.stack_rules.specs.Net.{Net}
use Rattle.stack_rules.specs.Sends.{transmit_outcome}
use Rattle.driver_tray.specs.Tray.{TrayView, first_way}
use Rattle.book_lemmas.specs.Views.{BookView}
use Rattle.book_parts.specs.Events.{IsBook, IsIdle, CanEnd}
use Rattle.book_parts.proofs.Events.{Begins, Ends}

-- only room was made
pub record IsRoomed (t t' : TrayView) : Type 0 where
  pub same : t' ≡ record t { room = t'.room; slack = t'.slack }
  pub covers : Covers t'.room t.room
  pub slack : t.slack ≤ t'.slack

-- there is room for a turn in which a module that keeps so many lists gives all away
pub record IsReadyFor (kept : ℕ) (t : TrayView) : Type 0 where
  pub turns : 1 ≤ t.room.turns
  pub rows : 2 * kept ≤ t.room.rows
  pub slack : kept ≤ t.slack

-- the tray while a module is called, with its pool
abbrev pub called_with : TrayView → ModuleId → PoolView → TrayView
called_with t m pool = record t { caller = m; pool = pool }

-- a module did so with its pool in the tray, and the pool is out again; it is told whether anything is on its way then
pub record Ticks (m : ModuleId) (Does : TrayView → TrayView → Type 0) (t : TrayView) (pool : PoolView) (moved : Bool) (t' : TrayView) (pool' : PoolView) : Type 0 where
  pub left : TrayView
  pub does : Does (called_with t m pool) left
  pub tray : t' ≡ record left { pool = t.pool }
  pub pool_is : pool' ≡ left.pool
  pub moved_is : moved ≡ is_some (first_way left.queue)

-- the same, once room was made
pub record TicksRoomed (m : ModuleId) (Does : TrayView → TrayView → Type 0) (t : TrayView) (pool : PoolView) (moved : Bool) (t' : TrayView) (pool' : PoolView) : Type 0 where
  pub begun : TrayView
  pub roomed : IsRoomed t begun
  pub turns : 1 ≤ begun.room.turns
  pub ticks : Ticks m Does begun pool moved t' pool'

-- a book between turns, of a stack that isn't Halted, in which nothing is on its way
pub record IsResting (v : BookView) : Type 0 where
  pub book : IsBook v
  pub idle : IsIdle v
  pub quiet : v.tray.queue ≡ []
  pub live : v.tray.net.phase ≢ phase.Halted

-- the book is as it was, but for room and for which module was called last
pub record IsSame (old new : BookView) : Type 0 where
  pub tray : Begins old.tray new.tray []
  pub held : new.held ≡ old.held

-- these rows were written, and they are some
pub record Gave (old new : BookView) (rows : List Row) : Type 0 where
  pub some : rows ≢ []
  pub ends : Ends old new rows
  pub turn : CanEnd new
  pub shelf : new.held.shelf ≡ old.held.shelf
  pub seats : new.held.seats ≡ old.held.seats

-- modules gave their ready lists away by these rows; where there are none, nothing was moved
pub record Gives (old new : BookView) (rows : List Row) (moved : Bool) : Type 0 where
  pub none : moved ≡ false → rows ≡ []
  pub still : moved ≡ false → IsSame old new
  pub gave : moved ≡ true → Gave old new rows

-- the rows of the first retain protocol from a binding on, those of the first hold filter from a place on, and those
-- of the first of all these
abbrev pub returned_from : Net → ℕ → List Row
returned_from net binding = first_rows (map (returns_all net) (numbers_from binding (drop binding net.head.bindings)))

abbrev pub passed_from : Net → ℕ → List Row
passed_from net index = first_rows (map (passes_all net) (drop index net.modules.order))

abbrev pub given_rows : Net → List Row
given_rows net = first_rows (map (returns_all net) (binding_numbers net.head) ++ map (passes_all net) net.modules.order)

-- a drain does what a transmission does, but for its answer
pub record DrainsRing (v : BookView) : Type 0 where
  pub outcome : (keeps : Bool) → drain_outcome v.tray.net keeps ≡ drained (transmit_outcome v.tray.net).rows
