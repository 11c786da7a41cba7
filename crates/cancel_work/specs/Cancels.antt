-- Sends under an identifier are turned back by the modules that queue them, one module after the other.
use Rattle.std.specs.Prelude.{ℕ, ◌≡◌, ◌+◌, ◌*◌, ◌^◌, ◌≤◌, ◌<◌, false, List, [], ◌∷◌, ◌++◌, drop, filter, length, map, sum_by}
use Rattle.std.specs.List.{flat_map}
use Rattle.ndis_base.specs.declared.ModuleId.{ModuleId}
use Rattle.ndis_base.specs.declared.ModuleId.TheVariants.{Miniport, Filter}
use Rattle.buffer_pools.specs.Views.{ListView, PoolView}
use Rattle.stack_rules.specs.Cancels.{is_hold_filter, cancelled_at, cancel_rows_at}
use Rattle.stack_rules.specs.Net.{Modules}
use Rattle.stack_rules.specs.Tests.{same_module}
use Rattle.agenda_items.specs.Waits.{waits_at}
use Rattle.driver_views.specs.States.{FilterState, MiniportState}
use Rattle.driver_tray.specs.Tray.{TrayView}
use Rattle.driver_calls.specs.Filters.{Cancels}
use Rattle.book_lemmas.specs.Views.{BookView, HeldView, kept_of}
use Rattle.book_parts.specs.Events.{IsBook}
use Rattle.book_parts.proofs.Events.{Ends}
use Rattle.drain_work.specs.Drains.{called_with}

-- the modules that queue sends, from a place of the configuration on
abbrev pub queues_from : Modules → ℕ → List ModuleId
queues_from ms index = map Filter (filter (is_hold_filter ms) (drop index ms.order)) ++ Miniport ∷ []

-- how many lists these modules keep
abbrev pub kept_by : HeldView → List ModuleId → ℕ
kept_by held ms = sum_by (λ m. length (kept_of held m)) ms

-- a number that was counted, and is far from the largest one
pub record IsCounted (many n : ℕ) : Type 0 where
  pub is : n ≡ many
  pub low : n < 2 ^ 60

-- these modules may turn back all that they keep
pub record HasRoomToCancel (v : BookView) (ms : List ModuleId) : Type 0 where
  pub rows : 2 * kept_by v.held ms ≤ v.tray.room.rows
  pub slack : kept_by v.held ms ≤ v.tray.slack
  pub low : kept_by v.held ms < 2 ^ 60

-- a module turned back so many lists of those that it kept, called with its pool, and the pool is out again
pub record TurnsBack (m : ModuleId) (id : ℕ) (kept : List ListView) (t : TrayView) (pool : PoolView) (n : ℕ) (kept' : List ListView) (t' : TrayView) (pool' : PoolView) : Type 0 where
  pub left : TrayView
  pub cancels : Cancels kept id (called_with t m pool) kept' left
  pub tray : t' ≡ record left { pool = t.pool }
  pub pool_is : pool' ≡ left.pool
  pub count : n + length kept' ≡ length kept

-- so did a filter, and nothing else of it changed
pub record FilterTurns (f id : ℕ) (s : FilterState) (t : TrayView) (pool : PoolView) (n : ℕ) (s' : FilterState) (t' : TrayView) (pool' : PoolView) : Type 0 where
  pub same : s' ≡ record s { kept = s'.kept }
  pub turns : TurnsBack (Filter f) id s.kept t pool n s'.kept t' pool'

-- so did the miniport
pub record MiniportTurns (id : ℕ) (s : MiniportState) (t : TrayView) (pool : PoolView) (n : ℕ) (s' : MiniportState) (t' : TrayView) (pool' : PoolView) : Type 0 where
  pub same : s' ≡ record s { kept = s'.kept }
  pub turns : TurnsBack Miniport id s.kept t pool n s'.kept t' pool'

-- the rows of one module were written, which turned so many lists back; the others keep what they kept, and what waited
-- waits
pub record CancelledAt (old new : BookView) (id : ℕ) (m : ModuleId) (n : ℕ) : Type 0 where
  pub book : IsBook new
  pub ends : Ends old new (cancel_rows_at old.tray.net id m)
  pub count : n ≡ length (cancelled_at old.tray.net id m)
  pub most : n ≤ length (kept_of old.held m)
  pub others : (k : ModuleId) → same_module k m ≡ false → kept_of new.held k ≡ kept_of old.held k
  pub waits : (k : ℕ) → waits_at new.tray.net k ≡ waits_at old.tray.net k
  pub modules : new.tray.net.modules ≡ old.tray.net.modules
  pub rows : old.tray.room.rows ≤ new.tray.room.rows + 2 * n
  pub slack : old.tray.slack ≤ new.tray.slack + n
  pub shelf : new.held.shelf ≡ old.held.shelf
  pub seats : new.held.seats ≡ old.held.seats

-- the rows of these modules were written, as the rules have them for the state before the first row; they turned so
-- many lists back
pub record Cancelled (old new : BookView) (id : ℕ) (ms : List ModuleId) (n : ℕ) : Type 0 where
  pub ends : Ends old new (flat_map (cancel_rows_at old.tray.net id) ms)
  pub count : n ≡ length (flat_map (cancelled_at old.tray.net id) ms)
  pub most : n ≤ kept_by old.held ms
  pub shelf : new.held.shelf ≡ old.held.shelf
  pub seats : new.held.seats ≡ old.held.seats
