-- A lent list at the bindings (WDK, "Receiving Data in Protocol Drivers").
use Rattle.std.specs.Prelude.{◌≡◌, ℕ, ◌+◌, ◌≤◌, ◌<◌, true, false, List, [], ◌∷◌, length, slice_index_or}
use Rattle.ndis_base.specs.declared.ListStatus.{ListStatus}
use Rattle.ndis_base.specs.declared.ListStatus.TheVariants.{Success, Paused}
use Rattle.ndis_base.specs.declared.ModuleId.TheVariants.{Binding}
use Rattle.buffer_pools.specs.Views.{ListView, PoolView}
use Rattle.stack_rules.specs.Tests.{phase_is_running}
use Rattle.hand_lemmas.specs.Frames.{AreSized}
use Rattle.driver_tray.specs.Tray.{TrayView}
use Rattle.book_lemmas.specs.Views.{no_pool}
use Rattle.delivery_work.specs.Takers.{takers_from}
use Rattle.delivery_work.specs.Desks.{Desk, LendsAt, MayDeliver}
use Rattle.lend_work.specs.Visits.{refused}

-- the list was lent to a binding, and then so to others
pub record LendsOn (from b : ℕ) (l : ListView) (d : Desk) (so : Desk → Type 0) : Type 0 where
  pub above : from ≤ b
  pub mid : Desk
  pub lends : LendsAt b l d mid
  pub others : so mid

-- nothing was done
pub record IsSame (d d' : Desk) : Type 0 where
  pub same : d' ≡ d

-- it was lent to these bindings, in rising order, none below this one
abbrev pub LendsFrom : ListView → ℕ → List ℕ → Desk → Desk → Type 0
LendsFrom l from [] d d' = IsSame d d'
LendsFrom l from (b ∷ bs) d d' = LendsOn from b l d (λ mid. LendsFrom l (b + 1) bs mid d')

-- it may be lent to each binding from this one on
pub record MayLendFrom (from : ℕ) (l : ListView) (d : Desk) : Type 0 where
  pub sized : AreSized l.frames
  pub may : (b : ℕ) → from ≤ b → b < length d.protocols → MayDeliver b l d

-- the first binding turned it back, with its pool in the tray
abbrev pub turned_back_at : TrayView → PoolView → ListView → TrayView
turned_back_at t pool l = record (refused (record t { caller = Binding 0; pool = pool }) l Paused) { pool = t.pool }

-- it was lent to each binding that takes it, or turned back while the stack doesn't run; and goes home with a status
pub data Arrives (many : ℕ) (l : ListView) (d : Desk) (status : ListStatus) (d' : Desk) : Type 0 where
  lends : phase_is_running d.tray.net.phase ≡ true → LendsFrom l 0 (takers_from d.tray.net l.frames 0 many) d d' → status ≡ Success → Arrives many l d status d'
  stops : phase_is_running d.tray.net.phase ≡ false → d'.tray ≡ turned_back_at d.tray (slice_index_or d.pools 0 no_pool) l → d'.protocols ≡ d.protocols → d'.pools ≡ d.pools → status ≡ Paused
      → Arrives many l d status d'
