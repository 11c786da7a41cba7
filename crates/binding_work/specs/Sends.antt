-- A binding begins a list of its own.
use Rattle.std.specs.Prelude.{◌≡◌, ◌≢◌, ℕ, ◌≤◌, List, Option, slice_set, slice_index_or}
use Rattle.ndis_base.specs.declared.Direction.{Direction}
use Rattle.ndis_base.specs.declared.Direction.TheVariants.{Down}
use Rattle.ndis_base.specs.declared.ModuleId.{ModuleId}
use Rattle.ndis_base.specs.declared.ModuleId.TheVariants.{Binding}
use Rattle.frame_arena.specs.declared.FrameSpan.{FrameSpan}
use Rattle.frame_arena.specs.Spans.{frames_at, SpanWithin}
use Rattle.buffer_pools.specs.Views.{PoolView, Fits, live_count}
use Rattle.journal_types.specs.declared.Refusal.TheVariants as refusal
use Rattle.flat_journal.specs.declared.types.FlatReply.{FlatReply}
use Rattle.flat_journal.specs.declared.types.FlatReply.TheVariants as flat_reply
use Rattle.stack_rules.specs.Outcome.{list_no}
use Rattle.book_lemmas.specs.Views.{BookView, HeldView, no_pool}
use Rattle.driver_tray.specs.Tray.{TrayView, IsLow, Starts}

-- the journal has the frames of the new list at a span, the pool's lists have room for them, and there is room in the tray
pub record MayStart (t : TrayView) (pool : PoolView) (made : List (List ℕ)) (span : FrameSpan) : Type 0 where
  pub fits : Fits made pool.bytes
  pub within : SpanWithin t.payloads.frames span
  pub shown : frames_at t.payloads.frames span ≡ made
  pub rows : 2 ≤ t.room.rows
  pub slack : 1 ≤ t.slack
  pub low : IsLow t.net

-- the tray while a module is called, with its pool
abbrev pub called_with : TrayView → ModuleId → PoolView → TrayView
called_with t m pool = record t { caller = m; pool = pool }

-- a new list of a module's pool is on its way
pub record StartsFor (m : ModuleId) (direction : Direction) (cancel : Option ℕ) (made : List (List ℕ)) (t : TrayView) (pool : PoolView) (t' : TrayView) (pool' : PoolView) : Type 0 where
  pub mid : TrayView
  pub starts : Starts (called_with t m pool) direction cancel made mid
  pub tray : t' ≡ record mid { pool = t.pool }
  pub pool_is : pool' ≡ mid.pool

-- only the pool of a binding changed
abbrev pub binding_pooled : HeldView → ℕ → PoolView → HeldView
binding_pooled held i pool = record held { protocol_pools = slice_set held.protocol_pools i pool }

-- the binding sends, or its pool is full and all is as before
pub data Sends (binding : ℕ) (cancel : Option ℕ) (made : List (List ℕ)) (old new : BookView) : FlatReply → Type 0 where
  starts : StartsFor (Binding binding) Down cancel made old.tray (slice_index_or old.held.protocol_pools binding no_pool) new.tray (slice_index_or new.held.protocol_pools binding no_pool)
      → live_count (slice_index_or old.held.protocol_pools binding no_pool) ≢ (slice_index_or old.held.protocol_pools binding no_pool).size
      → new.held ≡ binding_pooled old.held binding (slice_index_or new.held.protocol_pools binding no_pool)
      → Sends binding cancel made old new (flat_reply.Sent (list_no old.tray.net.next.list))
  lacks : live_count (slice_index_or old.held.protocol_pools binding no_pool) ≡ (slice_index_or old.held.protocol_pools binding no_pool).size
      → new.tray ≡ record old.tray { caller = Binding binding } → new.held ≡ old.held
      → Sends binding cancel made old new (flat_reply.Refused refusal.NoList)
