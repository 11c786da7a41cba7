-- The miniport indicates a list of its own.
use Rattle.std.specs.Prelude.{◌≡◌, ◌≢◌, ℕ, List, None}
use Rattle.ndis_base.specs.declared.Direction.TheVariants.{Up}
use Rattle.ndis_base.specs.declared.ModuleId.TheVariants.{Miniport}
use Rattle.buffer_pools.specs.Views.{PoolView, live_count}
use Rattle.journal_types.specs.declared.Refusal.TheVariants as refusal
use Rattle.flat_journal.specs.declared.types.FlatReply.{FlatReply}
use Rattle.flat_journal.specs.declared.types.FlatReply.TheVariants as flat_reply
use Rattle.stack_rules.specs.Outcome.{list_no}
use Rattle.book_lemmas.specs.Views.{BookView, HeldView}
use Rattle.binding_work.specs.Sends.{StartsFor}

-- only the miniport's pool changed
abbrev pub miniport_pooled : HeldView → PoolView → HeldView
miniport_pooled held pool = record held { miniport_pool = pool }

-- the miniport indicates, or its pool is full and all is as before
pub data Indicates (made : List (List ℕ)) (old new : BookView) : FlatReply → Type 0 where
  starts : StartsFor Miniport Up None made old.tray old.held.miniport_pool new.tray new.held.miniport_pool
      → live_count old.held.miniport_pool ≢ old.held.miniport_pool.size
      → new.held ≡ miniport_pooled old.held new.held.miniport_pool
      → Indicates made old new (flat_reply.Indicated (list_no old.tray.net.next.list))
  lacks : live_count old.held.miniport_pool ≡ old.held.miniport_pool.size
      → new.tray ≡ record old.tray { caller = Miniport } → new.held ≡ old.held
      → Indicates made old new (flat_reply.Refused refusal.NoList)
