-- Filters sit at other places than before, while no list is live.
use Rattle.std.specs.Prelude.{◌≡◌, ℕ, true, [], Some, All, length, slice_index_or}
use Rattle.ndis_base.specs.declared.ModuleId.TheVariants.{Filter}
use Rattle.buffer_pools.specs.Views.{live_count}
use Rattle.stack_rules.specs.declared.Attached.{Attached}
use Rattle.stack_rules.specs.Net.{Net, attached}
use Rattle.stack_rules.specs.Rewires.{is_in}
use Rattle.book_lemmas.specs.Views.{HeldView, no_protocol, filter_at, seat_of, IsVacant, IsPlace, IsOnShelf, held_pool, kept_of}
use Rattle.book_lemmas.specs.Stands.{IsPoolOf, IsSeated, SeatsApart, IsResting}

-- the stack has the same head, bindings and lists
pub record IsSameStack (net now : Net) : Type 0 where
  pub head : now.head ≡ net.head
  pub bindings : length now.modules.bindings ≡ length net.modules.bindings
  pub things : now.things ≡ net.things
  pub next : now.next.list ≡ net.next.list

-- the miniport and the protocols keep what they kept, and have their pools
pub record AreTheirs (old new : HeldView) : Type 0 where
  pub miniport_kind : new.miniport.kind ≡ old.miniport.kind
  pub miniport_kept : new.miniport.kept ≡ old.miniport.kept
  pub miniport_pool : new.miniport_pool ≡ old.miniport_pool
  pub protocol_kinds : (i : ℕ) → (slice_index_or new.protocols i no_protocol).kind ≡ (slice_index_or old.protocols i no_protocol).kind
  pub protocols_kept : (i : ℕ) → (slice_index_or new.protocols i no_protocol).kept ≡ (slice_index_or old.protocols i no_protocol).kept
  pub protocols : length new.protocols ≡ length old.protocols
  pub protocol_pools : new.protocol_pools ≡ old.protocol_pools

-- the filters that are attached sit at their places with their pools, and keep nothing
pub record AreSeated (now : Net) (held : HeldView) : Type 0 where
  pub kept : (f : ℕ) → kept_of held (Filter f) ≡ []
  pub empty : (f : ℕ) → live_count (held_pool held (Filter f)) ≡ 0
  pub pools : (f : ℕ) → is_in f now.modules.order ≡ true → IsPoolOf now (Filter f) (held_pool held (Filter f))
  pub seated : (f : ℕ) (a : Attached) → attached f now.modules.filters ≡ Some a → IsSeated held a
  pub places : (f place : ℕ) → seat_of held.seats f ≡ Some place → IsPlace held place
  pub shelved : All (IsOnShelf held) held.shelf
  pub apart : SeatsApart held.seats
  pub resting : (place : ℕ) → IsVacant held.seats place → IsResting (filter_at held.filters (Some place))
