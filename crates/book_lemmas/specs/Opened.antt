-- A book as it is opened.
use Rattle.std.specs.Prelude.{◌≡◌, ℕ, ◌<◌, [], Some, None, All, length, slice_index_or}
use Rattle.ndis_base.specs.declared.ModuleId.{ModuleId}
use Rattle.buffer_pools.specs.Views.{live_count}
use Rattle.stack_rules.specs.Heads.{kind_of_binding}
use Rattle.stack_rules.specs.Net.{Net}
use Rattle.state_laws.specs.Laws.{IsThere}
use Rattle.book_lemmas.specs.Views.{HeldView, no_protocol, IsPlace, filter_at, kept_of, held_pool}
use Rattle.book_lemmas.specs.Stands.{IsPoolOf, IsResting, IsClosed}

-- what is held as a book is opened: nothing is kept, no filter is attached, and no driver is set up
pub record IsOpened (net : Net) (held : HeldView) : Type 0 where
  pub seats : held.seats ≡ []
  pub shelf : All (IsPlace held) held.shelf
  pub kept : (m : ModuleId) → kept_of held m ≡ []
  pub empty : (m : ModuleId) → live_count (held_pool held m) ≡ 0
  pub pools : (m : ModuleId) → IsThere net m → IsPoolOf net m (held_pool held m)
  pub miniport_kind : held.miniport.kind ≡ net.head.kind
  pub protocol_kinds : (i : ℕ) → i < length net.head.bindings → (slice_index_or held.protocols i no_protocol).kind ≡ kind_of_binding net.head i
  pub protocols : length held.protocols ≡ length net.head.bindings
  pub protocol_pools : length held.protocol_pools ≡ length net.head.bindings
  pub resting : (place : ℕ) → IsResting (filter_at held.filters (Some place))
  pub port : held.miniport.port ≡ None
  pub closed : All IsClosed held.protocols
