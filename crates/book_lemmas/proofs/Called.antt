-- A driver was called with its pool: hands, frames and places are those that the call left, and no other module's.
use Rattle.std.proofs.Common.{◌≡◌, ℕ, ◌<◌, List, Some, length, slice_index_or, slice_set, length-set, refl, sym, ap, ◌∙◌, subst, All, get_or-set_same, get_or-set_other, ◌⊎◌, inl, inr}
use Rattle.std.proofs.lemmas.Bool.{cases_eq}
use Rattle.ndis_base.specs.declared.ModuleId.{ModuleId}
use Rattle.ndis_base.specs.declared.ModuleId.TheVariants.{Miniport, Filter, Binding}
use Rattle.buffer_pools.specs.Views.{ListView, PoolView}
use Rattle.stack_rules.specs.Net.{Net}
use Rattle.agenda_items.specs.declared.Carried.{Carried}
use Rattle.driver_views.specs.States.{FilterState, MiniportState, ProtocolState}
use Rattle.hand_lemmas.specs.Hands.{IsSame, put_at}
use Rattle.hand_lemmas.proofs.Modules.{at_each}
use Rattle.book_lemmas.specs.Views.{HeldView, no_filter, no_protocol, filter_at, seat_of, kept_of, held_pool, hands_of}
use Rattle.book_lemmas.specs.Stands.{Stands, AllSized, IsSized, IsCarriedSized}
use Rattle.book_lemmas.specs.Leaves.{Leaves}
use Rattle.book_lemmas.specs.Called.{SitsAt, IsCalled, filter_called, miniport_called, protocol_called}
use Rattle.book_lemmas.proofs.Seats.{filter_kept, filter_pooled, protocol_kept, protocol_pooled}

-- a filter that has a place in a book that stands sits there
pub sits_at : {net : Net} {queue : List Carried} {held : HeldView} {loose : List ListView} → Stands net queue held loose → (f place : ℕ) → seat_of held.seats f ≡ Some place → SitsAt held f place
sits_at s f place seat = record { apart = s.apart; seat = seat; is = s.places f place seat }

-- what each module keeps, and its pool
pub filter_is_called : (held : HeldView) (f place : ℕ) (s : FilterState) (pool : PoolView) → SitsAt held f place → IsCalled held (filter_called held place s pool) (Filter f) s.kept pool
filter_is_called held f place s pool sits = record { kept_is = kept; pool_is = pools }
  where
    kept : (k : ModuleId) → kept_of (filter_called held place s pool) k ≡ put_at (Filter f) s.kept (kept_of held) k
    kept Miniport = refl
    kept (Filter g) = filter_kept held f place s sits.apart sits.seat sits.is.driver (Filter g)
    kept (Binding i) = refl

    pools : (k : ModuleId) → held_pool (filter_called held place s pool) k ≡ put_at (Filter f) pool (held_pool held) k
    pools Miniport = refl
    pools (Filter g) = filter_pooled held f place pool sits.apart sits.seat sits.is.pool (Filter g)
    pools (Binding i) = refl

pub miniport_is_called : (held : HeldView) (s : MiniportState) (pool : PoolView) → IsCalled held (miniport_called held s pool) Miniport s.kept pool
miniport_is_called held s pool = record { kept_is = kept; pool_is = pools }
  where
    kept : (k : ModuleId) → kept_of (miniport_called held s pool) k ≡ put_at Miniport s.kept (kept_of held) k
    kept Miniport = refl
    kept (Filter g) = refl
    kept (Binding i) = refl

    pools : (k : ModuleId) → held_pool (miniport_called held s pool) k ≡ put_at Miniport pool (held_pool held) k
    pools Miniport = refl
    pools (Filter g) = refl
    pools (Binding i) = refl

pub protocol_is_called : (held : HeldView) (i : ℕ) (s : ProtocolState) (pool : PoolView) → i < length held.protocols → i < length held.protocol_pools → IsCalled held (protocol_called held i s pool) (Binding i) s.kept pool
protocol_is_called held i s pool within there = record { kept_is = kept; pool_is = pools }
  where
    kept : (k : ModuleId) → kept_of (protocol_called held i s pool) k ≡ put_at (Binding i) s.kept (kept_of held) k
    kept Miniport = refl
    kept (Filter g) = refl
    kept (Binding j) = protocol_kept held i s within (Binding j)

    pools : (k : ModuleId) → held_pool (protocol_called held i s pool) k ≡ put_at (Binding i) pool (held_pool held) k
    pools Miniport = refl
    pools (Filter g) = refl
    pools (Binding j) = protocol_pooled held i pool there (Binding j)

-- so these are the hands after the call
pub called_hands : {old new : HeldView} {m : ModuleId} {kept : List ListView} {pool : PoolView} (queue : List Carried) (loose : List ListView) → IsCalled old new m kept pool
    → IsSame (record { queue = queue; loose = loose; kept = put_at m kept (kept_of old); pools = put_at m pool (held_pool old) }) (hands_of queue new loose)
called_hands queue loose c = record { queue = refl; loose = refl; kept = λ k. sym (c.kept_is k); pools = λ k. sym (c.pool_is k) }

-- and all lists in hand have frames of the right sizes where those of the module do
pub called_sized : {old new : HeldView} {m : ModuleId} {kept : List ListView} {pool : PoolView} {queue : List Carried} {loose : List ListView} → IsCalled old new m kept pool → ((k : ModuleId) → All IsSized (kept_of old k))
    → All IsSized kept → All IsCarriedSized queue → All IsSized loose → AllSized queue new loose
called_sized {old} {new} {m} {kept} c all own carried loose = record {
  carried = carried;
  loose_sized = loose;
  kept = λ k. subst (All IsSized) (sym (c.kept_is k)) (at_each (λ k ls. All IsSized ls) m kept (kept_of old) own (λ k other. all k) k);
}

-- the pools have their sizes
pub called_pool : {X : Type 0} (get : PoolView → X) {old new : HeldView} {m : ModuleId} {kept : List ListView} {pool : PoolView} → IsCalled old new m kept pool → get pool ≡ get (held_pool old m)
    → (k : ModuleId) → get (held_pool new k) ≡ get (held_pool old k)
called_pool get {old} {new} {m} {kept} {pool} c same k = ap get (c.pool_is k) ∙ at_each (λ k p. get p ≡ get (held_pool old k)) m pool (held_pool old) same (λ k other. refl) k

-- what the filter at a place has still is the same everywhere
filter_still : {X : Type 0} (get : FilterState → X) (filters : List FilterState) (place : ℕ) (s : FilterState) → place < length filters → get s ≡ get (filter_at filters (Some place))
    → (q : ℕ) → (q ≡ place) ⊎ (q ≡ place → ⊥) → get (filter_at (slice_set filters place s) (Some q)) ≡ get (filter_at filters (Some q))
filter_still get filters place s within same q (inl e) =
    ap (λ k. get (filter_at (slice_set filters place s) (Some k))) e ∙ ap get (get_or-set_same filters place s no_filter within) ∙ same ∙ ap (λ k. get (filter_at filters (Some k))) (sym e)
filter_still get filters place s within same q (inr ne) = ap get (get_or-set_other filters place q s no_filter ne)

-- a call that attaches, opens and sets up nothing
pub filter_leaves : (held : HeldView) (f place : ℕ) (s : FilterState) (pool : PoolView) → SitsAt held f place → s.kind ≡ (filter_at held.filters (Some place)).kind → s.setup ≡ (filter_at held.filters (Some place)).setup
    → pool.size ≡ (held_pool held (Filter f)).size → pool.bytes ≡ (held_pool held (Filter f)).bytes → Leaves held (filter_called held place s pool)
filter_leaves held f place s pool sits kind setup size bytes = record {
  seats = refl;
  shelf = refl;
  port = refl;
  miniport_kind = refl;
  protocol_kinds = λ i. refl;
  protocols = refl;
  drivers = length-set held.filters place s;
  opened = λ i. refl;
  kinds = λ q. filter_still (λ (x : FilterState). x.kind) held.filters place s sits.is.driver kind q (cases_eq q place);
  setups = λ q. filter_still (λ (x : FilterState). x.setup) held.filters place s sits.is.driver setup q (cases_eq q place);
  resting = λ q none. get_or-set_other held.filters place q s no_filter (λ e. none f (sits.seat ∙ ap Some (sym e)));
  protocol_pools = refl;
  filter_pools = length-set held.filter_pools place pool;
  sizes = called_pool (λ (p : PoolView). p.size) (filter_is_called held f place s pool sits) size;
  bytes = called_pool (λ (p : PoolView). p.bytes) (filter_is_called held f place s pool sits) bytes;
}

pub miniport_leaves : (held : HeldView) (s : MiniportState) (pool : PoolView) → s.kind ≡ held.miniport.kind → s.port ≡ held.miniport.port → pool.size ≡ held.miniport_pool.size → pool.bytes ≡ held.miniport_pool.bytes
    → Leaves held (miniport_called held s pool)
miniport_leaves held s pool kind port size bytes = record {
  seats = refl;
  shelf = refl;
  port = port;
  miniport_kind = kind;
  protocol_kinds = λ i. refl;
  protocols = refl;
  drivers = refl;
  opened = λ i. refl;
  kinds = λ q. refl;
  setups = λ q. refl;
  resting = λ q none. refl;
  protocol_pools = refl;
  filter_pools = refl;
  sizes = called_pool (λ (p : PoolView). p.size) (miniport_is_called held s pool) size;
  bytes = called_pool (λ (p : PoolView). p.bytes) (miniport_is_called held s pool) bytes;
}

protocol_still : {X : Type 0} (get : ProtocolState → X) (protocols : List ProtocolState) (i : ℕ) (s : ProtocolState) → i < length protocols → get s ≡ get (slice_index_or protocols i no_protocol)
    → (j : ℕ) → (j ≡ i) ⊎ (j ≡ i → ⊥) → get (slice_index_or (slice_set protocols i s) j no_protocol) ≡ get (slice_index_or protocols j no_protocol)
protocol_still get protocols i s within same j (inl e) =
    ap (λ k. get (slice_index_or (slice_set protocols i s) k no_protocol)) e ∙ ap get (get_or-set_same protocols i s no_protocol within) ∙ same
    ∙ ap (λ k. get (slice_index_or protocols k no_protocol)) (sym e)
protocol_still get protocols i s within same j (inr ne) = ap get (get_or-set_other protocols i j s no_protocol ne)

pub protocol_leaves : (held : HeldView) (i : ℕ) (s : ProtocolState) (pool : PoolView) → i < length held.protocols → i < length held.protocol_pools → s.kind ≡ (slice_index_or held.protocols i no_protocol).kind → s.is_open ≡ (slice_index_or held.protocols i no_protocol).is_open
    → pool.size ≡ (held_pool held (Binding i)).size → pool.bytes ≡ (held_pool held (Binding i)).bytes → Leaves held (protocol_called held i s pool)
protocol_leaves held i s pool within there kind same size bytes = record {
  seats = refl;
  shelf = refl;
  port = refl;
  miniport_kind = refl;
  protocol_kinds = λ j. protocol_still (λ (x : ProtocolState). x.kind) held.protocols i s within kind j (cases_eq j i);
  protocols = length-set held.protocols i s;
  drivers = refl;
  opened = λ j. protocol_still (λ (x : ProtocolState). x.is_open) held.protocols i s within same j (cases_eq j i);
  kinds = λ q. refl;
  setups = λ q. refl;
  resting = λ q none. refl;
  protocol_pools = length-set held.protocol_pools i pool;
  filter_pools = refl;
  sizes = called_pool (λ (p : PoolView). p.size) (protocol_is_called held i s pool within there) size;
  bytes = called_pool (λ (p : PoolView). p.bytes) (protocol_is_called held i s pool within there) bytes;
}
