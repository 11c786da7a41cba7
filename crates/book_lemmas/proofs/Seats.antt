-- A driver that is called at its place changes what its own module keeps and its pool, and no other module.
use Rattle.std.proofs.Common.{◌≡◌, ℕ, ◌<◌, ◌==◌, cond, List, Option, Some, None, length, slice_index_or, slice_set, refl, sym, ap, ◌∙◌, get_or-set_same, get_or-set_other, eq-eqb, ne_eqb, ◌⊎◌, inl, inr}
use Rattle.std.proofs.lemmas.Bool.{cond-true, cond-false, cases_eq}
use Rattle.ndis_base.specs.declared.ModuleId.{ModuleId}
use Rattle.ndis_base.specs.declared.ModuleId.TheVariants.{Miniport, Filter, Binding}
use Rattle.buffer_pools.specs.Views.{ListView, PoolView}
use Rattle.stack_rules.specs.Net.{Net}
use Rattle.agenda_items.specs.declared.Carried.{Carried}
use Rattle.hand_lemmas.specs.Hands.{Agrees, put_at}
use Rattle.hand_lemmas.proofs.Rows.{agrees_same}
use Rattle.book_lemmas.specs.Views.{HeldView, no_filter, no_protocol, no_pool, filter_at, pool_at, seat_of, kept_of, held_pool, hands_of}
use Rattle.driver_views.specs.States.{FilterState, MiniportState, ProtocolState}
use Rattle.book_lemmas.specs.Stands.{SeatsApart}

-- what is read at a place after another value was put at one
filter_set : (filters : List FilterState) (place : ℕ) (s : FilterState) (o : Option ℕ) → place < length filters → (o ≡ Some place → ⊥) → filter_at (slice_set filters place s) o ≡ filter_at filters o
filter_set filters place s None within other = refl
filter_set filters place s (Some q) within other = get_or-set_other filters place q s no_filter (λ e. other (ap Some e))

-- the filter at a place was called
filter_kept_by : (held : HeldView) (f place : ℕ) (s : FilterState) → SeatsApart held.seats → seat_of held.seats f ≡ Some place → place < length held.filters → (g : ℕ) → (g ≡ f) ⊎ (g ≡ f → ⊥)
    → (filter_at (slice_set held.filters place s) (seat_of held.seats g)).kept ≡ cond (g == f) s.kept (filter_at held.filters (seat_of held.seats g)).kept
filter_kept_by held f place s apart seat within g (inl e) =
    ap (λ k. (filter_at (slice_set held.filters place s) (seat_of held.seats k)).kept) e
    ∙ ap (λ o. (filter_at (slice_set held.filters place s) o).kept) seat
    ∙ ap (λ (x : FilterState). x.kept) (get_or-set_same held.filters place s no_filter within)
    ∙ sym (cond-true (g == f) s.kept (filter_at held.filters (seat_of held.seats g)).kept (eq-eqb g f e))
filter_kept_by held f place s apart seat within g (inr ne) =
    ap (λ (x : FilterState). x.kept) (filter_set held.filters place s (seat_of held.seats g) within (λ e. ne (apart g f place e seat)))
    ∙ sym (cond-false (g == f) s.kept (filter_at held.filters (seat_of held.seats g)).kept (ne_eqb g f ne))

pub filter_kept : (held : HeldView) (f place : ℕ) (s : FilterState) → SeatsApart held.seats → seat_of held.seats f ≡ Some place → place < length held.filters
    → (m : ModuleId) → kept_of (record held { filters = slice_set held.filters place s }) m ≡ put_at (Filter f) s.kept (kept_of held) m
filter_kept held f place s apart seat within Miniport = refl
filter_kept held f place s apart seat within (Filter g) = filter_kept_by held f place s apart seat within g (cases_eq g f)
filter_kept held f place s apart seat within (Binding i) = refl

-- the miniport was called
pub miniport_kept : (held : HeldView) (s : MiniportState) (m : ModuleId) → kept_of (record held { miniport = s }) m ≡ put_at Miniport s.kept (kept_of held) m
miniport_kept held s Miniport = refl
miniport_kept held s (Filter g) = refl
miniport_kept held s (Binding i) = refl

-- the protocol of a binding was called
protocol_kept_by : (held : HeldView) (i : ℕ) (s : ProtocolState) → i < length held.protocols → (j : ℕ) → (j ≡ i) ⊎ (j ≡ i → ⊥)
    → (slice_index_or (slice_set held.protocols i s) j no_protocol).kept ≡ cond (j == i) s.kept (slice_index_or held.protocols j no_protocol).kept
protocol_kept_by held i s within j (inl e) =
    ap (λ k. (slice_index_or (slice_set held.protocols i s) k no_protocol).kept) e
    ∙ ap (λ (x : ProtocolState). x.kept) (get_or-set_same held.protocols i s no_protocol within)
    ∙ sym (cond-true (j == i) s.kept (slice_index_or held.protocols j no_protocol).kept (eq-eqb j i e))
protocol_kept_by held i s within j (inr ne) =
    ap (λ (x : ProtocolState). x.kept) (get_or-set_other held.protocols i j s no_protocol ne)
    ∙ sym (cond-false (j == i) s.kept (slice_index_or held.protocols j no_protocol).kept (ne_eqb j i ne))

pub protocol_kept : (held : HeldView) (i : ℕ) (s : ProtocolState) → i < length held.protocols
    → (m : ModuleId) → kept_of (record held { protocols = slice_set held.protocols i s }) m ≡ put_at (Binding i) s.kept (kept_of held) m
protocol_kept held i s within Miniport = refl
protocol_kept held i s within (Filter g) = refl
protocol_kept held i s within (Binding j) = protocol_kept_by held i s within j (cases_eq j i)

-- a module's pool was changed: a filter's, at its place
pool_set : (pools : List PoolView) (place : ℕ) (p : PoolView) (o : Option ℕ) → (o ≡ Some place → ⊥) → pool_at (slice_set pools place p) o ≡ pool_at pools o
pool_set pools place p None other = refl
pool_set pools place p (Some q) other = get_or-set_other pools place q p no_pool (λ e. other (ap Some e))

filter_pooled_by : (held : HeldView) (f place : ℕ) (p : PoolView) → SeatsApart held.seats → seat_of held.seats f ≡ Some place → place < length held.filter_pools → (g : ℕ) → (g ≡ f) ⊎ (g ≡ f → ⊥)
    → pool_at (slice_set held.filter_pools place p) (seat_of held.seats g) ≡ cond (g == f) p (pool_at held.filter_pools (seat_of held.seats g))
filter_pooled_by held f place p apart seat within g (inl e) =
    ap (λ k. pool_at (slice_set held.filter_pools place p) (seat_of held.seats k)) e
    ∙ ap (pool_at (slice_set held.filter_pools place p)) seat
    ∙ get_or-set_same held.filter_pools place p no_pool within
    ∙ sym (cond-true (g == f) p (pool_at held.filter_pools (seat_of held.seats g)) (eq-eqb g f e))
filter_pooled_by held f place p apart seat within g (inr ne) =
    pool_set held.filter_pools place p (seat_of held.seats g) (λ e. ne (apart g f place e seat))
    ∙ sym (cond-false (g == f) p (pool_at held.filter_pools (seat_of held.seats g)) (ne_eqb g f ne))

pub filter_pooled : (held : HeldView) (f place : ℕ) (p : PoolView) → SeatsApart held.seats → seat_of held.seats f ≡ Some place → place < length held.filter_pools
    → (m : ModuleId) → held_pool (record held { filter_pools = slice_set held.filter_pools place p }) m ≡ put_at (Filter f) p (held_pool held) m
filter_pooled held f place p apart seat within Miniport = refl
filter_pooled held f place p apart seat within (Filter g) = filter_pooled_by held f place p apart seat within g (cases_eq g f)
filter_pooled held f place p apart seat within (Binding i) = refl

-- the miniport's
pub miniport_pooled : (held : HeldView) (p : PoolView) (m : ModuleId) → held_pool (record held { miniport_pool = p }) m ≡ put_at Miniport p (held_pool held) m
miniport_pooled held p Miniport = refl
miniport_pooled held p (Filter g) = refl
miniport_pooled held p (Binding i) = refl

-- a binding's
protocol_pooled_by : (held : HeldView) (i : ℕ) (p : PoolView) → i < length held.protocol_pools → (j : ℕ) → (j ≡ i) ⊎ (j ≡ i → ⊥)
    → slice_index_or (slice_set held.protocol_pools i p) j no_pool ≡ cond (j == i) p (slice_index_or held.protocol_pools j no_pool)
protocol_pooled_by held i p within j (inl e) =
    ap (λ k. slice_index_or (slice_set held.protocol_pools i p) k no_pool) e
    ∙ get_or-set_same held.protocol_pools i p no_pool within
    ∙ sym (cond-true (j == i) p (slice_index_or held.protocol_pools j no_pool) (eq-eqb j i e))
protocol_pooled_by held i p within j (inr ne) =
    get_or-set_other held.protocol_pools i j p no_pool ne
    ∙ sym (cond-false (j == i) p (slice_index_or held.protocol_pools j no_pool) (ne_eqb j i ne))

pub protocol_pooled : (held : HeldView) (i : ℕ) (p : PoolView) → i < length held.protocol_pools
    → (m : ModuleId) → held_pool (record held { protocol_pools = slice_set held.protocol_pools i p }) m ≡ put_at (Binding i) p (held_pool held) m
protocol_pooled held i p within Miniport = refl
protocol_pooled held i p within (Filter g) = refl
protocol_pooled held i p within (Binding j) = protocol_pooled_by held i p within j (cases_eq j i)

-- so the rest of what is held need only agree with the hands in which this module's list is put
pub called_filter : (held : HeldView) (f place : ℕ) (s : FilterState) (loose : List ListView) (net : Net) (queue : List Carried) → SeatsApart held.seats → seat_of held.seats f ≡ Some place → place < length held.filters
    → Agrees net (record { queue = queue; loose = loose; kept = put_at (Filter f) s.kept (kept_of held); pools = held_pool held })
    → Agrees net (hands_of queue (record held { filters = slice_set held.filters place s }) loose)
called_filter held f place s loose net queue apart seat within g =
    let after : HeldView = record held { filters = slice_set held.filters place s } in
    agrees_same net (record { queue = queue; loose = loose; kept = put_at (Filter f) s.kept (kept_of held); pools = held_pool held }) (hands_of queue after loose)
    (record { queue = refl; loose = refl; kept = λ m. sym (filter_kept held f place s apart seat within m); pools = λ m. same_pools m }) g
  where
    same_pools : (m : ModuleId) → held_pool held m ≡ held_pool (record held { filters = slice_set held.filters place s }) m
    same_pools Miniport = refl
    same_pools (Filter g) = refl
    same_pools (Binding i) = refl
