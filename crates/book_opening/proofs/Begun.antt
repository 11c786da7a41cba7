-- A stack as it is opened stands.
use Rattle.std.proofs.Common.{◌≡◌, ℕ, zero, suc, ◌+◌, ◌<◌, ◌≤◌, List, [], ◌∷◌, Some, None, All, length, map, replicate, slice_index_or, refl, sym, ap, ◌∙◌, subst, arith}
use Rattle.std.proofs.lemmas.List.{length-map, length-replicate}
use Rattle.std.proofs.lemmas.List.Elements.{All-nil, All-cons, All-head, All-tail, All-weaker}
use Rattle.ndis_base.specs.declared.FilterKind.{FilterKind}
use Rattle.ndis_base.specs.declared.ModuleId.{ModuleId}
use Rattle.ndis_base.specs.declared.ModuleId.TheVariants.{Miniport, Filter, Binding}
use Rattle.ndis_base.specs.declared.ProtocolKind.{ProtocolKind}
use Rattle.ndis_base.specs.declared.ProtocolKind.TheVariants as protocol_kind
use Rattle.journal_types.specs.declared.StackHead.{StackHead}
use Rattle.buffer_pools.specs.Views.{PoolView, live_count}
use Rattle.stack_rules.specs.Heads.{kind_of_binding}
use Rattle.stack_rules.specs.declared.Attached.{Attached}
use Rattle.stack_rules.specs.Net.{Net, start, attached, after_rows, seen}
use Rattle.stack_rules.specs.Sound.{Sound}
use Rattle.state_laws.specs.Laws.{IsThere}
use Rattle.promise_rules.specs.Drivers.{places_from, shelf_of}
use Rattle.driver_views.specs.States.{FilterState}
use Rattle.driver_tray.specs.Tray.{TrayView, IsNew, begun_by}
use Rattle.book_lemmas.specs.Views.{HeldView, IsPlace, no_pool, no_filter, no_protocol, filter_at, pool_at, seat_of, kept_of, held_pool}
use Rattle.book_lemmas.specs.Stands.{Stands, IsPoolOf, IsResting, IsClosed}
use Rattle.book_lemmas.specs.Opened.{IsOpened}
use Rattle.book_lemmas.proofs.Opening.{stands_start}
use Rattle.book_opening.specs.Opened.{pool_for, kind_of, IsHaltedDriver, IsClosedDriver, IsOpenedBook, HasParts}
use Rattle.book_opening.specs.declared.opening.Beginning.{Beginning}

-- what is held as a stack begins
pub record Holds (head : StackHead) (h : HeldView) : Type 0 where
  pub shelf : h.shelf ≡ places_from 0 (map kind_of h.filters)
  pub seats : h.seats ≡ []
  pub miniport_pool : h.miniport_pool ≡ record { size = head.port.pool; bytes = 1518; slots = [] }
  pub protocol_pools : h.protocol_pools ≡ map pool_for head.bindings
  pub filter_pools : h.filter_pools ≡ replicate (length h.filters) no_pool
  pub miniport_kind : h.miniport.kind ≡ head.kind
  pub protocol_kinds : (i : ℕ) → i < length head.bindings → (slice_index_or h.protocols i no_protocol).kind ≡ kind_of_binding head i
  pub protocols : length h.protocols ≡ length head.bindings
  pub miniport : IsHaltedDriver h.miniport
  pub closed : All IsClosedDriver h.protocols
  pub resting : All IsResting h.filters

-- what an element has that each has, and that the default has
all_or : {X : Type 0} (P : X → Type 0) (xs : List X) (d : X) (i : ℕ) → P d → All P xs → P (slice_index_or xs i d)
all_or P [] d i p all = p
all_or P (x ∷ xs) d zero p all = All-head P x xs all
all_or P (x ∷ xs) d (suc i) p all = all_or P xs d i p (All-tail P x xs all)

pool_index : (bs : List (ProtocolKind × ℕ)) (i : ℕ) → i < length bs → slice_index_or (map pool_for bs) i no_pool ≡ pool_for (slice_index_or bs i (protocol_kind.Log, 0))
pool_index [] i h = absurd (omega (arith, h))
pool_index (b ∷ bs) zero h = refl
pool_index (b ∷ bs) (suc i) h = pool_index bs i (omega (arith, h))

empty_pool : (bs : List (ProtocolKind × ℕ)) (i : ℕ) → live_count (slice_index_or (map pool_for bs) i no_pool) ≡ 0
empty_pool [] i = refl
empty_pool (b ∷ bs) zero = refl
empty_pool (b ∷ bs) (suc i) = empty_pool bs i

-- the places are below the count
places_below : (kinds : List FilterKind) (first n : ℕ) → first + length kinds ≤ n → All (λ p. p < n) (places_from first kinds)
places_below [] first n h = All-nil (λ p. p < n)
places_below (k ∷ ks) first n h =
    let more : length (k ∷ ks) ≡ length ks + 1 = omega arith in
    All-cons (λ p. p < n) first (places_from (first + 1) ks) (omega (arith, h, more)) (places_below ks (first + 1) n (omega (arith, h, more)))

opened_held : (head : StackHead) (h : HeldView) → Holds head h → IsOpened (start head) h
opened_held head h o = record {
  seats = o.seats;
  shelf = subst (All (IsPlace h)) (sym o.shelf)
      (All-weaker (λ p. p < length h.filters) (IsPlace h)
      (λ p within. record { driver = within; pool = subst (λ n. p < n) (sym (ap length o.filter_pools ∙ length-replicate (length h.filters) no_pool)) within })
      (places_from 0 (map kind_of h.filters))
      (places_below (map kind_of h.filters) 0 (length h.filters) (omega (arith, length-map h.filters kind_of))));
  kept = kept;
  empty = empty;
  pools = pools;
  miniport_kind = o.miniport_kind;
  protocol_kinds = o.protocol_kinds;
  protocols = o.protocols;
  protocol_pools = ap length o.protocol_pools ∙ length-map head.bindings pool_for;
  resting = λ place. all_or IsResting h.filters no_filter place (record { setup = refl; kept = refl }) o.resting;
  port = o.miniport.port;
  closed = All-weaker IsClosedDriver IsClosed (λ s c. c.closed) h.protocols o.closed;
}
  where
    kept : (m : ModuleId) → kept_of h m ≡ []
    kept Miniport = o.miniport.kept
    kept (Filter f) = ap (λ seats. (filter_at h.filters (seat_of seats f)).kept) o.seats
    kept (Binding i) = all_or (λ s. s.kept ≡ []) h.protocols no_protocol i refl (All-weaker IsClosedDriver (λ s. s.kept ≡ []) (λ s c. c.kept) h.protocols o.closed)

    empty : (m : ModuleId) → live_count (held_pool h m) ≡ 0
    empty Miniport = ap live_count o.miniport_pool
    empty (Filter f) = ap (λ seats. live_count (pool_at h.filter_pools (seat_of seats f))) o.seats
    empty (Binding i) = ap (λ ps. live_count (slice_index_or ps i no_pool)) o.protocol_pools ∙ empty_pool head.bindings i

    nowhere : (f : ℕ) → IsThere (start head) (Filter f) → ⊥
    nowhere f there = cc

    pools : (m : ModuleId) → IsThere (start head) m → IsPoolOf (start head) m (held_pool h m)
    pools Miniport there = record { size = ap (λ (p : PoolView). p.size) o.miniport_pool; bytes = ap (λ (p : PoolView). p.bytes) o.miniport_pool }
    pools (Filter f) there = absurd (nowhere f there)
    pools (Binding i) there =
        let is : slice_index_or h.protocol_pools i no_pool ≡ pool_for (slice_index_or head.bindings i (protocol_kind.Log, 0)) =
        ap (λ ps. slice_index_or ps i no_pool) o.protocol_pools ∙ pool_index head.bindings i (subst (λ n. i < n) (length-replicate (length head.bindings) _) there) in
        record { size = ap (λ (p : PoolView). p.size) is; bytes = ap (λ (p : PoolView). p.bytes) is }

none_there : (a : Attached) → None ≡ Some a → ⊥
none_there a e = cc

pub opened_book : (head : StackHead) (t : TrayView) (h : HeldView) → 1 ≤ length head.bindings → IsNew head t → Holds head h → IsOpenedBook head (record { tray = t; held = h })
opened_book head t h bound n o = record {
  book = record {
    stands = subst (λ (q : Net). Stands q t.queue h []) (sym n.net) (subst (λ q. Stands (start head) q h []) (sym n.queue) (stands_start head h (opened_held head h o)));
    follows = record {
      state = n.net ∙ sym (ap (λ hd. seen hd []) n.head) ∙ ap (λ ts. seen t.head ts) (sym n.turns) ∙ ap (λ o. begun_by (seen t.head t.turns) o) (sym n.told_by) ∙ ap (λ rs. after_rows (begun_by (seen t.head t.turns) t.told_by) rs) (sym n.rows);
      sound = subst (Sound t.head) (sym n.turns) tt;
    };
    bound = subst (λ (hd : StackHead). 1 ≤ length hd.bindings) (sym n.head) bound;
  };
  idle = record { rows = n.rows; told_by = n.told_by };
  shelved = record {
    shelf = o.shelf ∙ ap (λ ts. (shelf_of (map kind_of h.filters) ts).places) (sym n.turns);
    seats = λ f a there. absurd (nobody f a there);
  };
  head_is = n.head;
  turns = n.turns;
}
  where
    nobody : (f : ℕ) (a : Attached) → attached f t.net.modules.filters ≡ Some a → ⊥
    nobody f a there = none_there a (ap (λ (q : Net). attached f q.modules.filters) (sym n.net) ∙ there)

-- what is held, by the parts with which it began
pub held_as : {F : Type 0} (head : StackHead) (f : F → FilterState) (h : HeldView) (b : Beginning) (given items : List F)
    → h.shelf ≡ b.shelf.items → h.seats ≡ b.seats.items → h.miniport_pool ≡ b.miniport_pool → h.protocol_pools ≡ b.protocol_pools.items → h.filter_pools ≡ b.filter_pools.items
    → h.filters ≡ map f items → given ≡ items → HasParts head (map f given) b → h.miniport.kind ≡ head.kind → ((i : ℕ) → i < length head.bindings → (slice_index_or h.protocols i no_protocol).kind ≡ kind_of_binding head i) → IsHaltedDriver h.miniport → All IsClosedDriver h.protocols → length h.protocols ≡ length head.bindings → All IsResting (map f items) → Holds head h
held_as head f h b given items e_shelf e_seats e_pool e_pools e_filter_pools e_filters same p kind kinds halted closed count resting = record {
  shelf = e_shelf ∙ p.shelf ∙ ap (λ xs. places_from 0 (map kind_of (map f xs))) same ∙ ap (λ ss. places_from 0 (map kind_of ss)) (sym e_filters);
  seats = e_seats ∙ p.seats;
  miniport_pool = e_pool ∙ p.miniport_pool;
  protocol_pools = e_pools ∙ p.protocol_pools;
  filter_pools = e_filter_pools ∙ p.filter_pools ∙ ap (λ xs. replicate (length (map f xs)) no_pool) same ∙ ap (λ (ss : List FilterState). replicate (length ss) no_pool) (sym e_filters);
  miniport_kind = kind;
  protocol_kinds = kinds;
  protocols = count;
  miniport = halted;
  closed = closed;
  resting = subst (All IsResting) (sym e_filters) resting;
}

-- an empty shelf rests
pub none_rest : {F : Type 0} (f : F → FilterState) (fs gs : List F) → fs ≡ gs → gs ≡ [] → All IsResting (map f fs)
none_rest f fs gs same none = subst (λ xs. All IsResting (map f xs)) (sym none ∙ sym same) (All-nil IsResting)
