-- A protocol is called at its place, and its pool is at the same place.
use Rattle.std.proofs.Common.{◌≡◌, ℕ, ◌+◌, ◌-◌, ◌≤◌, ◌<◌, List, [], ◌∷◌, length, map, slice_index_or, slice_set, length-set, get_or-set_same, get_or-set_other, refl, sym, ap, ◌∙◌, subst, arith, ◌⊎◌, inl, inr}
use Rattle.std.specs.List.{All, AllWithin}
use Rattle.std.proofs.Math.Seq.{map-set}
use Rattle.std.proofs.lemmas.Bool.{cases_eq}
use Rattle.std.proofs.lemmas.List.{length-map}
use Rattle.buffer_pools.specs.Views.{ListView, PoolView}
use Rattle.hand_lemmas.specs.Frames.{AreSized}
use Rattle.driver_views.specs.States.{ProtocolState}
use Rattle.driver_tray.specs.Tray.{TrayView}
use Rattle.book_lemmas.specs.Views.{no_pool, no_protocol}
use Rattle.binding_work.specs.Owns.{Owns, Lends, MayLend, MayOwn}
use Rattle.binding_work.proofs.Homing.{old_at, place_is}
use Rattle.delivery_work.specs.Takers.{takers_from}
use Rattle.delivery_work.specs.Desks.{Desk, LendsAt, OwnsAt, Delivers, desk}
use Rattle.delivery_work.proofs.Counting.{passing_same}
use Rattle.delivery_work.proofs.Lent.{lent_so}

pub lends_at : {P : Type 0} (f : P → ProtocolState) (items : List P) (b : ℕ) (old new : P) (pools : List PoolView) (pool pool' : PoolView) (l : ListView) (t t' : TrayView)
    → b < length items → old ≡ slice_index_or items b old → b < length pools → pool ≡ slice_index_or pools b pool → Lends b l (f old) t pool (f new) t' pool'
    → LendsAt b l (desk (map f items) pools t) (desk (map f (slice_set items b new)) (slice_set pools b pool') t')
lends_at f items b old new pools pool pool' l t t' within place there housed d = record {
  there = subst (λ n. b < n) (sym (length-map items f)) within;
  housed = there;
  state = f new;
  pool = pool';
  lends = subst (λ s. Lends b l s t (slice_index_or pools b no_pool) (f new) t' pool') (sym (old_at f items b no_protocol old within place))
      (subst (λ p. Lends b l (f old) t p (f new) t' pool') (sym (place_is pools b no_pool pool there housed)) d);
  protocols = map-set f items b new;
  pools = refl;
}

pub owns_at : {P : Type 0} (f : P → ProtocolState) (items : List P) (b : ℕ) (old new : P) (pools : List PoolView) (pool pool' : PoolView) (l : ListView) (t t' : TrayView)
    → b < length items → old ≡ slice_index_or items b old → b < length pools → pool ≡ slice_index_or pools b pool → Owns b l (f old) t pool (f new) t' pool'
    → OwnsAt b l (desk (map f items) pools t) (desk (map f (slice_set items b new)) (slice_set pools b pool') t')
owns_at f items b old new pools pool pool' l t t' within place there housed d = record {
  there = subst (λ n. b < n) (sym (length-map items f)) within;
  housed = there;
  state = f new;
  pool = pool';
  owns = subst (λ s. Owns b l s t (slice_index_or pools b no_pool) (f new) t' pool') (sym (old_at f items b no_protocol old within place))
      (subst (λ p. Owns b l (f old) t p (f new) t' pool') (sym (place_is pools b no_pool pool there housed)) d);
  protocols = map-set f items b new;
  pools = refl;
}

pub may_lend_at : {P : Type 0} (f : P → ProtocolState) (items : List P) (b : ℕ) (old : P) (pools : List PoolView) (pool : PoolView) (l : ListView) (t : TrayView)
    → b < length items → old ≡ slice_index_or items b old → b < length pools → pool ≡ slice_index_or pools b pool
    → MayLend (slice_index_or (map f items) b no_protocol) l t (slice_index_or pools b no_pool) → MayLend (f old) l t pool
may_lend_at f items b old pools pool l t within place there housed m =
    subst (λ s. MayLend s l t pool) (old_at f items b no_protocol old within place)
    (subst (λ p. MayLend (slice_index_or (map f items) b no_protocol) l t p) (place_is pools b no_pool pool there housed) m)

pub may_own_at : {P : Type 0} (f : P → ProtocolState) (items : List P) (b : ℕ) (old : P) (pools : List PoolView) (pool : PoolView) (l : ListView) (t : TrayView)
    → b < length items → old ≡ slice_index_or items b old → b < length pools → pool ≡ slice_index_or pools b pool
    → MayOwn (slice_index_or (map f items) b no_protocol) l t (slice_index_or pools b no_pool) → MayOwn (f old) l t pool
may_own_at f items b old pools pool l t within place there housed m =
    subst (λ s. MayOwn s l t pool) (old_at f items b no_protocol old within place)
    (subst (λ p. MayOwn (slice_index_or (map f items) b no_protocol) l t p) (place_is pools b no_pool pool there housed) m)

pub room_at : {P : Type 0} (f : P → ℕ) (items : List P) (b : ℕ) (old : P) → b < length items → old ≡ slice_index_or items b old → 1 ≤ slice_index_or (map f items) b 0 → 1 ≤ f old
room_at f items b old within place room = subst (λ r. 1 ≤ r) (old_at f items b 0 old within place) room

-- the list goes on to the next one, or there is no next one
pub delivers_more : (first next many : ℕ) (l : ListView) (d mid d' : Desk) → AreSized l.frames → first + 1 ≤ next
    → takers_from d.tray.net l.frames (first + 1) many ≡ next ∷ takers_from d.tray.net l.frames (next + 1) many
    → LendsAt first l d mid → Delivers l next (takers_from mid.tray.net l.frames (next + 1) many) mid d'
    → Delivers l first (takers_from d.tray.net l.frames (first + 1) many) d d'
delivers_more first next many l d mid d' sized less taken s rest =
    let so = lent_so sized s.lends in
    let same = passing_same d.tray.net mid.tray.net l.frames (next + 1) (many - (next + 1)) so.port so.head in
    subst (λ bs. Delivers l first bs d d') (sym taken)
    (record { mid = mid; less = omega (arith, less); lends = s; others = subst (λ bs. Delivers l next bs mid d') same rest })

pub delivers_last : (first many : ℕ) (l : ListView) (d d' : Desk) → takers_from d.tray.net l.frames (first + 1) many ≡ [] → OwnsAt first l d d'
    → Delivers l first (takers_from d.tray.net l.frames (first + 1) many) d d'
delivers_last first many l d d' none s = subst (λ bs. Delivers l first bs d d') (sym none) s

-- one more of them is so
pub one_more_so : {X : Type 0} (P : X → Type 0) (xs ys : List X) (i : ℕ) (y : X) → AllWithin P xs 0 i → ys ≡ slice_set xs i y → i < length xs → P y → AllWithin P ys 0 (i + 1)
one_more_so {X} P xs ys i y all e within so = subst (λ zs. AllWithin P zs 0 (i + 1)) (sym e) (λ k d low high. by_place k d high (cases_eq k i))
  where
    by_place : (k : ℕ) (d : X) → k < i + 1 → (k ≡ i) ⊎ (k ≡ i → ⊥) → P (slice_index_or (slice_set xs i y) k d)
    by_place k d high (inl same) = subst (λ j. P (slice_index_or (slice_set xs i y) j d)) (sym same) (subst P (sym (get_or-set_same xs i y d within)) so)
    by_place k d high (inr other) = subst P (sym (get_or-set_other xs i k y d other)) (all k d (omega arith) (omega (arith, high, other)))

pub all_so : {X : Type 0} (P : X → Type 0) (xs : List X) (i : ℕ) → AllWithin P xs 0 i → length xs ≤ i → All P xs
all_so P xs i all past = λ k d within. all k d (omega arith) (omega (arith, within, past))

pub set_length : {P : Type 0} (f : P → ℕ) (old new : List P) (b x : ℕ) → map f new ≡ slice_set (map f old) b x → length new ≡ length old
set_length f old new b x e = sym (length-map new f) ∙ ap length e ∙ length-set (map f old) b x ∙ length-map old f
