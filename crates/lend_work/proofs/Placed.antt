-- A filter is called at its place, and its pool is at the same place.
use Rattle.std.proofs.Common.{◌≡◌, ℕ, ◌<◌, ◌≤◌, ◌+◌, List, Some, Option, IsSome, length, map, slice_index_or, slice_set, get_or-set_same, get_or-set_other, length-set, refl, sym, ap, ◌∙◌, subst, arith, ◌⊎◌, inl, inr}
use Rattle.std.specs.List.{All}
use Rattle.std.proofs.Math.Seq.{map-set}
use Rattle.std.proofs.lemmas.Bool.{cases_eq}
use Rattle.std.proofs.lemmas.List.{length-map}
use Rattle.ndis_base.specs.declared.ListStatus.{ListStatus}
use Rattle.buffer_pools.specs.Views.{ListView, PoolView}
use Rattle.driver_views.specs.States.{FilterState}
use Rattle.driver_tray.specs.Tray.{TrayView}
use Rattle.book_lemmas.specs.Views.{no_pool, no_filter, filter_at, pool_at}
use Rattle.binding_work.proofs.Homing.{old_at, place_is, new_at}
use Rattle.lend_work.specs.Visits.{MayVisit, Visits, VisitsAt, bench}

pub visits_at : {F : Type 0} (state : F → FilterState) (items : List F) (place : ℕ) (old new : F) (pools : List PoolView) (pool pool' : PoolView) (f : ℕ) (l : ListView) (t t' : TrayView) (went : Option ListStatus)
    → place < length items → old ≡ slice_index_or items place old → place < length pools → pool ≡ slice_index_or pools place pool → IsSome (filter_at (map state items) (Some place)).setup
    → Visits f l (state old) t pool went (state new) t' pool' → VisitsAt f place l (bench (map state items) pools t) went (bench (map state (slice_set items place new)) (slice_set pools place pool') t')
visits_at state items place old new pools pool pool' f l t t' went within here there housed setup v = record {
  there = subst (λ n. place < n) (sym (length-map items state)) within;
  housed = there;
  setup = setup;
  state = state new;
  pool = pool';
  visits = subst (λ s. Visits f l s t (slice_index_or pools place no_pool) went (state new) t' pool') (sym (old_at state items place no_filter old within here))
      (subst (λ p. Visits f l (state old) t p went (state new) t' pool') (sym (place_is pools place no_pool pool there housed)) v);
  filters = map-set state items place new;
  pools = refl;
}

pub may_visit_at : {F : Type 0} (state : F → FilterState) (items : List F) (place : ℕ) (old : F) (pools : List PoolView) (pool : PoolView) (l : ListView) (t : TrayView)
    → place < length items → old ≡ slice_index_or items place old → place < length pools → pool ≡ slice_index_or pools place pool
    → MayVisit (filter_at (map state items) (Some place)) l t (pool_at pools (Some place)) → MayVisit (state old) l t pool
may_visit_at state items place old pools pool l t within here there housed m =
    subst (λ s. MayVisit s l t pool) (old_at state items place no_filter old within here)
    (subst (λ p. MayVisit (slice_index_or (map state items) place no_filter) l t p) (place_is pools place no_pool pool there housed) m)

pub room_at : {F : Type 0} (room : F → ℕ) (items : List F) (place : ℕ) (old : F) → place < length items → old ≡ slice_index_or items place old → 1 ≤ slice_index_or (map room items) place 0 → 1 ≤ room old
room_at room items place old within here some = subst (λ r. 1 ≤ r) (old_at room items place 0 old within here) some

pub room_left : {F : Type 0} (room : F → ℕ) (items : List F) (place : ℕ) (old new : F) → place < length items → 1 ≤ room old → room old ≤ room new → 1 ≤ slice_index_or (map room (slice_set items place new)) place 0
room_left room items place old new within some more =
    let is : slice_index_or (map room (slice_set items place new)) place 0 ≡ room new = new_at room items place 0 new within in
    omega (arith, is, some, more)

-- what stays the same at one place stays the same at each
pub still_at : {A X : Type 0} (get : A → X) (xs : List A) (i : ℕ) (y d : A) → i < length xs → get y ≡ get (slice_index_or xs i d) → (j : ℕ) → get (slice_index_or (slice_set xs i y) j d) ≡ get (slice_index_or xs j d)
still_at {A} {X} get xs i y d within same j = by_place (cases_eq j i)
  where
    by_place : (j ≡ i) ⊎ (j ≡ i → ⊥) → get (slice_index_or (slice_set xs i y) j d) ≡ get (slice_index_or xs j d)
    by_place (inl e) = ap (λ k. get (slice_index_or (slice_set xs i y) k d)) e ∙ ap get (get_or-set_same xs i y d within) ∙ same ∙ ap (λ k. get (slice_index_or xs k d)) (sym e)
    by_place (inr ne) = ap get (get_or-set_other xs i j y d ne)

-- a count that is one more at one place is at most one more at each
pub more_at : {A : Type 0} (count : A → ℕ) (xs : List A) (i : ℕ) (y d : A) → i < length xs → count y ≤ count (slice_index_or xs i d) + 1 → (j : ℕ) → count (slice_index_or (slice_set xs i y) j d) ≤ count (slice_index_or xs j d) + 1
more_at {A} count xs i y d within more j = by_place (cases_eq j i)
  where
    by_place : (j ≡ i) ⊎ (j ≡ i → ⊥) → count (slice_index_or (slice_set xs i y) j d) ≤ count (slice_index_or xs j d) + 1
    by_place (inl e) = subst (λ k. count (slice_index_or (slice_set xs i y) k d) ≤ count (slice_index_or xs k d) + 1) (sym e) (subst (λ (x : A). count x ≤ count (slice_index_or xs i d) + 1) (sym (get_or-set_same xs i y d within)) more)
    by_place (inr ne) = let is = ap count (get_or-set_other xs i j y d ne) in omega (arith, is)

-- all are so still where the one that changed is
pub all_still : (xs ys : List ℕ) (i x : ℕ) → All (λ r. 1 ≤ r) xs → ys ≡ slice_set xs i x → i < length xs → 1 ≤ x → All (λ r. 1 ≤ r) ys
all_still xs ys i x all e within some = subst (All (λ r. 1 ≤ r)) (sym e) (λ j d below. by_place j d below (cases_eq j i))
  where
    by_place : (j d : ℕ) → j < length (slice_set xs i x) → (j ≡ i) ⊎ (j ≡ i → ⊥) → 1 ≤ slice_index_or (slice_set xs i x) j d
    by_place j d below (inl same) = subst (λ k. 1 ≤ slice_index_or (slice_set xs i x) k d) (sym same) (subst (λ r. 1 ≤ r) (sym (get_or-set_same xs i x d within)) some)
    by_place j d below (inr other) = subst (λ r. 1 ≤ r) (sym (get_or-set_other xs i j x d other)) (all j d (subst (λ n. j < n) (length-set xs i x) below))
