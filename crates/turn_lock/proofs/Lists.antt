-- Lists of views, and a function that is changed at one place.
use Rattle.std.proofs.Common.{◌≡◌, ◌≢◌, ℕ, zero, suc, ◌+◌, ◌<◌, ◌≤◌, ◌⊎◌, inl, inr, true, false, true≢false, List, [], ◌∷◌, ◌++◌, map, get_or, length, length-set, set, sym, refl, ap, ◌∙◌, subst, ⊎_elim, arith}
use mathlib.Core.Logic.{dite}
use mathlib.Core.Option.{some, some-injective, some-ne-none}
use Rattle.std.specs.List.{All, Contains}
use Rattle.std.proofs.lemmas.List.Elements.{All-nil, All-cons}
use native.Mathlib.Decide.{ℕ_discrete}
use lib.ListN.{get_elem?}
use Rattle.atomic_table.proofs.Lists.{at_set, set_else}
use Rattle.turn_lock.specs.declared.view.View.{View}
use Rattle.turn_lock.specs.Orderly.{out, parts_of, total, keeps_number, times, IsQuiet, Gone, IsKept, AllKnown}
use Rattle.turn_lock.proofs.Histories.{times_none}
use Rattle.turn_lock.specs.declared.view.Ended.{Ended}

abbrev pick : {P : Type 0} → Dec P → ℕ → ℕ → ℕ
pick (yes _) a b = a
pick (no _) a b = b

pub put : (ℕ → ℕ) → ℕ → ℕ → ℕ → ℕ
put f i c j = pick (ℕ_discrete j i) c (f j)

pub put_here : (f : ℕ → ℕ) (i c : ℕ) → put f i c i ≡ c
unfolding put
put_here f i c = go (ℕ_discrete i i)
  where
    go : (d : Dec (i ≡ i)) → pick d c (f i) ≡ c
    go (yes _) = refl
    go (no n) = absurd (n refl)

pub put_else : (f : ℕ → ℕ) (i c j : ℕ) → j ≢ i → put f i c j ≡ f j
unfolding put
put_else f i c j other = go (ℕ_discrete j i)
  where
    go : (d : Dec (j ≡ i)) → pick d c (f j) ≡ f j
    go (yes e) = absurd (other e)
    go (no n) = refl

pub all_set : {A : Type 0} (F : ℕ → A → Type 0) (vs : List A) (id : ℕ) (w : A) → F id w → ((j : ℕ) (u : A) → j ≢ id → get_elem? vs j ≡ some u → F j u)
    → (j : ℕ) (u : A) → get_elem? (set vs id w) j ≡ some u → F j u
all_set {A = A} F vs id w mine others j u e = ⊎_elim (λ (x : (j ≡ id) × (w ≡ u)). subst (λ (y : ℕ × A). F y.0 y.1) (λ i. (sym x.0 i, x.1 i)) mine)
    (λ (x : (j ≢ id) × (get_elem? vs j ≡ some u)). others j u x.0 x.1) (at_set vs id j w u e)

pub set_at : {A : Type 0} (l : List A) (i : ℕ) (a b : A) → get_elem? l i ≡ some a → get_elem? (set l i b) i ≡ some b
set_at [] i a b e = absurd (some-ne-none a (sym e))
set_at (x ∷ xs) zero a b e = refl
set_at (x ∷ xs) (suc i) a b e = set_at xs i a b e

pub at_below : {A : Type 0} (l : List A) (i : ℕ) (a : A) → get_elem? l i ≡ some a → i < length l
at_below [] i a e = absurd (some-ne-none a (sym e))
at_below (x ∷ xs) zero a e = omega arith
at_below (x ∷ xs) (suc i) a e = let h = at_below xs i a e in omega (arith, h)

pub at_end : {A : Type 0} (l : List A) (a b : A) (j : ℕ) → get_elem? (l ++ a ∷ []) j ≡ some b → (get_elem? l j ≡ some b) ⊎ ((j ≡ length l) × (a ≡ b))
at_end [] a b zero e = inr (refl, some-injective a b e)
at_end [] a b (suc j) e = absurd (some-ne-none b (sym e))
at_end (x ∷ xs) a b zero e = inl e
at_end (x ∷ xs) a b (suc j) e = ⊎_elim (λ h. inl h) (λ h. inr (ap suc h.0, h.1)) (at_end xs a b j e)

pub found_after : {A : Type 0} (l m : List A) (k : ℕ) (a : A) → get_elem? m k ≡ some a → (i : ℕ) × (get_elem? (l ++ m) i ≡ some a)
found_after [] m k a e = (k, e)
found_after (x ∷ xs) m k a e = let h = found_after xs m k a e in (suc h.0, h.1)

pub all_cons : {A : Type 0} (P : A → Type 0) (e : A) (l : List A) → P e → ((k : ℕ) (q : A) → get_elem? l k ≡ some q → P q) → (k : ℕ) (q : A) → get_elem? (e ∷ l) k ≡ some q → P q
all_cons P e l here all zero q h = subst P (some-injective e q h) here
all_cons P e l here all (suc k) q h = all k q h

pub all_append : {A : Type 0} (P : A → Type 0) (l m : List A) → ((k : ℕ) (q : A) → get_elem? l k ≡ some q → P q) → ((k : ℕ) (q : A) → get_elem? m k ≡ some q → P q) → (k : ℕ) (q : A) → get_elem? (l ++ m) k ≡ some q → P q
all_append P [] m left right k q h = right k q h
all_append P (x ∷ xs) m left right zero q h = left zero q h
all_append P (x ∷ xs) m left right (suc k) q h = all_append P xs m (λ i r e. left (suc i) r e) right k q h

pub some_below : {A : Type 0} (l : List A) (i : ℕ) → i < length l → (a : A) × (get_elem? l i ≡ some a)
some_below [] i h = absurd (omega arith)
some_below (x ∷ xs) zero h = (x, refl)
some_below (x ∷ xs) (suc i) h = some_below xs i (omega arith)

pub all_at : {A : Type 0} (P : A → Type 0) (l : List A) → ((i : ℕ) (a : A) → get_elem? l i ≡ some a → P a) → All P l
all_at P [] at = All-nil P
all_at P (x ∷ xs) at = All-cons P x xs (at 0 x refl) (all_at P xs (λ i a h. at (suc i) a h))

module _ {C R : Type 0} where
  number_below : (k : ℕ) (es : List (Ended C R)) (i : ℕ) (e : Ended C R) → get_elem? es i ≡ some e → suc i < length (k ∷ map (λ (f : Ended C R). f.number) es)
  number_below k [] i e h = absurd (some-ne-none e (sym h))
  number_below k (f ∷ fs) zero e h = omega arith
  number_below k (f ∷ fs) (suc i) e h = let ih = number_below k fs i e h in omega (arith, ih)

  number_at : (es : List (Ended C R)) (i : ℕ) (e : Ended C R) (d : ℕ) → get_elem? es i ≡ some e → get_or (map (λ (f : Ended C R). f.number) es) i d ≡ e.number
  number_at [] i e d h = absurd (some-ne-none e (sym h))
  number_at (f ∷ fs) zero e d h = ap (λ (g : Ended C R). g.number) (some-injective f e h)
  number_at (f ∷ fs) (suc i) e d h = number_at fs i e d h

  -- the number of an ended seat that is kept
  pub number_kept : (k : ℕ) (es : List (Ended C R)) (i : ℕ) (e : Ended C R) → get_elem? es i ≡ some e → Contains (k ∷ map (λ (f : Ended C R). f.number) es) e.number
  number_kept k es i e h = (suc i, number_below k es i e h, number_at es i e e.number h)

module _ {O C R : Type 0} where
  pub one_le : (f : View O C R → ℕ) (vs : List (View O C R)) (j : ℕ) (u : View O C R) → get_elem? vs j ≡ some u → f u ≤ total f vs
  one_le f [] j u e = absurd (some-ne-none u (sym e))
  one_le f (x ∷ xs) zero u e = let q : f x ≡ f u = ap f (some-injective x u e) in omega (arith, q)
  one_le f (x ∷ xs) (suc j) u e = let h = one_le f xs j u e in omega (arith, h)

  pub total_snoc : (f : View O C R → ℕ) (vs : List (View O C R)) (v : View O C R) → total f (vs ++ v ∷ []) ≡ total f vs + f v
  total_snoc f [] v = omega arith
  total_snoc f (x ∷ xs) v = let h = total_snoc f xs v in omega (arith, h)

  -- a spent seat stays spent when a live one steps
  pub gone_stays : (vs : List (View O C R)) (id : ℕ) (v w : View O C R) (n : ℕ) → get_elem? vs id ≡ some v → v.live ≡ true → Gone vs n → Gone (set vs id w) n
  gone_stays vs id v w n at live g =
      let other : n ≢ id = λ (is : n ≡ id). let same : v ≡ g.0 = some-injective v g.0 (sym at ∙ (ap (get_elem? vs) (sym is) ∙ g.1)) in true≢false (sym live ∙ (ap (λ (z : View O C R). z.live) same ∙ g.2)) in
      (g.0, set_else vs id n w other ∙ g.1, g.2)

  keeper_stays : (vs : List (View O C R)) (id : ℕ) (v w : View O C R) (j : ℕ) → get_elem? vs id ≡ some v → w.live ≡ true → w.ended ≡ v.ended → (kept : IsKept vs j) → Dec (kept.0 ≡ id) → IsKept (set vs id w) j
  keeper_stays vs id v w j at live same kept (yes is) =
      let here : kept.1 ≡ v = some-injective kept.1 v (sym kept.4 ∙ (ap (get_elem? vs) is ∙ at)) in
      (id, w, kept.2, kept.3, set_at vs id v w at, live, (λ i. get_elem? ((same ∙ ap (λ (z : View O C R). z.ended) (sym here)) i) kept.2) ∙ kept.6, kept.7)
  keeper_stays vs id v w j at live same kept (no other) = (kept.0, kept.1, kept.2, kept.3, set_else vs id kept.0 w other ∙ kept.4, kept.5, kept.6, kept.7)

  -- the calls of ended seats are kept by whoever kept them
  pub kept_stays : (vs : List (View O C R)) (id : ℕ) (v w : View O C R) (j : ℕ) → get_elem? vs id ≡ some v → w.live ≡ true → w.ended ≡ v.ended → IsKept vs j → IsKept (set vs id w) j
  kept_stays vs id v w j at live same kept = keeper_stays vs id v w j at live same kept (ℕ_discrete kept.0 id)

  pub all_kept : (E E' : ℕ → Type 0) (vs : List (View O C R)) (id : ℕ) (v w : View O C R) → get_elem? vs id ≡ some v → w.live ≡ true → w.ended ≡ v.ended
      → ((j : ℕ) (u : View O C R) → j ≢ id → get_elem? vs j ≡ some u → u.live ≡ false → E j → E' j)
      → ((j : ℕ) (u : View O C R) → get_elem? vs j ≡ some u → u.live ≡ false → IsKept vs j ⊎ E j)
      → (j : ℕ) (u : View O C R) → get_elem? (set vs id w) j ≡ some u → u.live ≡ false → IsKept (set vs id w) j ⊎ E' j
  all_kept E E' vs id v w at live same go kept =
      all_set (λ j (u : View O C R). u.live ≡ false → IsKept (set vs id w) j ⊎ E' j) vs id w (λ dead. absurd (true≢false (sym live ∙ dead)))
      (λ j u other e dead. ⊎_elim (λ (h : IsKept vs j). inl (kept_stays vs id v w j at live same h)) (λ (h : E j). inr (go j u other e dead h)) (kept j u e dead))

  -- a step that keeps what the seat knows keeps that all known numbers were made
  pub all_made : (vs : List (View O C R)) (id : ℕ) (v w : View O C R) → get_elem? vs id ≡ some v → w.known ≡ v.known → ((j : ℕ) (u : View O C R) → get_elem? vs j ≡ some u → AllKnown u (λ n. n < length vs))
      → (j : ℕ) (u : View O C R) → get_elem? (set vs id w) j ≡ some u → AllKnown u (λ n. n < length (set vs id w))
  all_made vs id v w at same made =
      let long : length (set vs id w) ≡ length vs = length-set vs id w in
      all_set (λ j (u : View O C R). AllKnown u (λ n. n < length (set vs id w))) vs id w
      (λ i n h. let below = made id v at i n (ap (λ (l : List ℕ). get_elem? l i) (sym same) ∙ h) in omega (arith, below, long))
      (λ j u other e i n h. let below = made j u e i n h in omega (arith, below, long))

  pub total_set : (f : View O C R → ℕ) (vs : List (View O C R)) (j : ℕ) (v w : View O C R) → get_elem? vs j ≡ some v → total f (set vs j w) + f v ≡ total f vs + f w
  total_set f [] j v w e = absurd (some-ne-none v (sym e))
  total_set f (x ∷ xs) zero v w e = let q : f x ≡ f v = ap f (some-injective x v e) in omega (arith, q)
  total_set f (x ∷ xs) (suc j) v w e = let h = total_set f xs j v w e in omega (arith, h)

  pub total_le : (vs : List (View O C R)) → ((j : ℕ) (v : View O C R) → get_elem? vs j ≡ some v → out v ≤ v.parts) → total out vs ≤ total parts_of vs
  total_le [] h = omega arith
  total_le (x ∷ xs) h = let a : out x ≤ x.parts = h zero x refl in let b = total_le xs (λ j v e. h (suc j) v e) in omega (arith, a, b)

  pub quiet_back : (vs : List (View O C R)) (id : ℕ) (v w : View O C R) → get_elem? vs id ≡ some v → IsQuiet v.role ≡ true
      → ((j : ℕ) (u : View O C R) → get_elem? (set vs id w) j ≡ some u → IsQuiet u.role ≡ true) → (j : ℕ) (u : View O C R) → get_elem? vs j ≡ some u → IsQuiet u.role ≡ true
  quiet_back vs id v w at quiet all j u e = dite (ℕ_discrete j id)
      (λ (is : j ≡ id). let same : v ≡ u = some-injective v u (sym at ∙ (ap (get_elem? vs) (sym is) ∙ e)) in subst (λ (z : View O C R). IsQuiet z.role ≡ true) same quiet)
      (λ (other : j ≢ id). all j u (set_else vs id j w other ∙ e))

  -- a number that no seat keeps
  pub total_none : (n : ℕ) (vs : List (View O C R)) → ((j : ℕ) (v : View O C R) → get_elem? vs j ≡ some v → (i : ℕ) (e : Ended C R) → get_elem? v.ended i ≡ some e → e.number ≢ n) → total (keeps_number n) vs ≡ 0
  total_none n [] none = refl
  total_none n (x ∷ xs) none = let here = times_none n x.ended (none 0 x refl) in let ih = total_none n xs (λ j v h. none (suc j) v h) in omega (arith, here, ih)

  -- a step that keeps the ended seats keeps that none is kept twice
  pub once_stays : (vs : List (View O C R)) (id : ℕ) (v w : View O C R) → get_elem? vs id ≡ some v → w.ended ≡ v.ended → ((n : ℕ) → total (keeps_number n) vs ≤ 1) → (n : ℕ) → total (keeps_number n) (set vs id w) ≤ 1
  once_stays vs id v w at same once n = let a = total_set (keeps_number n) vs id v w at in let o = once n in let e : times n w.ended ≡ times n v.ended = ap (times n) same in omega (arith, a, o, e)
