-- Sums over the things that are kept or on their way, after each change of them.
use Rattle.std.proofs.Common.{◌≡◌, ℕ, ◌+◌, ◌≤◌, ◌==◌, not, Bool, true, false, cond, List, [], ◌∷◌, ◌++◌, Option, Some, None, refl, arith, subst, filter, sum_by}
use Rattle.std.proofs.lemmas.List.Sums.{sum_by-cons, sum_by_push}
use Rattle.stack_rules.specs.declared.LiveList.{LiveList}
use Rattle.stack_rules.specs.declared.Thing.{Thing}
use Rattle.stack_rules.specs.declared.Thing.TheVariants as thing
use Rattle.stack_rules.specs.Net.{lists, list_of, without, with_list, after_change, at_end}

pub sum_filter : {X : Type 0} (w : X → ℕ) (test : X → Bool) (ts : List X) → sum_by w (filter test ts) ≤ sum_by w ts
sum_filter w test [] = omega arith
sum_filter {X} w test (t ∷ ts) =
    let whole = sum_by-cons w t ts in
    let rest = sum_filter w test ts in
    elim (test t) as (λ b. sum_by w (cond b (t ∷ filter test ts) (filter test ts)) ≤ sum_by w (t ∷ ts)) [
      | true ↦ let part = sum_by-cons w t (filter test ts) in omega (arith, whole, rest, part)
      | false ↦ omega (arith, whole, rest)
    ]

-- all but the list of a number
pub sum_without : (w : Thing → ℕ) (n : ℕ) (ts : List Thing) → sum_by w (without n ts) ≤ sum_by w ts
sum_without w n ts = sum_filter w _ ts

some_same : (x l : LiveList) → Some x ≡ Some l → x ≡ l
some_same x l f = cc

taken_later : (w : Thing → ℕ) (n : ℕ) (t : Thing) (ts : List Thing) (l : LiveList) → sum_by w (without n ts) + w (thing.List l) ≤ sum_by w ts → sum_by w (t ∷ without n ts) + w (thing.List l) ≤ sum_by w (t ∷ ts)
taken_later w n t ts l h =
    let whole = sum_by-cons w t ts in
    let part = sum_by-cons w t (without n ts) in
    omega (arith, whole, part, h)

taken_here : (w : Thing → ℕ) (n : ℕ) (ts : List Thing) (x l : LiveList) → x ≡ l → sum_by w (without n ts) + w (thing.List l) ≤ sum_by w (thing.List x ∷ ts)
taken_here w n ts x l e =
    let whole = sum_by-cons w (thing.List x) ts in
    let rest = sum_without w n ts in
    subst (λ (k : LiveList). sum_by w (without n ts) + w (thing.List k) ≤ sum_by w (thing.List x ∷ ts)) e (omega (arith, whole, rest))

-- what is taken out weighs no more than what was there
pub sum_taken : (w : Thing → ℕ) (n : ℕ) (ts : List Thing) (l : LiveList) → list_of n (lists ts) ≡ Some l → sum_by w (without n ts) + w (thing.List l) ≤ sum_by w ts
sum_taken w n [] l h = cc
sum_taken w n (thing.List x ∷ ts) l h =
    let cases : (b : Bool) → cond b (Some x) (list_of n (lists ts)) ≡ Some l → sum_by w (cond (not b) (thing.List x ∷ without n ts) (without n ts)) + w (thing.List l) ≤ sum_by w (thing.List x ∷ ts) = elim [
      | true ↦ λ f. taken_here w n ts x l (some_same x l f)
      | false ↦ λ f. taken_later w n (thing.List x) ts l (sum_taken w n ts l f)
    ] in
    cases (x.list.0 == n) h
sum_taken w n (thing.Status s ∷ ts) l h = taken_later w n (thing.Status s) ts l (sum_taken w n ts l h)
sum_taken w n (thing.Answer a ∷ ts) l h = taken_later w n (thing.Answer a) ts l (sum_taken w n ts l h)

-- a change in its place that makes no list heavier
with_less : (w : Thing → ℕ) (n : ℕ) (f : LiveList → LiveList) → ((l : LiveList) → w (thing.List (f l)) ≤ w (thing.List l)) → (t : Thing) → w (with_list n f t) ≤ w t
with_less w n f less (thing.List l) = elim (l.list.0 == n) as (λ b. w (cond b (thing.List (f l)) (thing.List l)) ≤ w (thing.List l)) [ true ↦ less l | false ↦ omega arith ]
with_less w n f less (thing.Status s) = omega arith
with_less w n f less (thing.Answer a) = omega arith

pub sum_changed : (w : Thing → ℕ) (n : ℕ) (f : LiveList → LiveList) → ((l : LiveList) → w (thing.List (f l)) ≤ w (thing.List l)) → (ts : List Thing) → sum_by w (after_change n f ts) ≤ sum_by w ts
sum_changed w n f less [] = omega arith
sum_changed w n f less (t ∷ ts) =
    let here = with_less w n f less t in
    let whole = sum_by-cons w t ts in
    let part = sum_by-cons w (with_list n f t) (after_change n f ts) in
    let rest = sum_changed w n f less ts in
    omega (arith, here, whole, part, rest)

-- one more at the end
pub sum_last : (w : Thing → ℕ) (ts : List Thing) (t : Thing) → sum_by w (ts ++ t ∷ []) ≡ sum_by w ts + w t
sum_last w ts t = sum_by_push w ts t

pub sum_at_end : (w : Thing → ℕ) (ts : List Thing) (k : ℕ) (o : Option LiveList) → ((l : LiveList) → o ≡ Some l → w (thing.List l) ≤ k) → sum_by w (at_end ts o) ≤ sum_by w ts + k
sum_at_end w ts k None h = omega arith
sum_at_end w ts k (Some l) h = let last = sum_last w ts (thing.List l) in let most = h l refl in omega (arith, last, most)
