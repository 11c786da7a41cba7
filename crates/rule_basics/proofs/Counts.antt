-- Counts of live lists after each change.
use Rattle.std.proofs.Common.{◌≡◌, ℕ, ◌+◌, ◌==◌, not, Bool, true, false, cond, List, [], ◌∷◌, ◌++◌, Some, refl, arith, count_by, map}
use Rattle.std.proofs.lemmas.Bool.Decides.{nat_tests}
use Rattle.std.proofs.lemmas.List.Sums.{sum_by-cons, sum_by-append}
use Rattle.stack_rules.specs.declared.LiveList.{LiveList}
use Rattle.stack_rules.specs.Net.{list_of}
use Rattle.rule_basics.specs.Live.{is_live, IsApart, others, touched, retouched, with_last}
use Rattle.rule_basics.proofs.Apart.{others-absent}

-- one or none
abbrev pub one_if : Bool → ℕ
one_if b = cond b 1 0

pub count_by-cons : {X : Type 0} (p : X → Bool) (x : X) (xs : List X) → count_by p (x ∷ xs) ≡ one_if (p x) + count_by p xs
count_by-cons p x xs = sum_by-cons (λ y. cond (p y) 1 0) x xs

pub count_by-append : {X : Type 0} (p : X → Bool) (xs ys : List X) → count_by p (xs ++ ys) ≡ count_by p xs + count_by p ys
count_by-append p xs ys = sum_by-append (λ y. cond (p y) 1 0) xs ys

pub count_by-map : {X Y : Type 0} (p : Y → Bool) (f : X → Y) (xs : List X) → count_by p (map f xs) ≡ count_by (λ x. p (f x)) xs
count_by-map p f [] = refl
count_by-map p f (x ∷ xs) =
    let left = count_by-cons p (f x) (map f xs) in
    let right = count_by-cons (λ y. p (f y)) x xs in
    let rest = count_by-map p f xs in
    omega (arith, left, right, rest)

some_same : (x l : LiveList) → Some x ≡ Some l → x ≡ l
some_same x l f = cc

counted_here : (p : LiveList → Bool) (n : ℕ) (x : LiveList) (ls : List LiveList) (l : LiveList) → IsApart (x ∷ ls) → (x.list.0 == n) ≡ true → Some x ≡ Some l → count_by p (x ∷ ls) ≡ one_if (p l) + count_by p (others n ls)
counted_here p n x ls l a t f =
    let absent : is_live n ls ≡ false = grind (arith, nat_tests) in
    rw (others-absent n ls absent) (rw (← some_same x l f) (count_by-cons p x ls))

counted_later : (p : LiveList → Bool) (n : ℕ) (x : LiveList) (ls : List LiveList) (l : LiveList) → count_by p ls ≡ one_if (p l) + count_by p (others n ls) → count_by p (x ∷ ls) ≡ one_if (p l) + count_by p (x ∷ others n ls)
counted_later p n x ls l rest =
    let whole = count_by-cons p x ls in
    let less = count_by-cons p x (others n ls) in
    omega (arith, whole, less, rest)

-- the list that is taken out counts for one
pub count_by-others : (p : LiveList → Bool) (n : ℕ) (ls : List LiveList) (l : LiveList) → IsApart ls → list_of n ls ≡ Some l → count_by p ls ≡ one_if (p l) + count_by p (others n ls)
count_by-others p n [] l a h = cc
count_by-others p n (x ∷ ls) l a h =
    let cases : (b : Bool) → (x.list.0 == n) ≡ b → cond b (Some x) (list_of n ls) ≡ Some l → count_by p (x ∷ ls) ≡ one_if (p l) + count_by p (cond (not b) (x ∷ others n ls) (others n ls)) = elim [
      | true ↦ λ t f. counted_here p n x ls l a t f
      | false ↦ λ t f. counted_later p n x ls l (count_by-others p n ls l a.1 f)
    ] in
    cases (x.list.0 == n) refl h

pub count_by-with_last : (p : LiveList → Bool) (ls : List LiveList) (l : LiveList) → count_by p (with_last ls (Some l)) ≡ count_by p ls + one_if (p l)
count_by-with_last p ls l =
    let both = count_by-append p ls (l ∷ []) in
    let one = count_by-cons p l [] in
    omega (arith, both, one)

-- a change that the test doesn't see
pub count_by-retouched : (p : LiveList → Bool) (n : ℕ) (f : LiveList → LiveList) → ((l : LiveList) → p (f l) ≡ p l) → (ls : List LiveList) → count_by p (retouched n f ls) ≡ count_by p ls
count_by-retouched p n f same [] = refl
count_by-retouched p n f same (x ∷ ls) =
    let left = count_by-cons p (touched n f x) (retouched n f ls) in
    let right = count_by-cons p x ls in
    let rest = count_by-retouched p n f same ls in
    let head : p (touched n f x) ≡ p x = elim (x.list.0 == n) as (λ b. p (cond b (f x) x) ≡ p x) [ true ↦ same x | false ↦ refl ] in
    rw left (rw right (rw rest (rw head refl)))
