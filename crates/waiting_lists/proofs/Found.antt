-- The list of a number after each kind of change, and whether any element passes a test.
use Rattle.std.proofs.Common.{◌≡◌, ℕ, ◌==◌, ◌||◌, ◌&&◌, not, Bool, true, false, cond, List, [], ◌∷◌, ◌++◌, Option, Some, None, find, filter, map, refl, sym, ap, ◌∙◌, arith, eq-eqb, eqb-true}
use Rattle.std.specs.List.{list_any}
use Rattle.std.proofs.lemmas.Bool.Decides.{nat_tests}
use Rattle.stack_rules.specs.declared.LiveList.{LiveList}
use Rattle.stack_rules.specs.Net.{list_of}
use Rattle.rule_basics.specs.Live.{others, touched, retouched, with_last, KeepsNumber}

-- the first of two
abbrev pub or_this : Option LiveList → Option LiveList → Option LiveList
or_this None o = o
or_this (Some l) o = Some l

-- the list, if it is of this number
abbrev pub if_of : ℕ → LiveList → Option LiveList
if_of n l = cond (l.list.0 == n) (Some l) None

pub found_last : (n : ℕ) (ls : List LiveList) (l : LiveList) → list_of n (ls ++ l ∷ []) ≡ or_this (list_of n ls) (if_of n l)
found_last n [] l = refl
found_last n (x ∷ xs) l =
    elim (x.list.0 == n) as (λ b. cond b (Some x) (list_of n (xs ++ l ∷ [])) ≡ or_this (cond b (Some x) (list_of n xs)) (if_of n l)) [ true ↦ refl | false ↦ found_last n xs l ]

-- the lists but those of a number
skipped : (x : LiveList) (xs : List LiveList) (n c : ℕ) (d : Bool) → (n == c) ≡ d → x.list.0 ≡ n → cond d None (list_of c xs) ≡ cond d None (cond (x.list.0 == c) (Some x) (list_of c xs))
skipped x xs n c true e same = refl
skipped x xs n c false e same = sym (ap (λ b. cond b (Some x) (list_of c xs)) (ap (λ k. k == c) same ∙ e))

stays : (x : LiveList) (xs : List LiveList) (n c : ℕ) (d : Bool) → (n == c) ≡ d → (x.list.0 == n) ≡ false → cond (x.list.0 == c) (Some x) (cond d None (list_of c xs)) ≡ cond d None (cond (x.list.0 == c) (Some x) (list_of c xs))
stays x xs n c true e other = let off : (x.list.0 == c) ≡ false = away x.list.0 n c e other in ap (λ b. cond b (Some x) None) off
  where
    away : (a n c : ℕ) → (n == c) ≡ true → (a == n) ≡ false → (a == c) ≡ false
    away a n c e other = grind (arith, nat_tests)
stays x xs n c false e other = refl

pub found_others : (n c : ℕ) (ls : List LiveList) → list_of c (others n ls) ≡ cond (n == c) None (list_of c ls)
found_others n c [] = none_still (n == c)
  where
    none_still : (b : Bool) → list_of c [] ≡ cond b None (list_of c [])
    none_still true = refl
    none_still false = refl
found_others n c (x ∷ xs) = by_case n c x xs (x.list.0 == n) refl (found_others n c xs)
  where
    by_case : (n c : ℕ) (x : LiveList) (xs : List LiveList) (b : Bool) → (x.list.0 == n) ≡ b → list_of c (others n xs) ≡ cond (n == c) None (list_of c xs)
        → list_of c (cond (not b) (x ∷ others n xs) (others n xs)) ≡ cond (n == c) None (cond (x.list.0 == c) (Some x) (list_of c xs))
    by_case n c x xs true e more = more ∙ skipped x xs n c (n == c) refl (eqb-true x.list.0 n e)
    by_case n c x xs false e more = ap (λ o. cond (x.list.0 == c) (Some x) o) more ∙ stays x xs n c (n == c) refl e

-- a list is changed in its place
abbrev pub changed : ℕ → (LiveList → LiveList) → Option LiveList → Option LiveList
changed n f None = None
changed n f (Some l) = Some (touched n f l)

number_touched : (n : ℕ) (f : LiveList → LiveList) → KeepsNumber f → (x : LiveList) → (touched n f x).list.0 ≡ x.list.0
number_touched n f keeps x = elim (x.list.0 == n) as (λ b. (cond b (f x) x).list.0 ≡ x.list.0) [ true ↦ keeps x | false ↦ refl ]

pub found_changed : (n : ℕ) (f : LiveList → LiveList) → KeepsNumber f → (c : ℕ) (ls : List LiveList) → list_of c (retouched n f ls) ≡ changed n f (list_of c ls)
found_changed n f keeps c [] = refl
found_changed n f keeps c (x ∷ xs) =
    ap (λ k. cond (k == c) (Some (touched n f x)) (list_of c (retouched n f xs))) (number_touched n f keeps x)
    ∙ elim (x.list.0 == c) as (λ b. cond b (Some (touched n f x)) (list_of c (retouched n f xs)) ≡ changed n f (cond b (Some x) (list_of c xs))) [ true ↦ refl | false ↦ found_changed n f keeps c xs ]

-- a list goes to the end
pub found_moved : (n c : ℕ) (ls : List LiveList) (o : Option LiveList) → ((l : LiveList) → o ≡ Some l → l.list.0 ≡ n) → list_of c (with_last (others n ls) o) ≡ cond (n == c) o (list_of c ls)
found_moved n c ls None number = found_others n c ls
found_moved n c ls (Some l) number = found_last c (others n ls) l ∙ ap (λ o. or_this o (if_of c l)) (found_others n c ls) ∙ by_case (n == c) refl
  where
    by_case : (b : Bool) → (n == c) ≡ b → or_this (cond b None (list_of c ls)) (if_of c l) ≡ cond b (Some l) (list_of c ls)
    by_case true e = ap (λ k. cond (k == c) (Some l) None) (number l refl) ∙ ap (λ b. cond b (Some l) None) e
    by_case false e = none_left (list_of c ls)
      where
        other : (l.list.0 == c) ≡ false
        other = ap (λ k. k == c) (number l refl) ∙ e

        none_left : (o : Option LiveList) → or_this o (if_of c l) ≡ o
        none_left None = ap (λ b. cond b (Some l) None) other
        none_left (Some x) = refl

-- whether any passes
pub any_push : {X : Type 0} (p : X → Bool) (xs : List X) (x : X) → list_any p (xs ++ x ∷ []) ≡ (list_any p xs || p x)
any_push p [] x = elim (p x) as (λ b. (b || false) ≡ (false || b)) [ true ↦ refl | false ↦ refl ]
any_push p (y ∷ ys) x = elim (p y) as (λ b. (b || list_any p (ys ++ x ∷ [])) ≡ ((b || list_any p ys) || p x)) [ true ↦ refl | false ↦ any_push p ys x ]

pub any_left : {X : Type 0} (p q : X → Bool) (xs : List X) → list_any p (filter q xs) ≡ list_any (λ x. q x && p x) xs
any_left p q [] = refl
any_left p q (x ∷ xs) =
    elim (q x) as (λ b. list_any p (cond b (x ∷ filter q xs) (filter q xs)) ≡ ((b && p x) || list_any (λ x. q x && p x) xs)) [ true ↦ ap (λ b. p x || b) (any_left p q xs) | false ↦ any_left p q xs ]

pub any_same : {X : Type 0} (p q : X → Bool) → ((x : X) → p x ≡ q x) → (xs : List X) → list_any p xs ≡ list_any q xs
any_same p q same [] = refl
any_same p q same (x ∷ xs) = ap (λ b. b || list_any p xs) (same x) ∙ ap (λ b. q x || b) (any_same p q same xs)

pub any_no : {X : Type 0} (p : X → Bool) → ((x : X) → p x ≡ false) → (xs : List X) → list_any p xs ≡ false
any_no p none [] = refl
any_no p none (x ∷ xs) = ap (λ b. b || list_any p xs) (none x) ∙ any_no p none xs
