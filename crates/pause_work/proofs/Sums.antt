-- Sums over the modules of a position, and counts of what is on its way.
use Rattle.std.proofs.Common.{◌≡◌, ℕ, zero, suc, ◌+◌, Bool, List, [], ◌∷◌, map, count_by, sum_by, refl, ap, arith}
use Rattle.std.proofs.lemmas.List.Sums.{sum_by-cons}
use Rattle.ndis_base.specs.declared.ModuleId.{ModuleId}
use Rattle.ndis_base.specs.declared.ModuleId.TheVariants.{Binding}
use Rattle.rule_basics.proofs.Counts.{one_if, count_by-cons}
use Rattle.phase_work.specs.Written.{bindings_from}

pub sum_same : {X : Type 0} (f g : X → ℕ) (xs : List X) → ((x : X) → f x ≡ g x) → sum_by f xs ≡ sum_by g xs
sum_same f g [] e = refl
sum_same f g (x ∷ xs) e =
    let left = sum_by-cons f x xs in
    let right = sum_by-cons g x xs in
    omega (arith, left, right, e x, sum_same f g xs e)

sum_one : {X : Type 0} (f : X → ℕ) (x : X) → sum_by f (x ∷ []) ≡ f x
sum_one f x =
    let whole = sum_by-cons f x [] in
    omega (arith, whole)

sum_last : (f : ModuleId → ℕ) (b n : ℕ) → sum_by f (bindings_from b (suc n)) ≡ sum_by f (bindings_from b n) + f (Binding (b + n))
sum_last f b zero =
    let same : f (Binding (b + 0)) ≡ f (Binding b) = let none : b + 0 ≡ b = omega arith in ap (λ k. f (Binding k)) none in
    omega (arith, sum_one f (Binding b), same)
sum_last f b (suc n) =
    let same : f (Binding (b + suc n)) ≡ f (Binding (b + 1 + n)) = let next : b + suc n ≡ b + 1 + n = omega arith in ap (λ k. f (Binding k)) next in
    let left = sum_by-cons f (Binding b) (bindings_from (b + 1) (suc n)) in
    let right = sum_by-cons f (Binding b) (bindings_from (b + 1) n) in
    omega (arith, left, right, same, sum_last f (b + 1) n)

-- one more binding
pub sum_more : (f : ModuleId → ℕ) (n : ℕ) → sum_by f (bindings_from 0 (n + 1)) ≡ sum_by f (bindings_from 0 n) + f (Binding n)
sum_more f n =
    let after : n + 1 ≡ suc n = omega arith in
    let here : 0 + n ≡ n = omega arith in
    let same : f (Binding (0 + n)) ≡ f (Binding n) = ap (λ k. f (Binding k)) here in
    let long : sum_by f (bindings_from 0 (n + 1)) ≡ sum_by f (bindings_from 0 (suc n)) = ap (λ k. sum_by f (bindings_from 0 k)) after in
    omega (arith, sum_last f 0 n, same, long)

pub count_same : {X : Type 0} (p q : X → Bool) (xs : List X) → ((x : X) → p x ≡ q x) → count_by p xs ≡ count_by q xs
count_same p q [] e = refl
count_same p q (x ∷ xs) e =
    let left = count_by-cons p x xs in
    let right = count_by-cons q x xs in
    let here : one_if (p x) ≡ one_if (q x) = ap one_if (e x) in
    omega (arith, left, right, here, count_same p q xs e)

pub count_map : {X Y : Type 0} (f : X → Y) (p : Y → Bool) (xs : List X) → count_by (λ x. p (f x)) xs ≡ count_by p (map f xs)
count_map f p [] = refl
count_map f p (x ∷ xs) =
    let left = count_by-cons (λ y. p (f y)) x xs in
    let right = count_by-cons p (f x) (map f xs) in
    omega (arith, left, right, count_map f p xs)
