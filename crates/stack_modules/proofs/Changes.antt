-- A list of which one more is changed.
use Rattle.std.proofs.Common.{◌≡◌, ℕ, zero, suc, ◌+◌, ◌<◌, List, [], ◌∷◌, ◌++◌, length, get_or, set, map, take, drop, refl, ap, ◌∙◌, arith}
use Rattle.std.proofs.lemmas.Bool.Decides.{nat_tests}
use Rattle.ndis_base.specs.declared.ModuleState.{ModuleState}
use Rattle.stack_rules.specs.declared.Attached.{Attached}
use Rattle.stack_rules.specs.Net.{with_state}

-- the next is changed after those in front of it
mapped_suc : {X : Type 0} (f : X → X) (xs : List X) (i : ℕ) (d : X) → i < length xs
    → set (map f (take i xs) ++ drop i xs) i (f (get_or xs i d)) ≡ map f (take (suc i) xs) ++ drop (suc i) xs
mapped_suc f [] i d lt = absurd (omega (arith, lt))
mapped_suc f (x ∷ xs) zero d lt = refl
mapped_suc f (x ∷ xs) (suc i) d lt = ap (λ ys. f x ∷ ys) (mapped_suc f xs i d (omega (arith, lt)))

mapped_more : {X : Type 0} (f : X → X) (xs : List X) (i : ℕ) (d : X) → i < length xs
    → set (map f (take i xs) ++ drop i xs) i (f (get_or xs i d)) ≡ map f (take (i + 1) xs) ++ drop (i + 1) xs
mapped_more f xs i d lt =
    let next : suc i ≡ i + 1 = omega arith in
    mapped_suc f xs i d lt ∙ ap (λ n. map f (take n xs) ++ drop n xs) next

-- an element that isn't reached yet
mapped_at : {X : Type 0} (f : X → X) (xs : List X) (i : ℕ) (d : X) → i < length xs
    → get_or (map f (take i xs) ++ drop i xs) i d ≡ get_or xs i d
mapped_at f [] i d lt = absurd (omega (arith, lt))
mapped_at f (x ∷ xs) zero d lt = refl
mapped_at f (x ∷ xs) (suc i) d lt = mapped_at f xs i d (omega (arith, lt))

-- the next of a list that is changed so far
pub next_changed : {X : Type 0} (f : X → X) (xs ys zs : List X) (i : ℕ) (y d : X) → i < length xs → ys ≡ map f (take i xs) ++ drop i xs
    → y ≡ f (get_or ys i d) → zs ≡ set ys i y → zs ≡ map f (take (i + 1) xs) ++ drop (i + 1) xs
next_changed f xs ys zs i y d lt so_far is put =
    put
    ∙ ap (λ x. set ys i x) (is ∙ ap (λ l. f (get_or l i d)) so_far ∙ ap f (mapped_at f xs i d lt))
    ∙ ap (λ l. set l i (f (get_or xs i d))) so_far
    ∙ mapped_more f xs i d lt

-- a filter of this number takes the state, and each other has its own
pub state_put : (f : ℕ) (s : ModuleState) (a : Attached) → a.filter ≡ f → record a { state = s } ≡ with_state f s a
state_put f s a e = grind (arith, nat_tests)

pub state_left : (f : ℕ) (s : ModuleState) (a : Attached) → (a.filter ≡ f → ⊥) → a ≡ with_state f s a
state_left f s a ne = grind (arith, nat_tests)
