-- The first element that a test passes.
use Rattle.std.proofs.Common.{◌≡◌, Bool, true, false, cond, List, [], ◌∷◌, Some, option_map, refl, map, find, filter}
use Rattle.stack_rules.specs.declared.LiveList.{LiveList}
use Rattle.stack_rules.specs.Sends.{first_of}

pub find-map : {X Y : Type 0} (p : Y → Bool) (f : X → Y) (xs : List X) → find p (map f xs) ≡ option_map f (find (λ x. p (f x)) xs)
find-map p f [] = refl
find-map {X} {Y} p f (x ∷ xs) =
    elim (p (f x)) as (λ b. cond b (Some (f x)) (find p (map f xs)) ≡ option_map f (cond b (Some x) (find (λ y. p (f y)) xs))) [
      | true ↦ refl
      | false ↦ find-map p f xs
    ]

pub first_of-filter : (p : LiveList → Bool) (ls : List LiveList) → first_of (filter p ls) ≡ find p ls
first_of-filter p [] = refl
first_of-filter p (l ∷ ls) =
    elim (p l) as (λ b. first_of (cond b (l ∷ filter p ls) (filter p ls)) ≡ cond b (Some l) (find p ls)) [
      | true ↦ refl
      | false ↦ first_of-filter p ls
    ]
