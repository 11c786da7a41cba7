-- What is in a list, case by case.
use Rattle.std.proofs.Common.{◌≡◌, ℕ, ◌⊎◌, inl, inr, ⊎_elim, Bool, true, false, cond, List, [], ◌∷◌, ◌++◌, All, flat_map, refl, arith, ap, sym, subst, ◌∙◌, map, filter, append_assoc, ◌||◌}
use Rattle.std.specs.List.{Contains, list_any}
use Rattle.std.proofs.lemmas.List.Elements.{All-nil, All-cons, All-contains, Contains-append_cases}

-- the element is the first one or in the rest
abbrev pub Within : {X : Type 0} → List X → X → Type 0
Within [] x = ⊥
Within (y ∷ ys) x = (y ≡ x) ⊎ Within ys x

-- a part of a list, and what stands around it
pub record HasPart {X : Type 0} (whole part : List X) : Type 0 where
  pub before : List X
  pub later : List X
  pub split : whole ≡ before ++ (part ++ later)

module _ {X : Type 0} where
  pub within-from : (xs : List X) (x : X) → Contains xs x → Within xs x
  within-from [] x c = All-contains (λ y. ⊥) [] x (All-nil (λ y. ⊥)) c
  within-from (y ∷ ys) x c =
      ⊎_elim (λ h. inl (All-contains (λ z. y ≡ z) (y ∷ []) x (All-cons (λ z. y ≡ z) y [] refl (All-nil (λ z. y ≡ z))) h)) (λ h. inr (within-from ys x h)) (Contains-append_cases (y ∷ []) ys x c)

  pub within-left : (xs ys : List X) (x : X) → Within xs x → Within (xs ++ ys) x
  within-left [] ys x h = absurd h
  within-left (y ∷ xs) ys x (inl e) = inl e
  within-left (y ∷ xs) ys x (inr h) = inr (within-left xs ys x h)

  pub within-right : (xs ys : List X) (x : X) → Within ys x → Within (xs ++ ys) x
  within-right [] ys x h = h
  within-right (y ∷ xs) ys x h = inr (within-right xs ys x h)

  pub within-cases : (xs ys : List X) (x : X) → Within (xs ++ ys) x → Within xs x ⊎ Within ys x
  within-cases [] ys x h = inr h
  within-cases (y ∷ xs) ys x (inl e) = inl (inl e)
  within-cases (y ∷ xs) ys x (inr h) = ⊎_elim (λ a. inl (inr a)) (λ b. inr b) (within-cases xs ys x h)

  -- what passes a test
  pub within-filter : (test : X → Bool) (xs : List X) (x : X) → Within xs x → test x ≡ true → Within (filter test xs) x
  within-filter test [] x h t = absurd h
  within-filter test (y ∷ xs) x (inl e) t = let here : test y ≡ true = ap test e ∙ t in rw here (inl e)
  within-filter test (y ∷ xs) x (inr h) t =
      elim (test y) as (λ b. Within (cond b (y ∷ filter test xs) (filter test xs)) x) [
        | true ↦ inr (within-filter test xs x h t)
        | false ↦ within-filter test xs x h t
      ]

  -- and the other way round
  pub passes : (test : X → Bool) (xs : List X) (x : X) → Within (filter test xs) x → Within xs x × (test x ≡ true)
  passes test [] x h = absurd h
  passes test (y ∷ xs) x h = by (test y) refl h (λ r. passes test xs x r)
    where
      by : (b : Bool) → test y ≡ b → Within (cond b (y ∷ filter test xs) (filter test xs)) x → (Within (filter test xs) x → Within xs x × (test x ≡ true)) → Within (y ∷ xs) x × (test x ≡ true)
      by true t (inl e) f = (inl e, ap test (sym e) ∙ t)
      by true t (inr r) f = let rest = f r in (inr rest.0, rest.1)
      by false t r f = let rest = f r in (inr rest.0, rest.1)

  -- what some element passes
  pub some_passes : (test : X → Bool) (xs : List X) → list_any test xs ≡ true → (x : X) × Within xs x × (test x ≡ true)
  some_passes test [] h = cc
  some_passes test (y ∷ xs) h = by (test y) refl h (λ r. some_passes test xs r)
    where
      by : (b : Bool) → test y ≡ b → (b || list_any test xs) ≡ true → (list_any test xs ≡ true → (x : X) × Within xs x × (test x ≡ true)) → (x : X) × Within (y ∷ xs) x × (test x ≡ true)
      by true t h f = (y, inl refl, t)
      by false t h f = let rest = f h in (rest.0, inr rest.1, rest.2)

module _ {X Y : Type 0} (f : X → Y) where
  pub within-map : (xs : List X) (x : X) → Within xs x → Within (map f xs) (f x)
  within-map [] x h = absurd h
  within-map (y ∷ xs) x (inl e) = inl (ap f e)
  within-map (y ∷ xs) x (inr h) = inr (within-map xs x h)

  pub mapped : (xs : List X) (y : Y) → Within (map f xs) y → (x : X) × Within xs x × (f x ≡ y)
  mapped [] y h = absurd h
  mapped (x ∷ xs) y (inl e) = (x, inl refl, e)
  mapped (x ∷ xs) y (inr h) = let rest = mapped xs y h in (rest.0, inr rest.1, rest.2)

module _ {X Y : Type 0} (f : X → List Y) where
  pub within-flat_map : (xs : List X) (x : X) (y : Y) → Within xs x → Within (f x) y → Within (flat_map f xs) y
  within-flat_map [] x y h k = absurd h
  within-flat_map (z ∷ xs) x y (inl e) k = within-left (f z) (flat_map f xs) y (subst (λ w. Within (f w) y) (sym e) k)
  within-flat_map (z ∷ xs) x y (inr h) k = within-right (f z) (flat_map f xs) y (within-flat_map xs x y h k)

  pub flat_mapped : (xs : List X) (y : Y) → Within (flat_map f xs) y → (x : X) × Within xs x × Within (f x) y
  flat_mapped [] y h = absurd h
  flat_mapped (x ∷ xs) y h = by (within-cases (f x) (flat_map f xs) y h) (λ r. flat_mapped xs y r)
    where
      by : Within (f x) y ⊎ Within (flat_map f xs) y → (Within (flat_map f xs) y → (z : X) × Within xs z × Within (f z) y) → (z : X) × Within (x ∷ xs) z × Within (f z) y
      by (inl a) g = (x, inl refl, a)
      by (inr b) g = let rest = g b in (rest.0, inr rest.1, rest.2)

  pub part_of : (xs : List X) (x : X) → Within xs x → HasPart (flat_map f xs) (f x)
  part_of [] x h = absurd h
  part_of (z ∷ xs) x (inl e) = record { before = []; later = flat_map f xs; split = ap (λ w. f w ++ flat_map f xs) e }
  part_of (z ∷ xs) x (inr h) =
      let rest = part_of xs x h in
      record { before = f z ++ rest.before; later = rest.later; split = ap (λ r. f z ++ r) rest.split ∙ sym (append_assoc (f z) rest.before (f x ++ rest.later)) }
