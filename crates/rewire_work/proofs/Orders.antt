-- The orders of filters, and the filters that are attached, as one comes and one goes.
use Rattle.std.proofs.Common.{◌≡◌, ℕ, zero, suc, ◌<◌, ◌==◌, ◌||◌, not, Bool, true, false, cond, List, [], ◌∷◌, ◌++◌, Some, None, filter, refl, sym, ap, ◌∙◌, arith, ◌⊎◌, inl, inr, ne_eqb}
use Rattle.std.specs.List.{insert}
use Rattle.std.proofs.lemmas.Bool.{cond-false}
use Rattle.std.proofs.lemmas.Bool.Decides.{nat_tests}
use Rattle.stack_rules.specs.declared.Attached.{Attached}
use Rattle.stack_rules.specs.Net.{attached}
use Rattle.stack_rules.specs.Rewires.{is_in}
use Rattle.state_laws.specs.Shape.{AllBelow, AllIn}

pub fresh : (n : ℕ) (fs : List ℕ) → AllBelow n fs → is_in n fs ≡ false
fresh n [] h = refl
fresh n (f ∷ fs) h =
    let less : f < n = h.0 in
    let rest : is_in n fs ≡ false = fresh n fs h.1 in
    grind (arith, nat_tests)

pub is_in-insert : (g f i : ℕ) (fs : List ℕ) → is_in g (insert fs i f) ≡ ((f == g) || is_in g fs)
is_in-insert g f zero fs = refl
is_in-insert g f (suc i) [] = refl
is_in-insert g f (suc i) (h ∷ fs) = rw (is_in-insert g f i fs) (swap (h == g) (f == g) (is_in g fs))
  where
    swap : (a b c : Bool) → (a || (b || c)) ≡ (b || (a || c))
    swap true true c = refl
    swap true false c = refl
    swap false b c = refl

pub one_or_in : (f g : ℕ) (b : Bool) → ((f == g) || b) ≡ true → (g ≡ f) ⊎ (b ≡ true)
one_or_in f g b h = cases (f == g) refl h
  where
    cases : (c : Bool) → (f == g) ≡ c → (c || b) ≡ true → (g ≡ f) ⊎ (b ≡ true)
    cases true t h = inl (grind (arith, nat_tests))
    cases false t h = inr h

-- a filter of the longer order is the new one, or of the order before
pub in_longer : (g f i : ℕ) (fs : List ℕ) → is_in g (insert fs i f) ≡ true → (g ≡ f) ⊎ (is_in g fs ≡ true)
in_longer g f i fs h = one_or_in f g (is_in g fs) (sym (is_in-insert g f i fs) ∙ h)

-- the filter that is new, and the others
pub attached_new : (f : ℕ) (order : List ℕ) (entries : List Attached) (a : Attached) → a.filter ≡ f → is_in f order ≡ false → AllIn order entries → attached f (entries ++ a ∷ []) ≡ Some a
attached_new f order [] a e n h = grind (arith, nat_tests)
attached_new f order (x ∷ entries) a e n h =
    let rest : attached f (entries ++ a ∷ []) ≡ Some a = attached_new f order entries a e n h.1 in
    let cases : (b : Bool) → (x.filter == f) ≡ b → cond b (Some x) (attached f (entries ++ a ∷ [])) ≡ Some a = elim [
      | true ↦ λ t. let same : x.filter ≡ f = grind (arith, nat_tests) in absurd (cc (h.0, ap (λ g. is_in g order) same, n))
      | false ↦ λ t. rest
    ] in
    cases (x.filter == f) refl

pub attached_old : (g : ℕ) (entries : List Attached) (a : Attached) → (a.filter == g) ≡ false → attached g (entries ++ a ∷ []) ≡ attached g entries
attached_old g [] a e = rw e refl
attached_old g (x ∷ entries) a e = rw (attached_old g entries a e) refl

-- the filters that are attached but one
abbrev pub less : ℕ → List Attached → List Attached
less f entries = filter (λ a. not (a.filter == f)) entries

pub attached_gone : (f : ℕ) (entries : List Attached) → attached f (less f entries) ≡ None
attached_gone f [] = refl
attached_gone f (x ∷ entries) = cases (x.filter == f) refl (attached_gone f entries)
  where
    cases : (b : Bool) → (x.filter == f) ≡ b → attached f (less f entries) ≡ None → attached f (cond (not b) (x ∷ less f entries) (less f entries)) ≡ None
    cases true t rest = rest
    cases false t rest = cond-false (x.filter == f) (Some x) (attached f (less f entries)) t ∙ rest

pub attached_less : (g f : ℕ) (entries : List Attached) → (g ≡ f → ⊥) → attached g (less f entries) ≡ attached g entries
attached_less g f [] ne = refl
attached_less g f (x ∷ entries) ne = cases (x.filter == f) refl (attached_less g f entries ne)
  where
    cases : (b : Bool) → (x.filter == f) ≡ b → attached g (less f entries) ≡ attached g entries → attached g (cond (not b) (x ∷ less f entries) (less f entries)) ≡ cond (x.filter == g) (Some x) (attached g entries)
    cases true t rest =
        let at : x.filter ≡ f = grind (arith, nat_tests) in
        rest ∙ sym (cond-false (x.filter == g) (Some x) (attached g entries) (ne_eqb x.filter g (λ e. ne (sym e ∙ at))))
    cases false t rest = ap (cond (x.filter == g) (Some x)) rest

-- the order without a filter
pub in_shorter : (g f : ℕ) (fs : List ℕ) → is_in g (filter (λ h. not (h == f)) fs) ≡ true → is_in g fs ≡ true
in_shorter g f [] h = h
in_shorter g f (x ∷ fs) h = cases (x == f) h (in_shorter g f fs)
  where
    more : (a b : Bool) → b ≡ true → (a || b) ≡ true
    more true b h = refl
    more false b h = h

    either : (a b c : Bool) → (a || b) ≡ true → (b ≡ true → c ≡ true) → (a || c) ≡ true
    either true b c h k = refl
    either false b c h k = k h

    cases : (b : Bool) → is_in g (cond (not b) (x ∷ filter (λ h. not (h == f)) fs) (filter (λ h. not (h == f)) fs)) ≡ true
        → (is_in g (filter (λ h. not (h == f)) fs) ≡ true → is_in g fs ≡ true) → ((x == g) || is_in g fs) ≡ true
    cases true h rest = more (x == g) (is_in g fs) (rest h)
    cases false h rest = either (x == g) (is_in g (filter (λ h. not (h == f)) fs)) (is_in g fs) h rest

-- a filter of the order has a number below the next one
pub in_below : (g n : ℕ) (fs : List ℕ) → AllBelow n fs → is_in g fs ≡ true → g < n
in_below g n [] h i = cc
in_below g n (f ∷ fs) h i = cases (f == g) refl i (in_below g n fs h.1)
  where
    cases : (b : Bool) → (f == g) ≡ b → (b || is_in g fs) ≡ true → (is_in g fs ≡ true → g < n) → g < n
    cases true t i rest = let same : f ≡ g = grind (arith, nat_tests) in omega (arith, h.0, same)
    cases false t i rest = rest i
