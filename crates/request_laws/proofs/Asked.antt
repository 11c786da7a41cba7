-- What is kept of the requests and their answers from turn to turn. A request is looked up by its number.
use Rattle.std.proofs.Common.{◌≡◌, ℕ, ◌<◌, ◌==◌, Bool, true, false, not, cond, List, [], ◌∷◌, ◌++◌, Option, Some, None, filter, refl, arith}
use Rattle.std.proofs.lemmas.Bool.Decides.{nat_tests}
use Rattle.ndis_base.specs.declared.ModuleId.TheVariants.{Filter}
use Rattle.ndis_base.specs.declared.OidNo.{OidNo}
use Rattle.stack_rules.specs.declared.Answered.{Answered}
use Rattle.stack_rules.specs.declared.Request.{Request}
use Rattle.stack_rules.specs.declared.RequestAt.{RequestAt}
use Rattle.stack_rules.specs.declared.RequestAt.TheVariants as at
use Rattle.stack_rules.specs.Places.{position}
use Rattle.stack_rules.specs.Rewires.{is_in}

-- the position that a request waits at or is given to
abbrev pub place_in : List ℕ → RequestAt → ℕ
place_in order at.Entry = 0
place_in order (at.Waiting m) = position order m
place_in order (at.Given m) = position order m

-- a request is found, and given to this filter of the order
pub record IsHeld (order : List ℕ) (found : ℕ → Option Request) (n filter : ℕ) : Type 0 where
  pub request : Request
  pub here : found n ≡ Some request
  pub at : request.at ≡ at.Given (Filter filter)
  pub there : is_in filter order ≡ true

-- the request of this number is held above a place
pub record IsAbove (order : List ℕ) (found : ℕ → Option Request) (place : RequestAt) (n : ℕ) : Type 0 where
  pub filter : ℕ
  pub parent : IsHeld order found n filter
  pub below : position order (Filter filter) < place_in order place

-- a filter of the order has the request
abbrev pub HasHolder : List ℕ → (ℕ → Option Request) → ℕ → Type 0
HasHolder order found n = (filter : ℕ) × IsHeld order found n filter

-- a fact of each answer
abbrev pub Each : (Answered → Type 0) → List Answered → Type 0
Each P [] = Unit {0}
Each P (a ∷ others) = P a × Each P others

-- no request is a clone of the one of this number
abbrev pub HasNoClone : (ℕ → Option Request) → ℕ → Type 0
HasNoClone found n = (m : ℕ) (r : Request) (g : OidNo) → found m ≡ Some r → r.parent ≡ Some g → g.0 ≡ n → ⊥

-- Each number is below the next; a clone's parent is held above it; a request has one clone or one answer at most,
-- and an answer's parent is held.
pub record AreKept (order : List ℕ) (found : ℕ → Option Request) (answers : List Answered) (next : ℕ) : Type 0 where
  pub named : (n : ℕ) (r : Request) → found n ≡ Some r → r.request.0 ≡ n
  pub below : (n : ℕ) (r : Request) → found n ≡ Some r → n < next
  pub asked : (n : ℕ) (r : Request) (g : OidNo) → found n ≡ Some r → r.parent ≡ Some g → IsAbove order found r.at g.0
  pub single : (n m : ℕ) (r q : Request) (g h : OidNo) → found n ≡ Some r → found m ≡ Some q → r.parent ≡ Some g → q.parent ≡ Some h → g.0 ≡ h.0 → n ≡ m
  pub held : Each (λ a. HasHolder order found a.parent.0) answers
  pub alone : Each (λ a. HasNoClone found a.parent.0) answers

pub Each-implies : (P Q : Answered → Type 0) → ((a : Answered) → P a → Q a) → (answers : List Answered) → Each P answers → Each Q answers
Each-implies P Q f [] h = tt
Each-implies P Q f (a ∷ answers) h = (f a h.0, Each-implies P Q f answers h.1)

pub Each-both : (P Q R : Answered → Type 0) → ((a : Answered) → P a → Q a → R a) → (answers : List Answered) → Each P answers → Each Q answers → Each R answers
Each-both P Q R f [] p q = tt
Each-both P Q R f (a ∷ answers) p q = (f a p.0 q.0, Each-both P Q R f answers p.1 q.1)

pub Each-append : (P : Answered → Type 0) (answers more : List Answered) → Each P answers → Each P more → Each P (answers ++ more)
Each-append P [] more h k = k
Each-append P (a ∷ answers) more h k = (h.0, Each-append P answers more h.1 k)

-- the answers but those to a request
abbrev pub answers_but : ℕ → List Answered → List Answered
answers_but n answers = filter (λ a. not (a.parent.0 == n)) answers

pub Each-but : (P Q : Answered → Type 0) (n : ℕ) → ((a : Answered) → (a.parent.0 == n) ≡ false → P a → Q a) → (answers : List Answered) → Each P answers → Each Q (answers_but n answers)
Each-but P Q n f [] h = tt
Each-but P Q n f (a ∷ answers) h =
    let rest : Each Q (answers_but n answers) = Each-but P Q n f answers h.1 in
    let cases : (b : Bool) → (a.parent.0 == n) ≡ b → Each Q (cond (not b) (a ∷ answers_but n answers) (answers_but n answers)) = elim [
      | true ↦ λ t. rest
      | false ↦ λ t. (f a t h.0, rest)
    ] in
    cases (a.parent.0 == n) refl

pub some_same : {A : Type 0} (x y : A) → Some x ≡ Some y → x ≡ y
some_same x y e = cc

pub none_some : {A : Type 0} (x : A) → None ≡ Some x → ⊥
none_some x e = cc

pub is_equal : (n m : ℕ) → (n == m) ≡ true → n ≡ m
is_equal n m e = grind (arith, nat_tests)

pub is_apart : (n m : ℕ) → (n == m) ≡ false → n ≡ m → ⊥
is_apart n m e f = grind (arith, nat_tests)

pub apart : (n m : ℕ) → (n ≡ m → ⊥) → (n == m) ≡ false
apart n m f = cases (n == m) refl
  where
    cases : (b : Bool) → (n == m) ≡ b → b ≡ false
    cases true t = absurd (f (is_equal n m t))
    cases false t = refl
