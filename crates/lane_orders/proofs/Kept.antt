-- Calls that are put in order are the same calls, and those of each lane stay in their order.
use Rattle.std.proofs.Common.{ℕ, ◌≡◌, ◌≢◌, ◌⊎◌, inl, inr, ◌≤◌, ◌<◌, ◌+◌, ◌==◌, ◌&&◌, suc, zero, Bool, true, false, List, [], ◌∷◌, ◌++◌, take, drop, filter, if◌then◌else◌, refl, ap, ap₂, sym, subst, ◌∙◌, arith, eq-eqb}
use Rattle.std.specs.List.{list_all}
use Rattle.std.proofs.lemmas.Bool.{cases_lt}
use Rattle.std.proofs.lemmas.Bool.Decides.{nat_tests}
use Rattle.std.proofs.lemmas.List.{append_assoc, append-nil, take-append-drop}
use Rattle.std.proofs.lemmas.List.Elements.{filter-append}
use Rattle.script_types.specs.declared.Call.{Call}
use Rattle.lane_orders.specs.Orders.{calls_of, without_next, taken, left_by, lane_by_lane, ordered, is_below}
use Rattle.lane_orders.proofs.Lanes.{differ, differ_lanes, own_without, others_without, none_above}
use Rattle.lane_orders.proofs.Moves.{same_or_not}

-- all are calls of a lane
abbrev AreOf : ℕ → List Call → Type 0
AreOf lane [] = Unit {0}
AreOf lane (c ∷ cs) = ((c.lane.0 == lane) ≡ true) × AreOf lane cs

are_of : (lane : ℕ) (xs : List Call) → AreOf lane (calls_of lane xs)
are_of lane [] = tt
are_of lane (c ∷ xs) = by_test (c.lane.0 == lane) refl (are_of lane xs)
  where
    by_test : (b : Bool) → (c.lane.0 == lane) ≡ b → AreOf lane (calls_of lane xs) → AreOf lane (calls_of lane (c ∷ xs))
    by_test true e later = subst (λ (b : Bool). AreOf lane (if b then c ∷ calls_of lane xs else calls_of lane xs)) (sym e) (e, later)
    by_test false e later = subst (λ (b : Bool). AreOf lane (if b then c ∷ calls_of lane xs else calls_of lane xs)) (sym e) later

first_of : (lane : ℕ) (ys : List Call) → AreOf lane ys → AreOf lane (take 1 ys)
first_of lane [] a = tt
first_of lane (c ∷ ys) a = (a.0, tt)

same_of : (lane : ℕ) (ys : List Call) → AreOf lane ys → calls_of lane ys ≡ ys
same_of lane [] a = refl
same_of lane (c ∷ ys) a = ap (λ (b : Bool). if b then c ∷ calls_of lane ys else calls_of lane ys) a.0 ∙ ap (λ (zs : List Call). c ∷ zs) (same_of lane ys a.1)

none_of : (k lane : ℕ) (ys : List Call) → k ≢ lane → AreOf lane ys → calls_of k ys ≡ []
none_of k lane [] ne a = refl
none_of k lane (c ∷ ys) ne a = ap (λ (b : Bool). if b then c ∷ calls_of k ys else calls_of k ys) (differ_lanes c.lane.0 lane k a.0 ne) ∙ none_of k lane ys ne a.1

calls_append : (k : ℕ) (xs ys : List Call) → calls_of k (xs ++ ys) ≡ calls_of k xs ++ calls_of k ys
calls_append k xs ys = filter-append (λ (c : Call). c.lane.0 == k) xs ys

-- what an order takes and leaves of a lane
taken_kept : (k : ℕ) (order : List ℕ) (calls : List Call) → calls_of k (taken order calls) ++ calls_of k (left_by order calls) ≡ calls_of k calls
taken_kept k [] calls = refl
taken_kept k (lane ∷ order) calls =
    ap (λ (xs : List Call). xs ++ calls_of k (left_by order (without_next lane calls))) (calls_append k (take 1 (calls_of lane calls)) (taken order (without_next lane calls)))
    ∙ append_assoc (calls_of k (take 1 (calls_of lane calls))) (calls_of k (taken order (without_next lane calls))) (calls_of k (left_by order (without_next lane calls)))
    ∙ ap (λ (xs : List Call). calls_of k (take 1 (calls_of lane calls)) ++ xs) (taken_kept k order (without_next lane calls))
    ∙ by_lane (same_or_not k lane)
  where
    own : calls_of lane (take 1 (calls_of lane calls)) ++ calls_of lane (without_next lane calls) ≡ calls_of lane calls
    own =
        ap₂ (λ (xs : List Call) (ys : List Call). xs ++ ys) (same_of lane (take 1 (calls_of lane calls)) (first_of lane (calls_of lane calls) (are_of lane calls))) (own_without lane calls)
        ∙ take-append-drop 1 (calls_of lane calls)

    by_lane : (k ≡ lane) ⊎ (k ≢ lane) → calls_of k (take 1 (calls_of lane calls)) ++ calls_of k (without_next lane calls) ≡ calls_of k calls
    by_lane (inl is) = subst (λ (j : ℕ). calls_of j (take 1 (calls_of lane calls)) ++ calls_of j (without_next lane calls) ≡ calls_of j calls) (sym is) own
    by_lane (inr ne) =
        ap₂ (λ (xs : List Call) (ys : List Call). xs ++ ys) (none_of k lane (take 1 (calls_of lane calls)) ne (first_of lane (calls_of lane calls) (are_of lane calls))) (others_without k lane calls ne)

-- lane by lane
lanes_none : (k lanes : ℕ) (calls : List Call) → lanes ≤ k → calls_of k (lane_by_lane lanes calls) ≡ []
lanes_none k zero calls most = refl
lanes_none k (suc n) calls most =
    calls_append k (lane_by_lane n calls) (calls_of n calls)
    ∙ ap₂ (λ (xs : List Call) (ys : List Call). xs ++ ys) (lanes_none k n calls (omega (arith, most))) (none_of k n (calls_of n calls) (λ (is : k ≡ n). omega (arith, most, is)) (are_of n calls))

lanes_kept : (k lanes : ℕ) (calls : List Call) → k < lanes → calls_of k (lane_by_lane lanes calls) ≡ calls_of k calls
lanes_kept k zero calls less = absurd (omega (arith, less))
lanes_kept k (suc n) calls less = calls_append k (lane_by_lane n calls) (calls_of n calls) ∙ by_lane (same_or_not k n) (λ more. lanes_kept k n calls more)
  where
    by_lane : (k ≡ n) ⊎ (k ≢ n) → (k < n → calls_of k (lane_by_lane n calls) ≡ calls_of k calls) → calls_of k (lane_by_lane n calls) ++ calls_of k (calls_of n calls) ≡ calls_of k calls
    by_lane (inl is) later =
        subst (λ (j : ℕ). calls_of j (lane_by_lane n calls) ++ calls_of j (calls_of n calls) ≡ calls_of j calls) (sym is)
        (ap₂ (λ (xs : List Call) (ys : List Call). xs ++ ys) (lanes_none n n calls (omega arith)) (same_of n (calls_of n calls) (are_of n calls)))
    by_lane (inr ne) later =
        ap₂ (λ (xs : List Call) (ys : List Call). xs ++ ys) (later (omega (arith, less, ne))) (none_of k n (calls_of n calls) ne (are_of n calls))
        ∙ append-nil (calls_of k calls)

nothing_before : (xs ys : List Call) → xs ++ ys ≡ [] → xs ≡ []
nothing_before [] ys e = refl
nothing_before (x ∷ xs) ys e = cc

-- each lane's calls stay, in their order
pub lane_kept : (k lanes : ℕ) (order : List ℕ) (calls : List Call) → list_all (is_below lanes) calls ≡ true → calls_of k (ordered lanes order calls) ≡ calls_of k calls
lane_kept k lanes order calls below = calls_append k (taken order calls) (lane_by_lane lanes (left_by order calls)) ∙ by_case (cases_lt k lanes)
  where
    by_case : (k < lanes) ⊎ (lanes ≤ k) → calls_of k (taken order calls) ++ calls_of k (lane_by_lane lanes (left_by order calls)) ≡ calls_of k calls
    by_case (inl less) = ap (λ (xs : List Call). calls_of k (taken order calls) ++ xs) (lanes_kept k lanes (left_by order calls) less) ∙ taken_kept k order calls
    by_case (inr most) =
        let none : calls_of k calls ≡ [] = none_above lanes k calls below most in
        ap₂ (λ (xs : List Call) (ys : List Call). xs ++ ys) (nothing_before (calls_of k (taken order calls)) (calls_of k (left_by order calls)) (taken_kept k order calls ∙ none)) (lanes_none k lanes (left_by order calls) most)
        ∙ sym none

-- what holds of all calls holds of them in order
abbrev Holds : (Call → Bool) → List Call → Type 0
Holds p xs = list_all p xs ≡ true

first_true : (a b : Bool) → (a && b) ≡ true → a ≡ true
first_true true b e = refl
first_true false b e = differ (sym e)

last_true : (a b : Bool) → (a && b) ≡ true → b ≡ true
last_true true b e = e
last_true false b e = differ (sym e)

two_true : (a b : Bool) → a ≡ true → b ≡ true → (a && b) ≡ true
two_true true b e f = f
two_true false b e f = e

holds_append : (p : Call → Bool) (xs ys : List Call) → Holds p xs → Holds p ys → Holds p (xs ++ ys)
holds_append p [] ys a b = b
holds_append p (x ∷ xs) ys a b = two_true (p x) (list_all p (xs ++ ys)) (first_true (p x) (list_all p xs) a) (holds_append p xs ys (last_true (p x) (list_all p xs) a) b)

holds_of : (p : Call → Bool) (lane : ℕ) (xs : List Call) → Holds p xs → Holds p (calls_of lane xs)
holds_of p lane [] a = refl
holds_of p lane (c ∷ xs) a = by_test (c.lane.0 == lane) (holds_of p lane xs (last_true (p c) (list_all p xs) a))
  where
    by_test : (b : Bool) → Holds p (calls_of lane xs) → Holds p (if b then c ∷ calls_of lane xs else calls_of lane xs)
    by_test true later = two_true (p c) (list_all p (calls_of lane xs)) (first_true (p c) (list_all p xs) a) later
    by_test false later = later

holds_first : (p : Call → Bool) (ys : List Call) → Holds p ys → Holds p (take 1 ys)
holds_first p [] a = refl
holds_first p (c ∷ ys) a = two_true (p c) true (first_true (p c) (list_all p ys) a) refl

holds_without : (p : Call → Bool) (lane : ℕ) (xs : List Call) → Holds p xs → Holds p (without_next lane xs)
holds_without p lane [] a = refl
holds_without p lane (c ∷ xs) a = by_test (c.lane.0 == lane) (holds_without p lane xs (last_true (p c) (list_all p xs) a))
  where
    by_test : (b : Bool) → Holds p (without_next lane xs) → Holds p (if b then xs else c ∷ without_next lane xs)
    by_test true later = last_true (p c) (list_all p xs) a
    by_test false later = two_true (p c) (list_all p (without_next lane xs)) (first_true (p c) (list_all p xs) a) later

holds_taken : (p : Call → Bool) (order : List ℕ) (calls : List Call) → Holds p calls → Holds p (taken order calls)
holds_taken p [] calls a = refl
holds_taken p (lane ∷ order) calls a =
    holds_append p (take 1 (calls_of lane calls)) (taken order (without_next lane calls)) (holds_first p (calls_of lane calls) (holds_of p lane calls a))
    (holds_taken p order (without_next lane calls) (holds_without p lane calls a))

holds_left : (p : Call → Bool) (order : List ℕ) (calls : List Call) → Holds p calls → Holds p (left_by order calls)
holds_left p [] calls a = a
holds_left p (lane ∷ order) calls a = holds_left p order (without_next lane calls) (holds_without p lane calls a)

holds_lanes : (p : Call → Bool) (lanes : ℕ) (calls : List Call) → Holds p calls → Holds p (lane_by_lane lanes calls)
holds_lanes p zero calls a = refl
holds_lanes p (suc n) calls a = holds_append p (lane_by_lane n calls) (calls_of n calls) (holds_lanes p n calls a) (holds_of p n calls a)

pub all_kept : (p : Call → Bool) (lanes : ℕ) (order : List ℕ) (calls : List Call) → list_all p calls ≡ true → list_all p (ordered lanes order calls) ≡ true
all_kept p lanes order calls a =
    holds_append p (taken order calls) (lane_by_lane lanes (left_by order calls)) (holds_taken p order calls a)
    (holds_lanes p lanes (left_by order calls) (holds_left p order calls a))
