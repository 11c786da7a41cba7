-- The calls of one lane, where a call is taken.
use Rattle.std.proofs.Common.{ℕ, ◌≡◌, ◌≢◌, ◌≤◌, ◌<◌, ◌+◌, ◌==◌, ◌&&◌, nat_lt, suc, zero, Bool, true, false, List, [], ◌∷◌, ◌++◌, take, drop, length, get_or, filter, if◌then◌else◌, refl, ap, sym, ◌∙◌, arith, rules, eq-eqb}
use Rattle.std.specs.List.{list_all}
use Rattle.std.proofs.lemmas.List.{append_assoc, append-nil, take_more}
use Rattle.std.proofs.lemmas.Bool.Decides.{nat_tests}
use Rattle.script_types.specs.declared.Call.{Call}
use Rattle.lane_orders.specs.Orders.{calls_of, without_next, taken, left_by, lane_by_lane, is_below}

pub differ : {A : Type 0} → true ≡ false → A
differ e = absurd (cc)

-- a lane's calls without its next one
pub own_without : (lane : ℕ) (xs : List Call) → calls_of lane (without_next lane xs) ≡ drop 1 (calls_of lane xs)
own_without lane [] = refl
own_without lane (c ∷ xs) = by_test (c.lane.0 == lane) refl (own_without lane xs)
  where
    by_test : (b : Bool) → (c.lane.0 == lane) ≡ b → calls_of lane (without_next lane xs) ≡ drop 1 (calls_of lane xs) → calls_of lane (without_next lane (c ∷ xs)) ≡ drop 1 (calls_of lane (c ∷ xs))
    by_test true e later =
        ap (λ (b : Bool). calls_of lane (if b then xs else c ∷ without_next lane xs)) e
        ∙ sym (ap (λ (b : Bool). drop 1 (if b then c ∷ calls_of lane xs else calls_of lane xs)) e)
    by_test false e later =
        ap (λ (b : Bool). calls_of lane (if b then xs else c ∷ without_next lane xs)) e
        ∙ ap (λ (b : Bool). if b then c ∷ calls_of lane (without_next lane xs) else calls_of lane (without_next lane xs)) e
        ∙ later
        ∙ sym (ap (λ (b : Bool). drop 1 (if b then c ∷ calls_of lane xs else calls_of lane xs)) e)

pub differ_lanes : (a l k : ℕ) → (a == l) ≡ true → k ≢ l → (a == k) ≡ false
differ_lanes a l k e ne = grind (arith, nat_tests, e, ne)

-- those of another lane stay
pub others_without : (k lane : ℕ) (xs : List Call) → k ≢ lane → calls_of k (without_next lane xs) ≡ calls_of k xs
others_without k lane [] ne = refl
others_without k lane (c ∷ xs) ne = by_test (c.lane.0 == lane) refl (others_without k lane xs ne)
  where
    by_test : (b : Bool) → (c.lane.0 == lane) ≡ b → calls_of k (without_next lane xs) ≡ calls_of k xs → calls_of k (without_next lane (c ∷ xs)) ≡ calls_of k (c ∷ xs)
    by_test true e later =
        ap (λ (b : Bool). calls_of k (if b then xs else c ∷ without_next lane xs)) e
        ∙ sym (ap (λ (b : Bool). if b then c ∷ calls_of k xs else calls_of k xs) (differ_lanes c.lane.0 lane k e ne))
    by_test false e later =
        ap (λ (b : Bool). calls_of k (if b then xs else c ∷ without_next lane xs)) e
        ∙ ap (λ (ys : List Call). if c.lane.0 == k then c ∷ ys else ys) later

-- an order's calls, and those of its last lane
taken_append : (xs ys : List ℕ) (calls : List Call) → taken (xs ++ ys) calls ≡ taken xs calls ++ taken ys (left_by xs calls)
taken_append [] ys calls = refl
taken_append (lane ∷ xs) ys calls =
    ap (λ (zs : List Call). take 1 (calls_of lane calls) ++ zs) (taken_append xs ys (without_next lane calls))
    ∙ sym (append_assoc (take 1 (calls_of lane calls)) (taken xs (without_next lane calls)) (taken ys (left_by xs (without_next lane calls))))

left_append : (xs ys : List ℕ) (calls : List Call) → left_by (xs ++ ys) calls ≡ left_by ys (left_by xs calls)
left_append [] ys calls = refl
left_append (lane ∷ xs) ys calls = left_append xs ys (without_next lane calls)

pub taken_more : (order : List ℕ) (k d : ℕ) (calls : List Call) → k < length order → taken (take (k + 1) order) calls ≡ taken (take k order) calls ++ take 1 (calls_of (get_or order k d) (left_by (take k order) calls))
taken_more order k d calls less =
    ap (λ (o : List ℕ). taken o calls) (take_more order k d less)
    ∙ taken_append (take k order) (get_or order k d ∷ []) calls
    ∙ ap (λ (zs : List Call). taken (take k order) calls ++ zs) (append-nil (take 1 (calls_of (get_or order k d) (left_by (take k order) calls))))

pub left_more : (order : List ℕ) (k d : ℕ) (calls : List Call) → k < length order → left_by (take (k + 1) order) calls ≡ without_next (get_or order k d) (left_by (take k order) calls)
left_more order k d calls less = ap (λ (o : List ℕ). left_by o calls) (take_more order k d less) ∙ left_append (take k order) (get_or order k d ∷ []) calls

-- one more lane
pub lanes_more : (n : ℕ) (calls : List Call) → lane_by_lane (n + 1) calls ≡ lane_by_lane n calls ++ calls_of n calls
lanes_more n calls = let e : n + 1 ≡ suc n = omega arith in ap (λ (m : ℕ). lane_by_lane m calls) e

both_true : (a b : Bool) → (a && b) ≡ true → a ≡ true
both_true true b e = refl
both_true false b e = differ (sym e)

rest_true : (a b : Bool) → (a && b) ≡ true → b ≡ true
rest_true true b e = e
rest_true false b e = differ (sym e)

not_there : (a lanes lane : ℕ) → nat_lt a lanes ≡ true → lanes ≤ lane → (a == lane) ≡ false
not_there a lanes lane below most = grind (arith, nat_tests, below, most)

-- calls of so many lanes are of no other
pub none_above : (lanes lane : ℕ) (calls : List Call) → list_all (is_below lanes) calls ≡ true → lanes ≤ lane → calls_of lane calls ≡ []
none_above lanes lane [] below most = refl
none_above lanes lane (c ∷ calls) below most =
    ap (λ (b : Bool). if b then c ∷ calls_of lane calls else calls_of lane calls) (not_there c.lane.0 lanes lane (both_true (is_below lanes c) (list_all (is_below lanes) calls) below) most)
    ∙ none_above lanes lane calls (rest_true (is_below lanes c) (list_all (is_below lanes) calls) below) most
