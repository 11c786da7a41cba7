-- The lanes' places, as calls are added.
use Rattle.std.proofs.Common.{ℕ, ◌≡◌, ◌≢◌, ◌⊎◌, inl, inr, ◌≤◌, ◌<◌, ◌+◌, ◌==◌, Bool, true, false, All, Bor, List, [], ◌∷◌, ◌++◌, map, take, drop, length, get_or, set, slice_set, slice_index_or, replicate, if◌then◌else◌, refl, ap, ap₂, sym, subst, ◌∙◌, arith, eq-eqb}
use Rattle.std.specs.List.{list_all}
use Rattle.std.proofs.lemmas.Bool.{cases_lt}
use Rattle.std.proofs.lemmas.Bool.Decides.{nat_tests}
use Rattle.std.proofs.lemmas.List.{append_assoc, append-nil, drop_all, drop_more, get_or-replicate, get_or_past, get_or-set_same, get_or-set_other, get_or_default, length-replicate, map-append}
use Rattle.std.proofs.lemmas.List.Elements.{All-set}
use Rattle.script_types.specs.declared.Call.{Call}
use Rattle.lane_orders.specs.Orders.{calls_of, without_next, taken, left_by, lane_by_lane, ordered, is_below}
use Rattle.lane_orders.specs.Nexts.{left_of, AreWithin, Leaves, MovesOn, MovesAlong}
use Rattle.lane_orders.proofs.Lanes.{own_without, others_without, taken_more, left_more, lanes_more, none_above}

-- two numbers are the same or not
pub same_or_not : (k lane : ℕ) → (k ≡ lane) ⊎ (k ≢ lane)
same_or_not k lane = by_test (k == lane) refl
  where
    by_test : (b : Bool) → (k == lane) ≡ b → (k ≡ lane) ⊎ (k ≢ lane)
    by_test true e = inl (grind (arith, nat_tests, e))
    by_test false e = inr (λ (is : k ≡ lane). grind (arith, nat_tests, e, is))

-- what is left of each lane once a lane's next call is taken
pub leaves_without : (calls : List Call) (nexts nexts' : List ℕ) (lane : ℕ) (rest : List Call)
    → left_of calls nexts' lane ≡ drop 1 (left_of calls nexts lane)
    → ((k : ℕ) → k ≢ lane → left_of calls nexts' k ≡ left_of calls nexts k)
    → Leaves calls nexts rest → Leaves calls nexts' (without_next lane rest)
leaves_without calls nexts nexts' lane rest own others h = record { of = λ k. by_lane k (same_or_not k lane) }
  where
    by_lane : (k : ℕ) → (k ≡ lane) ⊎ (k ≢ lane) → left_of calls nexts' k ≡ calls_of k (without_next lane rest)
    by_lane k (inl is) = subst (λ (j : ℕ). left_of calls nexts' j ≡ calls_of j (without_next lane rest)) (sym is) (own ∙ ap (λ (xs : List Call). drop 1 xs) (h.of lane) ∙ sym (own_without lane rest))
    by_lane k (inr ne) = others k ne ∙ h.of k ∙ sym (others_without k lane rest ne)

-- a lane that has no call left
pub stays : (calls : List Call) (lane : ℕ) (nexts : List ℕ) (made : List Call) → AreWithin calls nexts → left_of calls nexts lane ≡ [] → MovesOn calls lane nexts made nexts made
stays calls lane nexts made within none = record {
  within = within;
  leaves = λ rest h. leaves_without calls nexts nexts lane rest (none ∙ sym (ap (λ (xs : List Call). drop 1 xs) none)) (λ k ne. refl) h;
  adds = sym (append-nil made) ∙ sym (ap (λ (xs : List Call). made ++ take 1 xs) none);
}

pub has_none : (calls : List Call) (lane : ℕ) (nexts : List ℕ) → length nexts ≤ lane → left_of calls nexts lane ≡ []
has_none calls lane nexts past = ap (λ (n : ℕ). calls_of lane (drop n calls)) (get_or_past nexts lane (length calls) past) ∙ ap (calls_of lane) (drop_all (length calls) calls (omega arith))

pub stays_past : (calls : List Call) (lane : ℕ) (nexts : List ℕ) (made : List Call) → AreWithin calls nexts → length nexts ≤ lane → MovesOn calls lane nexts made nexts made
stays_past calls lane nexts made within past = stays calls lane nexts made within (has_none calls lane nexts past)

pub stays_done : (calls : List Call) (lane : ℕ) (nexts : List ℕ) (made : List Call) (at from : ℕ) → AreWithin calls nexts → lane < length nexts → from ≡ get_or nexts lane 0 → length calls ≤ at
    → calls_of lane (drop at calls) ≡ calls_of lane (drop from calls) → MovesOn calls lane nexts made nexts made
stays_done calls lane nexts made at from within there is past same =
    stays calls lane nexts made within
    (ap (λ (n : ℕ). calls_of lane (drop n calls)) (get_or_default nexts lane (length calls) 0 there ∙ sym is) ∙ sym same ∙ ap (calls_of lane) (drop_all at calls past))

-- a lane's next call is added
pub moves : (calls : List Call) (lane : ℕ) (nexts : List ℕ) (made : List Call) (at from : ℕ) (c : Call) → AreWithin calls nexts → lane < length nexts → from ≡ get_or nexts lane 0 → at < length calls
    → calls_of lane (drop at calls) ≡ calls_of lane (drop from calls) → c ≡ get_or calls at c → (get_or calls at c).lane.0 ≡ lane
    → MovesOn calls lane nexts made (slice_set nexts lane (at + 1)) (made ++ c ∷ [])
moves calls lane nexts made at from c within there is less same c_is own =
    let first : calls_of lane (drop at calls) ≡ c ∷ calls_of lane (drop (at + 1) calls) =
    ap (calls_of lane) (drop_more calls at c less)
    ∙ ap (λ (b : Bool). if b then get_or calls at c ∷ calls_of lane (drop (at + 1) calls) else calls_of lane (drop (at + 1) calls)) (eq-eqb (get_or calls at c).lane.0 lane own)
    ∙ ap (λ (x : Call). x ∷ calls_of lane (drop (at + 1) calls)) (sym c_is) in
    let was : left_of calls nexts lane ≡ c ∷ calls_of lane (drop (at + 1) calls) =
    ap (λ (n : ℕ). calls_of lane (drop n calls)) (get_or_default nexts lane (length calls) 0 there ∙ sym is) ∙ sym same ∙ first in
    record {
      within = All-set (λ next. next ≤ length calls) nexts lane (at + 1) (omega (arith, less)) within;
      leaves = λ rest h. leaves_without calls nexts (slice_set nexts lane (at + 1)) lane rest
          (ap (λ (n : ℕ). calls_of lane (drop n calls)) (get_or-set_same nexts lane (at + 1) (length calls) there) ∙ sym (ap (λ (xs : List Call). drop 1 xs) was))
          (λ k ne. ap (λ (n : ℕ). calls_of k (drop n calls)) (get_or-set_other nexts lane k (at + 1) (length calls) ne)) h;
      adds = sym (ap (λ (xs : List Call). made ++ take 1 xs) was);
    }

pub moves_made : (calls : List Call) (lane : ℕ) (nexts : List ℕ) (made made' : List Call) (at from : ℕ) (c : Call) → AreWithin calls nexts → lane < length nexts → from ≡ get_or nexts lane 0 → at < length calls
    → calls_of lane (drop at calls) ≡ calls_of lane (drop from calls) → c ≡ get_or calls at c → (get_or calls at c).lane.0 ≡ lane → made' ≡ made ++ c ∷ []
    → MovesOn calls lane nexts made (slice_set nexts lane (at + 1)) made'
moves_made calls lane nexts made made' at from c within there is less same c_is own made_is =
    subst (MovesOn calls lane nexts made (slice_set nexts lane (at + 1))) (sym made_is) (moves calls lane nexts made at from c within there is less same c_is own)

pub map_pushed : (xs xs' : List (Bor Call)) (x : Bor Call) → xs' ≡ xs ++ x ∷ [] → map (λ (c : Bor Call). c.now) xs' ≡ map (λ (c : Bor Call). c.now) xs ++ x.now ∷ []
map_pushed xs xs' x is = ap (map (λ (c : Bor Call). c.now)) is ∙ map-append (λ (c : Bor Call). c.now) xs (x ∷ [])

-- an order of no lanes, and one lane more
pub along_none : (calls : List Call) (order nexts : List ℕ) (made : List Call) → AreWithin calls nexts → MovesAlong calls (take 0 order) nexts made nexts made
along_none calls order nexts made within = record {
  within = within;
  leaves = λ rest h. h;
  adds = λ rest h. sym (append-nil made);
}

pub along_more : (calls : List Call) (order : List ℕ) (k d : ℕ) (n0 : List ℕ) (m0 : List Call) (n : List ℕ) (m : List Call) (n' : List ℕ) (m' : List Call) → k < length order
    → MovesAlong calls (take k order) n0 m0 n m → MovesOn calls (get_or order k d) n m n' m' → MovesAlong calls (take (k + 1) order) n0 m0 n' m'
along_more calls order k d n0 m0 n m n' m' less along on = record {
  within = on.within;
  leaves = λ rest h. subst (Leaves calls n') (sym (left_more order k d rest less)) (on.leaves (left_by (take k order) rest) (along.leaves rest h));
  adds = λ rest h.
      on.adds
      ∙ ap₂ (λ (xs : List Call) (ys : List Call). xs ++ take 1 ys) (along.adds rest h) ((along.leaves rest h).of (get_or order k d))
      ∙ append_assoc m0 (taken (take k order) rest) (take 1 (calls_of (get_or order k d) (left_by (take k order) rest)))
      ∙ sym (ap (λ (xs : List Call). m0 ++ xs) (taken_more order k d rest less));
}

-- one more lane of those that are left
pub adds_lane : (calls : List Call) (nexts : List ℕ) (m0 m m' : List Call) (k next : ℕ) (rest : List Call) → k < length nexts → next ≡ get_or nexts k 0 → m' ≡ m ++ calls_of k (drop next calls)
    → Leaves calls nexts rest → m ≡ m0 ++ lane_by_lane k rest → m' ≡ m0 ++ lane_by_lane (k + 1) rest
adds_lane calls nexts m0 m m' k next rest there is adds h so_far =
    let of_lane : calls_of k (drop next calls) ≡ calls_of k rest =
    ap (λ (n : ℕ). calls_of k (drop n calls)) (is ∙ sym (get_or_default nexts k (length calls) 0 there)) ∙ h.of k in
    adds ∙ ap₂ (λ (xs : List Call) (ys : List Call). xs ++ ys) so_far of_lane
    ∙ append_assoc m0 (lane_by_lane k rest) (calls_of k rest)
    ∙ sym (ap (λ (xs : List Call). m0 ++ xs) (lanes_more k rest))

-- at first all calls are left
pub all_left : (lanes : ℕ) (calls : List Call) → list_all (is_below lanes) calls ≡ true → Leaves calls (replicate lanes 0) calls
all_left lanes calls below = record { of = λ lane. by_case lane (cases_lt lane lanes) }
  where
    by_case : (lane : ℕ) → (lane < lanes) ⊎ (lanes ≤ lane) → left_of calls (replicate lanes 0) lane ≡ calls_of lane calls
    by_case lane (inl less) = ap (λ (n : ℕ). calls_of lane (drop n calls)) (get_or-replicate lanes lane 0 (length calls) less)
    by_case lane (inr past) =
        ap (λ (n : ℕ). calls_of lane (drop n calls)) (get_or-replicate_past past)
        ∙ ap (calls_of lane) (drop_all (length calls) calls (omega arith))
        ∙ sym (none_above lanes lane calls below past)
      where
        get_or-replicate_past : lanes ≤ lane → get_or (replicate lanes 0) lane (length calls) ≡ length calls
        get_or-replicate_past most = get_or_past (replicate lanes 0) lane (length calls) (subst (λ (n : ℕ). n ≤ lane) (sym (length-replicate lanes 0)) most)

pub adds_all : (order : List ℕ) (calls : List Call) (n0 nexts : List ℕ) (m0 made made' : List Call) → Leaves calls n0 calls → MovesAlong calls order n0 m0 nexts made → length nexts ≡ length n0
    → ((rest : List Call) → Leaves calls nexts rest → made' ≡ made ++ lane_by_lane (length nexts) rest) → made' ≡ m0 ++ ordered (length n0) order calls
adds_all order calls n0 nexts m0 made made' start along many adds =
    adds (left_by order calls) (along.leaves calls start)
    ∙ ap₂ (λ (xs : List Call) (n : ℕ). xs ++ lane_by_lane n (left_by order calls)) (along.adds calls start) many
    ∙ append_assoc m0 (taken order calls) (lane_by_lane (length n0) (left_by order calls))

pub left_at_first : (lanes : ℕ) (calls : List Call) (n0 : List ℕ) → n0 ≡ replicate lanes 0 → list_all (is_below lanes) calls ≡ true → Leaves calls n0 calls
left_at_first lanes calls n0 zeros below = subst (λ (ns : List ℕ). Leaves calls ns calls) (sym zeros) (all_left lanes calls below)

pub in_order : (lanes : ℕ) (order : List ℕ) (calls : List Call) (n0 : List ℕ) (made0 : List (Bor Call)) (made : List Call) → n0 ≡ replicate lanes 0 → made0 ≡ [] → made ≡ map (λ (c : Bor Call). c.now) made0 ++ ordered (length n0) order calls → made ≡ ordered lanes order calls
in_order lanes order calls n0 made0 made zeros none adds =
    adds ∙ ap₂ (λ (xs : List (Bor Call)) (n : ℕ). map (λ (c : Bor Call). c.now) xs ++ ordered n order calls) none (ap length zeros ∙ length-replicate lanes 0)
