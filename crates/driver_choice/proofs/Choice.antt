-- Which drivers a stack takes.
use Rattle.std.proofs.Common.{◌≡◌, ℕ, zero, suc, ◌+◌, ◌-◌, ◌<◌, ◌≤◌, ◌↔◌, Bool, true, false, cond, List, [], ◌∷◌, ◌++◌, Option, Some, None, length, map, take, drop, slice_index_or, count_by, All, add-one, refl, sym, ◌∙◌, ap, subst, arith, append_assoc}
use Rattle.std.specs.Prelude.{position, option_and_then}
use Rattle.std.specs.List.{position_from}
use Rattle.std.proofs.lemmas.List.{length-map, map-append, drop_more, drop_all, take_all, get_or-map}
use Rattle.std.proofs.lemmas.List.Sums.{count_by_more_yes, count_by_more_no}
use Rattle.std.proofs.lemmas.List.Elements.{All-nil, All-cons, All-rest}
use Rattle.std.proofs.lemmas.List.Quantifiers.{position-Some}
use Rattle.std.proofs.lemmas.Iterator.Adapters.{position_from-zero}
use Rattle.ndis_base.specs.declared.MiniportKind.{MiniportKind}
use Rattle.ndis_base.specs.declared.MiniportKind.TheVariants as miniport_kind
use Rattle.ndis_base.specs.declared.ProtocolKind.{ProtocolKind}
use Rattle.ndis_base.specs.declared.ProtocolKind.TheVariants as protocol_kind
use Rattle.journal_types.specs.declared.StackHead.{StackHead}
use Rattle.driver_views.specs.States.{MiniportState, ProtocolState}
use Rattle.promise_rules.specs.Drivers.{same_miniport_kind, same_protocol_kind}
use Rattle.rule_basics.proofs.Counts.{one_if, count_by-cons}
use Rattle.driver_choice.specs.Parts.{PartsView}
use Rattle.driver_choice.specs.Chosen.{is_miniport, is_protocol, is_for, behind, first_of, with_first, protocols_for, LacksProtocols, Lacks, no_miniport, few_protocols, Chooses}

-- the view of an element
view_at : {X S : Type 0} (f : X → S) (xs : List X) (i : ℕ) (x : X) → i < length xs → x ≡ slice_index_or xs i x → f x ≡ slice_index_or (map f xs) i (f x)
view_at f xs i x h e = sym (get_or-map f xs i x (f x) h ∙ ap f (sym e))

some_same : {A : Type 0} (x y : A) → Some x ≡ Some y → x ≡ y
some_same x y e = cc

-- two cases of a test
split : {Q : Type 0} (b : Bool) → (b ≡ true → Q) → (b ≡ false → Q) → Q
split true f g = f refl
split false f g = g refl

-- what is left of the views starts with the view of this one
front : {X S : Type 0} (f : X → S) (xs : List X) (i : ℕ) (x : X) → i < length xs → x ≡ slice_index_or xs i x → drop i (map f xs) ≡ f x ∷ drop (i + 1) (map f xs)
front f xs i x h e =
    drop_more (map f xs) i (f x) (omega (arith, length-map xs f)) ∙ ap (λ s. s ∷ drop (i + 1) (map f xs)) (sym (view_at f xs i x h e))

-- a search starts at the first
pub begun : {X S : Type 0} (p : S → Bool) (f : X → S) (xs : List X) → position p (map f xs) ≡ position_from p 0 (drop 0 (map f xs))
begun p f xs = position_from-zero p (map f xs)

-- a search goes on behind one that doesn't pass
pub passed_over : {X S : Type 0} (p : S → Bool) (f : X → S) (xs : List X) (i : ℕ) (x : X) → i < length xs → x ≡ slice_index_or xs i x → p (f x) ≡ false
    → position p (map f xs) ≡ position_from p i (drop i (map f xs)) → position p (map f xs) ≡ position_from p (i + 1) (drop (i + 1) (map f xs))
passed_over p f xs i x h e fails was =
    was ∙ ap (position_from p i) (front f xs i x h e) ∙ ap (λ b. cond b (Some i) (position_from p (i + 1) (drop (i + 1) (map f xs)))) fails

-- it ends at one that passes
pub found_at : {X S : Type 0} (p : S → Bool) (f : X → S) (xs : List X) (i : ℕ) (x : X) → i < length xs → x ≡ slice_index_or xs i x → p (f x) ≡ true
    → position p (map f xs) ≡ position_from p i (drop i (map f xs)) → Some i ≡ position p (map f xs)
found_at p f xs i x h e passes was =
    sym (was ∙ ap (position_from p i) (front f xs i x h e) ∙ ap (λ b. cond b (Some i) (position_from p (i + 1) (drop (i + 1) (map f xs)))) passes)

-- or it finds none
pub found_none : {X S : Type 0} (p : S → Bool) (f : X → S) (xs : List X) (i : ℕ) → length xs ≤ i → position p (map f xs) ≡ position_from p i (drop i (map f xs)) → None ≡ position p (map f xs)
found_none p f xs i h was = sym (was ∙ ap (position_from p i) (drop_all i (map f xs) (omega (arith, length-map xs f))))

-- the count of a list that starts with one that passes, or with one that doesn't
counts : {X : Type 0} (p : X → Bool) (x : X) (xs : List X) → p x ≡ true → count_by p (x ∷ xs) ≡ 1 + count_by p xs
counts p x xs e = count_by-cons p x xs ∙ ap (λ b. one_if b + count_by p xs) e

counts_not : {X : Type 0} (p : X → Bool) (x : X) (xs : List X) → p x ≡ false → count_by p (x ∷ xs) ≡ count_by p xs
counts_not p x xs e = omega (arith, count_by-cons p x xs, ap one_if e)

-- one more that passes, or that doesn't, behind those that were counted
pub counted_yes : {X : Type 0} (p : X → Bool) (xs : List X) (i : ℕ) (d : X) (n n' : ℕ) → i < length xs → p (slice_index_or xs i d) ≡ true → n ≡ count_by p (take i xs) → n' ≡ n + 1
    → n' ≡ count_by p (take (i + 1) xs)
counted_yes p xs i d n n' h passes was now = now ∙ ap (λ k. k + 1) was ∙ sym (count_by_more_yes p xs i d h passes)

pub counted_not : {X : Type 0} (p : X → Bool) (xs : List X) (i : ℕ) (d : X) (n n' : ℕ) → i < length xs → p (slice_index_or xs i d) ≡ false → n ≡ count_by p (take i xs) → n' ≡ n
    → n' ≡ count_by p (take (i + 1) xs)
counted_not p xs i d n n' h fails was now = now ∙ was ∙ sym (count_by_more_no p xs i d h fails)

pub viewed_yes : {X S : Type 0} (p : S → Bool) (f : X → S) (xs : List X) (i : ℕ) (x : X) (n n' : ℕ) → i < length xs → x ≡ slice_index_or xs i x → p (f x) ≡ true → n ≡ count_by p (take i (map f xs)) → n' ≡ n + 1
    → n' ≡ count_by p (take (i + 1) (map f xs))
viewed_yes p f xs i x n n' h e passes was now = counted_yes p (map f xs) i (f x) n n' (omega (arith, length-map xs f)) (ap p (sym (view_at f xs i x h e)) ∙ passes) was now

pub viewed_not : {X S : Type 0} (p : S → Bool) (f : X → S) (xs : List X) (i : ℕ) (x : X) (n n' : ℕ) → i < length xs → x ≡ slice_index_or xs i x → p (f x) ≡ false → n ≡ count_by p (take i (map f xs)) → n' ≡ n
    → n' ≡ count_by p (take (i + 1) (map f xs))
viewed_not p f xs i x n n' h e fails was now = counted_not p (map f xs) i (f x) n n' (omega (arith, length-map xs f)) (ap p (sym (view_at f xs i x h e)) ∙ fails) was now

pub counted_all : {X S : Type 0} (p : S → Bool) (f : X → S) (xs : List X) (i : ℕ) → length xs ≤ i → count_by p (take i (map f xs)) ≡ count_by p (map f xs)
counted_all p f xs i h = ap (count_by p) (take_all i (map f xs) (omega (arith, length-map xs f)))

-- where none is found, none passes
none_from : {X : Type 0} (p : X → Bool) (k : ℕ) (xs : List X) → position_from p k xs ≡ None → count_by p xs ≡ 0
none_from p k [] e = refl
none_from p k (x ∷ xs) e =
    split (p x) (λ t. absurd (cc (ap (λ b. cond b (Some k) (position_from p (k + 1) xs)) t)))
    (λ t. counts_not p x xs t ∙ none_from p (k + 1) xs (sym (ap (λ b. cond b (Some k) (position_from p (k + 1) xs)) t) ∙ e))

pub none_counted : {X : Type 0} (p : X → Bool) (xs : List X) → position p xs ≡ None → count_by p xs ≡ 0
none_counted p xs e = none_from p 0 xs (sym (position_from-zero p xs) ∙ e)

-- where one is found, one passes
some_from : {X : Type 0} (p : X → Bool) (k i : ℕ) (xs : List X) → position_from p k xs ≡ Some i → 0 < count_by p xs
some_from p k i [] e = absurd cc
some_from p k i (x ∷ xs) e =
    split (p x) (λ t. omega (arith, counts p x xs t))
    (λ t. omega (arith, counts_not p x xs t, some_from p (k + 1) i xs (sym (ap (λ b. cond b (Some k) (position_from p (k + 1) xs)) t) ∙ e)))

pub some_counted : {X : Type 0} (p : X → Bool) (xs : List X) (i : ℕ) → position p xs ≡ Some i → 0 < count_by p xs
some_counted p xs i e = some_from p 0 i xs (sym (position_from-zero p xs) ∙ e)

-- the one that stands at the first place that passes is the first, and the others are the rest
first_at : {X S : Type 0} (p : S → Bool) (f : X → S) (xs : List X) (i : ℕ) (x : X) → i < length xs → x ≡ slice_index_or xs i x → p (f x) ≡ true
    → ((k : ℕ) → k < i → p (slice_index_or (map f xs) k (f x)) ≡ false) → first_of p (map f xs) ≡ Some (f x, map f (take i xs ++ drop (suc i) xs))
first_at p f [] i x h e passes fails = absurd (omega (arith, h))
first_at p f (y ∷ xs) zero x h e passes fails =
    let same : first_of p (f y ∷ map f xs) ≡ first_of p (f x ∷ map f xs) = ap (λ z. first_of p (f z ∷ map f xs)) (sym e) in
    same ∙ ap (λ b. cond b (Some (f x, map f xs)) (behind (f x) (first_of p (map f xs)))) passes
first_at p f (y ∷ xs) (suc i) x h e passes fails =
    ap (λ b. cond b (Some (f y, map f xs)) (behind (f y) (first_of p (map f xs)))) (fails zero (omega arith))
    ∙ ap (behind (f y)) (first_at p f xs i x (omega (arith, h)) e passes (λ k below. fails (suc k) (omega (arith, below))))

pub taken_at : {X S : Type 0} (p : S → Bool) (f : X → S) (xs ys : List X) (i : ℕ) (x : X) → position p (map f xs) ≡ Some i → x ≡ slice_index_or xs i x → ys ≡ take i xs ++ drop (i + 1) xs
    → first_of p (map f xs) ≡ Some (f x, map f ys)
taken_at p f xs ys i x at e left =
    let is = position-Some p (map f xs) i (f x) at in
    let within : i < length xs = omega (arith, is.0, length-map xs f) in
    let passes : p (f x) ≡ true = ap p (view_at f xs i x within e) ∙ is.1 in
    let rest : take i xs ++ drop (suc i) xs ≡ ys = ap (λ n. take i xs ++ drop n xs) (sym (add-one i)) ∙ sym left in
    first_at p f xs i x within e passes is.2 ∙ ap (λ zs. Some (f x, map f zs)) rest

below_from : {X : Type 0} (p : X → Bool) (k i : ℕ) (xs : List X) → position_from p k xs ≡ Some i → i < k + length xs
below_from p k i [] e = absurd cc
below_from p k i (x ∷ xs) e =
    split (p x) (λ t. let same : k ≡ i = some_same k i (sym (ap (λ b. cond b (Some k) (position_from p (k + 1) xs)) t) ∙ e) in omega arith)
    (λ t. omega (arith, below_from p (k + 1) i xs (sym (ap (λ b. cond b (Some k) (position_from p (k + 1) xs)) t) ∙ e)))

-- a search of a list that is the same, and what it found
pub search_of : {X S : Type 0} (p : S → Bool) (f : X → S) (xs ys : List X) (r o : Option ℕ) → ys ≡ xs → r ≡ position p (map f ys) → r ≡ o → position p (map f xs) ≡ o
search_of p f xs ys r o same is now = ap (λ zs. position p (map f zs)) (sym same) ∙ sym is ∙ now

pub within_of : {X S : Type 0} (p : S → Bool) (f : X → S) (xs : List X) (i : ℕ) → position p (map f xs) ≡ Some i → i < length xs
within_of p f xs i at = omega (arith, below_from p 0 i (map f xs) (sym (position_from-zero p (map f xs)) ∙ at), length-map xs f)

-- the first stands somewhere
pub record IsTaken {X : Type 0} (p : X → Bool) (xs : List X) (x : X) (rest : List X) : Type 0 where
  pub before : List X
  pub after : List X
  pub are : xs ≡ before ++ x ∷ after
  pub left : rest ≡ before ++ after
  pub passes : p x ≡ true

behind_is : {X : Type 0} (y : X) (o : Option (X × List X)) (r : X × List X) → behind y o ≡ Some r → (rest : List X) × (o ≡ Some (r.0, rest)) × (r.1 ≡ y ∷ rest)
behind_is y None r e = absurd cc
behind_is {X} y (Some first) r e =
    let same : (first.0, y ∷ first.1) ≡ r = some_same (first.0, y ∷ first.1) r e in
    (first.1, ap (λ x. Some (x, first.1)) (ap (λ (q : X × List X). q.0) same), sym (ap (λ (q : X × List X). q.1) same))

taken_here : {X : Type 0} (p : X → Bool) (y : X) (ys : List X) (x : X) (rest : List X) → p y ≡ true → ◌≡◌ {A = X × List X} (y, ys) (x, rest) → IsTaken p (y ∷ ys) x rest
taken_here {X} p y ys x rest t same =
    let is : y ≡ x = ap (λ (q : X × List X). q.0) same in
    record { before = []; after = ys; are = ap (λ z. z ∷ ys) is; left = sym (ap (λ (q : X × List X). q.1) same); passes = ap p (sym is) ∙ t }

taken_later : {X : Type 0} (p : X → Bool) (y : X) (ys : List X) (x : X) (rest rest' : List X) → IsTaken p ys x rest' → rest ≡ y ∷ rest' → IsTaken p (y ∷ ys) x rest
taken_later p y ys x rest rest' r e = record {
  before = y ∷ r.before;
  after = r.after;
  are = ap (λ zs. y ∷ zs) r.are;
  left = e ∙ ap (λ zs. y ∷ zs) r.left;
  passes = r.passes;
}

pub taken : {X : Type 0} (p : X → Bool) (xs : List X) (x : X) (rest : List X) → first_of p xs ≡ Some (x, rest) → IsTaken p xs x rest
taken p [] x rest e = absurd cc
taken p (y ∷ ys) x rest e =
    split (p y) (λ t. taken_here p y ys x rest t (some_same (y, ys) (x, rest) (sym (ap (λ b. cond b (Some (y, ys)) (behind y (first_of p ys))) t) ∙ e)))
    (λ t.
    let s = behind_is y (first_of p ys) (x, rest) (sym (ap (λ b. cond b (Some (y, ys)) (behind y (first_of p ys))) t) ∙ e) in
    taken_later p y ys x rest s.0 (taken p ys x s.0 s.1) s.2)

-- it counts for one
count_with : {X : Type 0} (q : X → Bool) (before after : List X) (x : X) → count_by q (before ++ x ∷ after) ≡ one_if (q x) + count_by q (before ++ after)
count_with q [] after x = count_by-cons q x after
count_with q (y ∷ before) after x = omega (arith, count_by-cons q y (before ++ x ∷ after), count_by-cons q y (before ++ after), count_with q before after x)

counts_taken : {X : Type 0} (p q : X → Bool) (xs : List X) (x : X) (rest : List X) → IsTaken p xs x rest → count_by q xs ≡ one_if (q x) + count_by q rest
counts_taken p q xs x rest t = ap (count_by q) t.are ∙ count_with q t.before t.after x ∙ ap (λ zs. one_if (q x) + count_by q zs) (sym t.left)

-- what holds of all holds of the one that is taken and of the rest
all_with : {X : Type 0} (P : X → Type 0) (before after : List X) (x : X) → All P (before ++ x ∷ after) → P x × All P (before ++ after)
all_with P [] after x all = (all zero x (omega arith), All-rest P x after (x ∷ after) refl all)
all_with P (y ∷ before) after x all =
    let r = all_with P before after x (All-rest P y (before ++ x ∷ after) (y ∷ before ++ x ∷ after) refl all) in
    (r.0, All-cons P y (before ++ after) (all zero y (omega arith)) r.1)

pub all_taken : {X : Type 0} (P : X → Type 0) (p : X → Bool) (xs : List X) (x : X) (rest : List X) → All P xs → first_of p xs ≡ Some (x, rest) → P x × All P rest
all_taken P p xs x rest all e =
    let t = taken p xs x rest e in
    let r = all_with P t.before t.after x (subst (All P) t.are all) in
    (r.0, subst (All P) (sym t.left) r.1)

-- the first binding's protocol, and those of the later ones
pub record IsFor (b : ProtocolKind × ℕ) (bs : List (ProtocolKind × ℕ)) (ps chosen left : List ProtocolState) : Type 0 where
  pub first : ProtocolState
  pub others : List ProtocolState
  pub more : List ProtocolState
  pub taken : first_of (is_protocol b.0) ps ≡ Some (first, others)
  pub later : protocols_for bs others ≡ Some (more, left)
  pub are : chosen ≡ first ∷ more

with_first_is : (s : ProtocolState) (o : Option (List ProtocolState × List ProtocolState)) (r : List ProtocolState × List ProtocolState) → with_first s o ≡ Some r → (more : List ProtocolState) × (o ≡ Some (more, r.1)) × (r.0 ≡ s ∷ more)
with_first_is s None r e = absurd cc
with_first_is s (Some later) r e =
    let same : (s ∷ later.0, later.1) ≡ r = some_same (s ∷ later.0, later.1) r e in
    (later.0, ap (λ left. Some (later.0, left)) (ap (λ (q : List ProtocolState × List ProtocolState). q.1) same), sym (ap (λ (q : List ProtocolState × List ProtocolState). q.0) same))

for_first : (b : ProtocolKind × ℕ) (bs : List (ProtocolKind × ℕ)) (ps chosen left : List ProtocolState) → protocols_for (b ∷ bs) ps ≡ Some (chosen, left) → IsFor b bs ps chosen left
for_first b bs ps chosen left e = cases (first_of (is_protocol b.0) ps) refl e
  where
    cases : (o : Option (ProtocolState × List ProtocolState)) → first_of (is_protocol b.0) ps ≡ o → option_and_then (λ first. with_first first.0 (protocols_for bs first.1)) o ≡ Some (chosen, left) → IsFor b bs ps chosen left
    cases None is e = absurd cc
    cases (Some first) is e =
        let w = with_first_is first.0 (protocols_for bs first.1) (chosen, left) e in
        record { first = first.0; others = first.1; more = w.0; taken = is; later = w.1; are = w.2 }

-- each binding has one
pub chosen_count : (bs : List (ProtocolKind × ℕ)) (ps chosen left : List ProtocolState) → protocols_for bs ps ≡ Some (chosen, left) → length chosen ≡ length bs
chosen_count [] ps chosen left e = ap (λ (q : List ProtocolState × List ProtocolState). length q.0) (sym (some_same ([], ps) (chosen, left) e))
chosen_count (b ∷ bs) ps chosen left e =
    let f = for_first b bs ps chosen left e in
    ap length f.are ∙ ap suc (chosen_count bs f.others f.more left f.later)

-- what holds of all holds of those that are chosen, and of those that are left
pub all_chosen : (P : ProtocolState → Type 0) (bs : List (ProtocolKind × ℕ)) (ps chosen left : List ProtocolState) → All P ps → protocols_for bs ps ≡ Some (chosen, left) → All P chosen × All P left
all_chosen P [] ps chosen left all e =
    let same : ([], ps) ≡ (chosen, left) = some_same ([], ps) (chosen, left) e in
    (subst (All P) (ap (λ (q : List ProtocolState × List ProtocolState). q.0) same) (All-nil P), subst (All P) (ap (λ (q : List ProtocolState × List ProtocolState). q.1) same) all)
all_chosen P (b ∷ bs) ps chosen left all e =
    let f = for_first b bs ps chosen left e in
    let r = all_taken P (is_protocol b.0) ps f.first f.others all f.taken in
    let s = all_chosen P bs f.others f.more left r.1 f.later in
    (subst (All P) (sym f.are) (All-cons P f.first f.more r.0 s.0), s.1)

-- kinds that are told to be the same are the same
same_kinds : (a b : ProtocolKind) → same_protocol_kind a b ≡ true → a ≡ b
same_kinds protocol_kind.Log protocol_kind.Log e = refl
same_kinds protocol_kind.Log protocol_kind.Retain e = absurd cc
same_kinds protocol_kind.Log protocol_kind.Echo e = absurd cc
same_kinds protocol_kind.Log protocol_kind.Mux e = absurd cc
same_kinds protocol_kind.Retain protocol_kind.Log e = absurd cc
same_kinds protocol_kind.Retain protocol_kind.Retain e = refl
same_kinds protocol_kind.Retain protocol_kind.Echo e = absurd cc
same_kinds protocol_kind.Retain protocol_kind.Mux e = absurd cc
same_kinds protocol_kind.Echo protocol_kind.Log e = absurd cc
same_kinds protocol_kind.Echo protocol_kind.Retain e = absurd cc
same_kinds protocol_kind.Echo protocol_kind.Echo e = refl
same_kinds protocol_kind.Echo protocol_kind.Mux e = absurd cc
same_kinds protocol_kind.Mux protocol_kind.Log e = absurd cc
same_kinds protocol_kind.Mux protocol_kind.Retain e = absurd cc
same_kinds protocol_kind.Mux protocol_kind.Echo e = absurd cc
same_kinds protocol_kind.Mux protocol_kind.Mux e = refl

same_kind_itself : (a : ProtocolKind) → same_protocol_kind a a ≡ true
same_kind_itself protocol_kind.Log = refl
same_kind_itself protocol_kind.Retain = refl
same_kind_itself protocol_kind.Echo = refl
same_kind_itself protocol_kind.Mux = refl

-- where no kind is wanting there is one for the first binding
pub one_for : (b : ProtocolKind × ℕ) (bs : List (ProtocolKind × ℕ)) (ps : List ProtocolState) → ¬ LacksProtocols (b ∷ bs) ps → position (is_protocol b.0) ps ≡ None → ⊥
one_for b bs ps enough e =
    enough (record { kind = b.0; few = omega (arith, none_counted (is_protocol b.0) ps e, counts (is_for b.0) b bs (same_kind_itself b.0)) })

-- and no kind is wanting for the later ones
pub enough_left : (b : ProtocolKind × ℕ) (bs : List (ProtocolKind × ℕ)) (ps : List ProtocolState) (s : ProtocolState) (rest : List ProtocolState) → ¬ LacksProtocols (b ∷ bs) ps → first_of (is_protocol b.0) ps ≡ Some (s, rest) → ¬ LacksProtocols bs rest
enough_left b bs ps s rest enough e lacks =
    let t = taken (is_protocol b.0) ps s rest e in
    let kind : s.kind ≡ b.0 = same_kinds s.kind b.0 t.passes in
    let one : one_if (is_protocol lacks.kind s) ≡ one_if (is_for lacks.kind b) = ap (λ k. one_if (same_protocol_kind k lacks.kind)) kind in
    enough (record { kind = lacks.kind; few = omega (arith, lacks.few, one, counts_taken (is_protocol b.0) (is_protocol lacks.kind) ps s rest t, count_by-cons (is_for lacks.kind) b bs) })

-- one more is chosen before those of the later bindings
pub chooses_first : (b : ProtocolKind × ℕ) (bs : List (ProtocolKind × ℕ)) (ps : List ProtocolState) (s : ProtocolState) (rest before after left : List ProtocolState) → first_of (is_protocol b.0) ps ≡ Some (s, rest)
    → Chooses bs rest (before ++ s ∷ []) after left → Chooses (b ∷ bs) ps before after left
chooses_first b bs ps s rest before after left e c = record {
  more = s ∷ c.more;
  are = ap (option_and_then (λ first. with_first first.0 (protocols_for bs first.1))) e ∙ ap (with_first s) c.are;
  added = c.added ∙ append_assoc before (s ∷ []) c.more;
}

-- a kind that is wanting for the later bindings is wanting for all
pub lacks_more : (b : ProtocolKind × ℕ) (bs : List (ProtocolKind × ℕ)) (ps : List ProtocolState) → LacksProtocols bs ps → LacksProtocols (b ∷ bs) ps
lacks_more b bs ps l = record { kind = l.kind; few = omega (arith, l.few, count_by-cons (is_for l.kind) b bs) }

-- and the other way round, where the first binding's kind isn't
pub lacks_later : (b : ProtocolKind × ℕ) (bs : List (ProtocolKind × ℕ)) (ps : List ProtocolState) → count_by (is_for b.0) (b ∷ bs) ≤ count_by (is_protocol b.0) ps → LacksProtocols (b ∷ bs) ps → LacksProtocols bs ps
lacks_later b bs ps enough l =
    split (is_for l.kind b)
    (λ t.
    let kind : b.0 ≡ l.kind = same_kinds b.0 l.kind t in
    absurd (omega (arith, l.few, subst (λ k. count_by (is_for k) (b ∷ bs) ≤ count_by (is_protocol k) ps) kind enough)))
    (λ t. record { kind = l.kind; few = omega (arith, l.few, counts_not (is_for l.kind) b bs t) })

-- a list that isn't empty
first_and_rest : {X : Type 0} (xs : List X) (d : X) → 1 ≤ length xs → xs ≡ slice_index_or xs 0 d ∷ take (length xs - 1) (drop 1 xs)
first_and_rest [] d h = absurd (omega (arith, h))
first_and_rest (x ∷ xs) d h = ap (λ ys. x ∷ ys) (sym (take_all (length (x ∷ xs) - 1) xs (omega arith)))

-- the same, of the bindings that are left and of the views of the protocols that are left
pub none_for : {X : Type 0} (f : X → ProtocolState) (bs : List (ProtocolKind × ℕ)) (d : ProtocolKind × ℕ) (xs ys : List X) (r : Option ℕ) → 1 ≤ length bs → ¬ LacksProtocols bs (map f xs)
    → ys ≡ xs → r ≡ position (is_protocol (slice_index_or bs 0 d).0) (map f ys) → r ≡ None → ⊥
none_for f bs d xs ys r some enough same is none =
    let b = slice_index_or bs 0 d in
    let more = take (length bs - 1) (drop 1 bs) in
    one_for b more (map f xs) (subst (λ cs. ¬ LacksProtocols cs (map f xs)) (first_and_rest bs d some) enough) (ap (λ zs. position (is_protocol b.0) (map f zs)) (sym same) ∙ sym is ∙ none)

pub first_for : {X : Type 0} (f : X → ProtocolState) (bs : List (ProtocolKind × ℕ)) (d : ProtocolKind × ℕ) (xs ys zs : List X) (r : Option ℕ) (i : ℕ) (x : X) → ys ≡ xs → r ≡ position (is_protocol (slice_index_or bs 0 d).0) (map f ys) → r ≡ Some i
    → x ≡ slice_index_or xs i x → zs ≡ take i xs ++ drop (i + 1) xs → first_of (is_protocol (slice_index_or bs 0 d).0) (map f xs) ≡ Some (f x, map f zs)
first_for f bs d xs ys zs r i x same is some e left =
    let b = slice_index_or bs 0 d in
    taken_at (is_protocol b.0) f xs zs i x (ap (λ ws. position (is_protocol b.0) (map f ws)) (sym same) ∙ sym is ∙ some) e left

pub left_enough : {X : Type 0} (f : X → ProtocolState) (bs : List (ProtocolKind × ℕ)) (d : ProtocolKind × ℕ) (xs zs : List X) (x : X) → 1 ≤ length bs → ¬ LacksProtocols bs (map f xs)
    → first_of (is_protocol (slice_index_or bs 0 d).0) (map f xs) ≡ Some (f x, map f zs) → ¬ LacksProtocols (take (length bs - 1) (drop 1 bs)) (map f zs)
left_enough f bs d xs zs x some enough e =
    enough_left (slice_index_or bs 0 d) (take (length bs - 1) (drop 1 bs)) (map f xs) (f x) (map f zs) (subst (λ cs. ¬ LacksProtocols cs (map f xs)) (first_and_rest bs d some) enough) e

pub chooses_at : {X : Type 0} (f : X → ProtocolState) (bs : List (ProtocolKind × ℕ)) (d : ProtocolKind × ℕ) (xs zs cs cs' : List X) (x : X) (after left : List ProtocolState) → 1 ≤ length bs
    → first_of (is_protocol (slice_index_or bs 0 d).0) (map f xs) ≡ Some (f x, map f zs) → cs' ≡ cs ++ x ∷ []
    → Chooses (take (length bs - 1) (drop 1 bs)) (map f zs) (map f cs') after left → Chooses bs (map f xs) (map f cs) after left
chooses_at f bs d xs zs cs cs' x after left some e pushed c =
    let more = take (length bs - 1) (drop 1 bs) in
    let now : Chooses more (map f zs) (map f cs ++ f x ∷ []) after left = subst (λ ss. Chooses more (map f zs) ss after left) (ap (map f) pushed ∙ map-append f cs (x ∷ [])) c in
    subst (λ ws. Chooses ws (map f xs) (map f cs) after left) (sym (first_and_rest bs d some)) (chooses_first (slice_index_or bs 0 d) more (map f xs) (f x) (map f zs) (map f cs) after left e now)

-- whether there are enough, one binding after the other
pub enough_more : (bs : List (ProtocolKind × ℕ)) (d : ProtocolKind × ℕ) (ps : List ProtocolState) (n m : ℕ) (r : Bool) → 1 ≤ length bs → n ≡ count_by (is_for (slice_index_or bs 0 d).0) bs
    → m ≡ count_by (is_protocol (slice_index_or bs 0 d).0) ps → n ≤ m → (r ≡ false ↔ LacksProtocols (take (length bs - 1) (drop 1 bs)) ps) → (r ≡ false ↔ LacksProtocols bs ps)
enough_more bs d ps n m r some is is' le rest =
    let b = slice_index_or bs 0 d in
    let more = take (length bs - 1) (drop 1 bs) in
    let whole : bs ≡ b ∷ more = first_and_rest bs d some in
    let few : count_by (is_for b.0) (b ∷ more) ≤ count_by (is_protocol b.0) ps = omega (arith, is, is', le, ap (count_by (is_for b.0)) whole) in
    (λ e. subst (λ cs. LacksProtocols cs ps) (sym whole) (lacks_more b more ps (rest.0 e)), λ l. rest.1 (lacks_later b more ps few (subst (λ cs. LacksProtocols cs ps) whole l)))

-- the protocols that a head takes, where none were chosen before
pub each_of : {X : Type 0} (f : X → ProtocolState) (bs bindings : List (ProtocolKind × ℕ)) (ps left cs cs' : List X) → bs ≡ bindings → cs ≡ [] → Chooses bs (map f ps) (map f cs) (map f cs') (map f left)
    → protocols_for bindings (map f ps) ≡ Some (map f cs', map f left)
each_of f bs bindings ps left cs cs' same none c =
    let chosen : c.more ≡ map f cs' = sym (c.added ∙ ap (λ xs. map f xs ++ c.more) none) in
    ap (λ xs. protocols_for xs (map f ps)) (sym same) ∙ c.are ∙ ap (λ ss. Some (ss, map f left)) chosen

-- nothing is wanting
nothing_lacks : (head : StackHead) (parts : PartsView) (i : ℕ) → position (is_miniport head.kind) parts.miniports ≡ Some i → ¬ LacksProtocols head.bindings parts.protocols → ¬ Lacks head parts
nothing_lacks head parts i at enough (no_miniport none) = omega (arith, none, some_counted (is_miniport head.kind) parts.miniports i at)
nothing_lacks head parts i at enough (few_protocols l) = enough l

pub lacks_nothing : {X Y : Type 0} (f : X → MiniportState) (h : Y → ProtocolState) (head : StackHead) (ms : List X) (ps ps' : List Y) (setups : List (ProtocolKind × ℕ)) (i : ℕ) (enough : Bool)
    → position (is_miniport head.kind) (map f ms) ≡ Some i → setups ≡ head.bindings → ps' ≡ ps → (enough ≡ false ↔ LacksProtocols setups (map h ps')) → enough ≡ true
    → ¬ Lacks head (record { miniports = map f ms; protocols = map h ps })
lacks_nothing f h head ms ps ps' setups i enough at same same' is yet =
    nothing_lacks head (record { miniports = map f ms; protocols = map h ps }) i at
    (λ l. clash (sym yet ∙ is.1 (subst (λ bs. LacksProtocols bs (map h ps')) (sym same) (subst (λ xs. LacksProtocols head.bindings (map h xs)) (sym same') l))))
  where
    clash : true ≡ false → ⊥
    clash e = cc

-- no miniport is of the head's kind
pub lacks_miniport : {X Y : Type 0} (f : X → MiniportState) (h : Y → ProtocolState) (head : StackHead) (ms : List X) (ps : List Y) → position (is_miniport head.kind) (map f ms) ≡ None
    → Lacks head (record { miniports = map f ms; protocols = map h ps })
lacks_miniport f h head ms ps none = no_miniport (none_counted (is_miniport head.kind) (map f ms) none)

-- So the drivers are of the kinds that the head names.
same_miniports : (a b : MiniportKind) → same_miniport_kind a b ≡ true → a ≡ b
same_miniports miniport_kind.Ring miniport_kind.Ring e = refl
same_miniports miniport_kind.Ring miniport_kind.Loop e = absurd cc
same_miniports miniport_kind.Ring miniport_kind.Virtual e = absurd cc
same_miniports miniport_kind.Loop miniport_kind.Ring e = absurd cc
same_miniports miniport_kind.Loop miniport_kind.Loop e = refl
same_miniports miniport_kind.Loop miniport_kind.Virtual e = absurd cc
same_miniports miniport_kind.Virtual miniport_kind.Ring e = absurd cc
same_miniports miniport_kind.Virtual miniport_kind.Loop e = absurd cc
same_miniports miniport_kind.Virtual miniport_kind.Virtual e = refl

pub miniport_of_kind : (kind : MiniportKind) (ms : List MiniportState) (m : MiniportState) (rest : List MiniportState) → first_of (is_miniport kind) ms ≡ Some (m, rest) → m.kind ≡ kind
miniport_of_kind kind ms m rest e = same_miniports m.kind kind (taken (is_miniport kind) ms m rest e).passes

pub protocols_of_kinds : (d : ProtocolState) (bs : List (ProtocolKind × ℕ)) (ps chosen left : List ProtocolState) → protocols_for bs ps ≡ Some (chosen, left) → (i : ℕ) → i < length bs
    → (slice_index_or chosen i d).kind ≡ (slice_index_or bs i (protocol_kind.Log, 0)).0
protocols_of_kinds d [] ps chosen left e i h = absurd (omega (arith, h))
protocols_of_kinds d (b ∷ bs) ps chosen left e zero h =
    let f = for_first b bs ps chosen left e in
    ap (λ cs. (slice_index_or cs 0 d).kind) f.are ∙ same_kinds f.first.kind b.0 (taken (is_protocol b.0) ps f.first f.others f.taken).passes
protocols_of_kinds d (b ∷ bs) ps chosen left e (suc i) h =
    let f = for_first b bs ps chosen left e in
    ap (λ cs. (slice_index_or cs (suc i) d).kind) f.are ∙ protocols_of_kinds d bs f.others f.more left f.later i (omega (arith, h))
