-- The request of a number after each change of the requests, and that their numbers stay apart.
use Rattle.std.proofs.Common.{◌≡◌, ℕ, ◌==◌, Bool, true, false, not, cond, List, [], ◌∷◌, ◌++◌, Option, Some, None, option_map, refl, arith, ap, sym, subst, ◌∙◌, map, find, filter}
use Rattle.std.proofs.lemmas.Bool.Decides.{nat_tests}
use Rattle.ndis_base.specs.declared.ModuleId.{ModuleId}
use Rattle.stack_rules.specs.declared.Request.{Request}
use Rattle.stack_rules.specs.declared.RequestAt.TheVariants as at
use Rattle.stack_rules.specs.Net.{request_of, given_to}
use Rattle.rule_basics.specs.Live.{EachRequest, EachApart}
use Rattle.request_laws.proofs.Asked.{some_same, none_some, is_equal, is_apart, apart}

pub EachRequest-implies : (P Q : Request → Type 0) → ((r : Request) → P r → Q r) → (rs : List Request) → EachRequest P rs → EachRequest Q rs
EachRequest-implies P Q f [] h = tt
EachRequest-implies P Q f (r ∷ rs) h = (f r h.0, EachRequest-implies P Q f rs h.1)

pub EachRequest-both : (P Q R : Request → Type 0) → ((r : Request) → P r → Q r → R r) → (rs : List Request) → EachRequest P rs → EachRequest Q rs → EachRequest R rs
EachRequest-both P Q R f [] p q = tt
EachRequest-both P Q R f (r ∷ rs) p q = (f r p.0 q.0, EachRequest-both P Q R f rs p.1 q.1)

EachRequest-push : (P : Request → Type 0) (rs : List Request) (r : Request) → EachRequest P rs → P r → EachRequest P (rs ++ r ∷ [])
EachRequest-push P [] r h p = (p, tt)
EachRequest-push P (q ∷ rs) r h p = (h.0, EachRequest-push P rs r h.1 p)

-- the requests but the one of a number
abbrev pub requests_but : ℕ → List Request → List Request
requests_but n rs = filter (λ r. not (r.request.0 == n)) rs

EachRequest-but : (P : Request → Type 0) (n : ℕ) (rs : List Request) → EachRequest P rs → EachRequest P (requests_but n rs)
EachRequest-but P n [] h = tt
EachRequest-but P n (r ∷ rs) h =
    elim (r.request.0 == n) as (λ b. EachRequest P (cond (not b) (r ∷ requests_but n rs) (requests_but n rs))) [
      | true ↦ EachRequest-but P n rs h.1
      | false ↦ (h.0, EachRequest-but P n rs h.1)
    ]

EachRequest-given : (P : Request → Type 0) (n : ℕ) (m : ModuleId) (rs : List Request) → ((r : Request) → P r → P (given_to n m r)) → EachRequest P rs → EachRequest P (map (given_to n m) rs)
EachRequest-given P n m [] f h = tt
EachRequest-given P n m (r ∷ rs) f h = (f r h.0, EachRequest-given P n m rs f h.1)

pub number_given : (n : ℕ) (m : ModuleId) (r : Request) → (given_to n m r).request.0 ≡ r.request.0
number_given n m r = elim (r.request.0 == n) as (λ b. (cond b (record r { at = at.Given m }) r).request.0 ≡ r.request.0) [ true ↦ refl | false ↦ refl ]

-- numbers
itself : (n : ℕ) → (n == n) ≡ true
itself n = grind (arith, nat_tests)

turned : (a b : ℕ) → (a == b) ≡ false → (b == a) ≡ false
turned a b h = grind (arith, nat_tests)

-- a number that isn't found is none of theirs
not_there : (n : ℕ) (rs : List Request) → request_of n rs ≡ None → EachRequest (λ q. (q.request.0 == n) ≡ false) rs
not_there n [] h = tt
not_there n (r ∷ rs) h =
    let cases : (b : Bool) → (r.request.0 == n) ≡ b → cond b (Some r) (request_of n rs) ≡ None → ((r.request.0 == n) ≡ false) × EachRequest (λ q. (q.request.0 == n) ≡ false) rs = elim [
      | true ↦ λ t e. absurd (none_some r (sym e))
      | false ↦ λ t e. (t, not_there n rs e)
    ] in
    cases (r.request.0 == n) refl h

-- one more request, under a number that is free
pub found_push : (rs : List Request) (r : Request) (i : ℕ) → request_of r.request.0 rs ≡ None → request_of i (rs ++ r ∷ []) ≡ cond (i == r.request.0) (Some r) (request_of i rs)
found_push [] r i free = ap (λ b. cond b (Some r) None) (swap r.request.0 i)
  where
    swap : (a b : ℕ) → (a == b) ≡ (b == a)
    swap a b = grind (arith, nat_tests)
found_push (q ∷ rs) r i free =
    let other = not_there r.request.0 (q ∷ rs) free in
    let rest : request_of i (rs ++ r ∷ []) ≡ cond (i == r.request.0) (Some r) (request_of i rs) = found_push rs r i (later (q.request.0 == r.request.0) other.0 free) in
    let cases : (b : Bool) → (q.request.0 == i) ≡ b → cond b (Some q) (request_of i (rs ++ r ∷ [])) ≡ cond (i == r.request.0) (Some r) (cond b (Some q) (request_of i rs)) = elim [
      | true ↦ λ t. ap (λ b. cond b (Some r) (Some q)) (sym (apart i r.request.0 (λ same. is_apart q.request.0 r.request.0 other.0 (is_equal q.request.0 i t ∙ same))))
      | false ↦ λ t. rest
    ] in
    cases (q.request.0 == i) refl
  where
    later : (b : Bool) → b ≡ false → cond b (Some q) (request_of r.request.0 rs) ≡ None → request_of r.request.0 rs ≡ None
    later true e f = absurd (none_some q (sym f))
    later false e f = f

pub apart_push : (rs : List Request) (r : Request) → request_of r.request.0 rs ≡ None → EachApart rs → EachApart (rs ++ r ∷ [])
apart_push rs r free h = push rs (not_there r.request.0 rs free) h
  where
    push : (rs : List Request) → EachRequest (λ q. (q.request.0 == r.request.0) ≡ false) rs → EachApart rs → EachApart (rs ++ r ∷ [])
    push [] n h = (tt, tt)
    push (q ∷ rs) n h = (EachRequest-push (λ x. (x.request.0 == q.request.0) ≡ false) rs r h.0 (turned q.request.0 r.request.0 n.0), push rs n.1 h.1)

-- a request that is given to a module
pub found_given : (n : ℕ) (m : ModuleId) (rs : List Request) (i : ℕ) → request_of i (map (given_to n m) rs) ≡ option_map (given_to n m) (request_of i rs)
found_given n m [] i = refl
found_given n m (q ∷ rs) i =
    ap (λ k. cond (k == i) (Some (given_to n m q)) (request_of i (map (given_to n m) rs))) (number_given n m q)
    ∙ ap (λ o. cond (q.request.0 == i) (Some (given_to n m q)) o) (found_given n m rs i)
    ∙ by (q.request.0 == i) (request_of i rs)
  where
    by : (b : Bool) (o : Option Request) → cond b (Some (given_to n m q)) (option_map (given_to n m) o) ≡ option_map (given_to n m) (cond b (Some q) o)
    by true o = refl
    by false o = refl

pub apart_given : (n : ℕ) (m : ModuleId) (rs : List Request) → EachApart rs → EachApart (map (given_to n m) rs)
apart_given n m [] h = tt
apart_given n m (q ∷ rs) h = (
  EachRequest-given (λ x. (x.request.0 == (given_to n m q).request.0) ≡ false) n m rs (λ x e. ap (λ k. k == (given_to n m q).request.0) (number_given n m x) ∙ e)
      (EachRequest-implies _ _ (λ x e. ap (λ k. x.request.0 == k) (number_given n m q) ∙ e) rs h.0),
  apart_given n m rs h.1,
)

-- a request that is done
pub found_but : (n : ℕ) (rs : List Request) (i : ℕ) → request_of i (requests_but n rs) ≡ cond (i == n) None (request_of i rs)
found_but n [] i = by None (i == n) refl
  where
    by : (o : Option Request) (b : Bool) → o ≡ None → o ≡ cond b None o
    by o true e = e
    by o false e = refl
found_but n (q ∷ rs) i =
    let rest : request_of i (requests_but n rs) ≡ cond (i == n) None (request_of i rs) = found_but n rs i in
    let cases : (b c : Bool) → (q.request.0 == n) ≡ b → (q.request.0 == i) ≡ c → request_of i (cond (not b) (q ∷ requests_but n rs) (requests_but n rs)) ≡ cond (i == n) None (cond c (Some q) (request_of i rs)) = elim [
      | true ↦ elim [
        | true ↦ λ s t. let same : (i == n) ≡ true = both q.request.0 i n s t in rest ∙ rw same refl
        | false ↦ λ s t. rest
      ]
      | false ↦ elim [
        | true ↦ λ s t. let other : (i == n) ≡ false = one q.request.0 i n s t in rw (t, other) refl
        | false ↦ λ s t. rw t rest
      ]
    ] in
    cases (q.request.0 == n) (q.request.0 == i) refl refl
  where
    both : (k i n : ℕ) → (k == n) ≡ true → (k == i) ≡ true → (i == n) ≡ true
    both k i n s t = grind (arith, nat_tests)

    one : (k i n : ℕ) → (k == n) ≡ false → (k == i) ≡ true → (i == n) ≡ false
    one k i n s t = grind (arith, nat_tests)

pub apart_but : (n : ℕ) (rs : List Request) → EachApart rs → EachApart (requests_but n rs)
apart_but n [] h = tt
apart_but n (q ∷ rs) h =
    let head = EachRequest-but (λ x. (x.request.0 == q.request.0) ≡ false) n rs h.0 in
    elim (q.request.0 == n) as (λ b. EachApart (cond (not b) (q ∷ requests_but n rs) (requests_but n rs))) [
      | true ↦ apart_but n rs h.1
      | false ↦ (head, apart_but n rs h.1)
    ]

-- what holds of each request holds of one that is found
pub EachRequest-find : (P : Request → Type 0) (p : Request → Bool) (rs : List Request) (r : Request) → EachRequest P rs → find p rs ≡ Some r → P r
EachRequest-find P p [] r h f = absurd (none_some r f)
EachRequest-find P p (q ∷ rs) r h f =
    let cases : (b : Bool) → cond b (Some q) (find p rs) ≡ Some r → P r = elim [
      | true ↦ λ e. subst P (some_same q r e) h.0
      | false ↦ λ e. EachRequest-find P p rs r h.1 e
    ] in
    cases (p q) f

-- a request that is found by a test is found by its number
pub found_by_number : (p : Request → Bool) (rs : List Request) (r : Request) → EachApart rs → find p rs ≡ Some r → request_of r.request.0 rs ≡ Some r
found_by_number p [] r h f = absurd (none_some r f)
found_by_number p (q ∷ rs) r h f =
    let cases : (b : Bool) → cond b (Some q) (find p rs) ≡ Some r → cond (q.request.0 == r.request.0) (Some q) (request_of r.request.0 rs) ≡ Some r = elim [
      | true ↦ λ e.
          let same : q ≡ r = some_same q r e in
          ap (λ b. cond b (Some q) (request_of r.request.0 rs)) (ap (λ (x : Request). x.request.0 == r.request.0) same ∙ itself r.request.0) ∙ e
      | false ↦ λ e.
          let other : (r.request.0 == q.request.0) ≡ false = EachRequest-find (λ x. (x.request.0 == q.request.0) ≡ false) p rs r h.0 e in
          ap (λ b. cond b (Some q) (request_of r.request.0 rs)) (turned r.request.0 q.request.0 other) ∙ found_by_number p rs r h.1 e
    ] in
    cases (p q) f

-- each request is found by its number
pub each_found : (rs : List Request) → EachApart rs → EachRequest (λ r. request_of r.request.0 rs ≡ Some r) rs
each_found [] h = tt
each_found (q ∷ rs) h = (
  ap (λ b. cond b (Some q) (request_of q.request.0 rs)) (itself q.request.0),
  EachRequest-both (λ r. (r.request.0 == q.request.0) ≡ false) (λ r. request_of r.request.0 rs ≡ Some r) (λ r. cond (q.request.0 == r.request.0) (Some q) (request_of r.request.0 rs) ≡ Some r)
      (λ r other f. ap (λ b. cond b (Some q) (request_of r.request.0 rs)) (turned r.request.0 q.request.0 other) ∙ f) rs h.0 (each_found rs h.1),
)

-- what is found has the number
pub number_found : (n : ℕ) (rs : List Request) (r : Request) → request_of n rs ≡ Some r → r.request.0 ≡ n
number_found n [] r f = absurd (none_some r f)
number_found n (q ∷ rs) r f =
    let cases : (b : Bool) → (q.request.0 == n) ≡ b → cond b (Some q) (request_of n rs) ≡ Some r → r.request.0 ≡ n = elim [
      | true ↦ λ t e. ap (λ (x : Request). x.request.0) (sym (some_same q r e)) ∙ is_equal q.request.0 n t
      | false ↦ λ t e. number_found n rs r e
    ] in
    cases (q.request.0 == n) refl f
