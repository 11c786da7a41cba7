-- What the filters that have or had the driver at a place are called for in a turn is what the one that sits there is.
use Rattle.std.proofs.Common.{◌≡◌, ◌⊎◌, inl, inr, ℕ, ◌+◌, ◌==◌, Bool, true, false, cond, List, [], ◌∷◌, ◌++◌, Option, Some, None, option_map, find, sum_by, if◌then◌else◌, refl, sym, ap, ◌∙◌, subst, arith}
use Rattle.std.proofs.lemmas.Bool.Decides.{nat_tests}
use Rattle.std.proofs.lemmas.List.Sums.{sum_by-cons}
use Rattle.stack_rules.specs.declared.Attached.{Attached}
use Rattle.stack_rules.specs.Net.{attached}
use Rattle.promise_rules.specs.Drivers.{driver_of}
use Rattle.attached_laws.specs.Drivers.{AreApart}
use Rattle.book_lemmas.specs.Views.{seat_of, IsVacant}
use Rattle.book_lemmas.specs.Stands.{SeatsApart}

some_same : (x y : ℕ) → Some x ≡ Some y → x ≡ y
some_same x y e = cc

none_some : {A : Type 0} (x : A) (o : Option A) → o ≡ None → o ≡ Some x → ⊥
none_some x o e g = cc

equal : (n m : ℕ) → (n == m) ≡ true → n ≡ m
equal n m t = grind (arith, nat_tests)

equals : (n m : ℕ) → n ≡ m → (n == m) ≡ true
equals n m e = grind (arith, nat_tests)

-- a fact of each filter and its place
abbrev pub EachDriver : ((ℕ × ℕ) → Type 0) → List (ℕ × ℕ) → Type 0
EachDriver P [] = Unit {0}
EachDriver P (d ∷ ds) = P d × EachDriver P ds

each_implies : (P Q : (ℕ × ℕ) → Type 0) → ((d : ℕ × ℕ) → P d → Q d) → (ds : List (ℕ × ℕ)) → EachDriver P ds → EachDriver Q ds
each_implies P Q f [] h = tt
each_implies P Q f (d ∷ ds) h = (f d h.0, each_implies P Q f ds h.1)

pub each_of : (P : (ℕ × ℕ) → Type 0) → ((d : ℕ × ℕ) → P d) → (ds : List (ℕ × ℕ)) → EachDriver P ds
each_of P f [] = tt
each_of P f (d ∷ ds) = (f d, each_of P f ds)

sums_same : (f g : (ℕ × ℕ) → ℕ) (ds : List (ℕ × ℕ)) → EachDriver (λ d. f d ≡ g d) ds → sum_by f ds ≡ sum_by g ds
sums_same f g [] h = refl
sums_same f g (d ∷ ds) h =
    let here = h.0 in
    let rest = sums_same f g ds h.1 in
    let one = sum_by-cons f d ds in
    let other = sum_by-cons g d ds in
    omega (arith, here, rest, one, other)

pub sums_none : (f : (ℕ × ℕ) → ℕ) (ds : List (ℕ × ℕ)) → EachDriver (λ d. f d ≡ 0) ds → sum_by f ds ≡ 0
sums_none f [] h = refl
sums_none f (d ∷ ds) h =
    let here = h.0 in
    let rest = sums_none f ds h.1 in
    let one = sum_by-cons f d ds in
    omega (arith, here, rest, one)

pub sums_add : (f g h : (ℕ × ℕ) → ℕ) (ds : List (ℕ × ℕ)) → ((d : ℕ × ℕ) → h d ≡ f d + g d) → sum_by h ds ≡ sum_by f ds + sum_by g ds
sums_add f g h [] is = refl
sums_add f g h (d ∷ ds) is =
    let here = is d in
    let rest = sums_add f g h ds is in
    let all = sum_by-cons h d ds in
    let one = sum_by-cons f d ds in
    let other = sum_by-cons g d ds in
    omega (arith, here, rest, all, one, other)

pub sums_alike : (f g : (ℕ × ℕ) → ℕ) (ds : List (ℕ × ℕ)) → ((d : ℕ × ℕ) → f d ≡ g d) → sum_by f ds ≡ sum_by g ds
sums_alike f g ds is = sums_same f g ds (each_of (λ d. f d ≡ g d) is ds)

-- each filter has the driver that is looked up
driver_here : (d : ℕ × ℕ) (ds : List (ℕ × ℕ)) (f : ℕ) → d.0 ≡ f → driver_of (d ∷ ds) f ≡ Some d.1
driver_here d ds f e = ap (λ b. option_map (λ (x : ℕ × ℕ). x.1) (cond b (Some d) (find (λ x. x.0 == f) ds))) (equals d.0 f e)

driver_later : (d : ℕ × ℕ) (ds : List (ℕ × ℕ)) (f : ℕ) → (d.0 == f) ≡ false → driver_of (d ∷ ds) f ≡ driver_of ds f
driver_later d ds f e = ap (λ b. option_map (λ (x : ℕ × ℕ). x.1) (cond b (Some d) (find (λ x. x.0 == f) ds))) e

each_has_its : (ds : List (ℕ × ℕ)) → AreApart ds → EachDriver (λ d. driver_of ds d.0 ≡ Some d.1) ds
each_has_its [] a = tt
each_has_its (d ∷ ds) a = (
  driver_here d ds d.0 refl,
  each_implies (λ x. driver_of ds x.0 ≡ Some x.1) (λ x. driver_of (d ∷ ds) x.0 ≡ Some x.1) (λ x e. later x e (d.0 == x.0) refl) ds (each_has_its ds a.1),
)
  where
    later : (x : ℕ × ℕ) → driver_of ds x.0 ≡ Some x.1 → (b : Bool) → (d.0 == x.0) ≡ b → driver_of (d ∷ ds) x.0 ≡ Some x.1
    later x e true t = absurd (none_some x.1 (driver_of ds x.0) (ap (driver_of ds) (sym (equal d.0 x.0 t)) ∙ a.0) e)
    later x e false t = driver_later d ds x.0 t ∙ e

-- it has it still where others take drivers
pub driver_still : (f q : ℕ) (ds more : List (ℕ × ℕ)) → driver_of ds f ≡ Some q → driver_of (ds ++ more) f ≡ Some q
driver_still f q [] more e = absurd (none_some q (driver_of [] f) refl e)
driver_still f q (d ∷ ds) more e = by_number (driver_still f q ds more) (d.0 == f) refl
  where
    by_number : (driver_of ds f ≡ Some q → driver_of (ds ++ more) f ≡ Some q) → (b : Bool) → (d.0 == f) ≡ b → driver_of (d ∷ (ds ++ more)) f ≡ Some q
    by_number rest true t = driver_here d (ds ++ more) f (equal d.0 f t) ∙ sym (driver_here d ds f (equal d.0 f t)) ∙ e
    by_number rest false t = driver_later d (ds ++ more) f t ∙ rest (sym (driver_later d ds f t) ∙ e)

-- a sum of one filter's
abbrev of_filter : ℕ → ℕ → (ℕ × ℕ) → ℕ
of_filter f n d = cond (d.0 == f) n 0

missing : (f n : ℕ) (ds : List (ℕ × ℕ)) → driver_of ds f ≡ None → sum_by (of_filter f n) ds ≡ 0
missing f n [] e = refl
missing f n (d ∷ ds) e = by_number (missing f n ds) (d.0 == f) refl (sum_by-cons (of_filter f n) d ds)
  where
    by_number : (driver_of ds f ≡ None → sum_by (of_filter f n) ds ≡ 0) → (b : Bool) → (d.0 == f) ≡ b → sum_by (of_filter f n) (d ∷ ds) ≡ of_filter f n d + sum_by (of_filter f n) ds → sum_by (of_filter f n) (d ∷ ds) ≡ 0
    by_number rest true t cons = absurd (none_some d.1 (driver_of (d ∷ ds) f) e (driver_here d ds f (equal d.0 f t)))
    by_number rest false t cons =
        let here : of_filter f n d ≡ 0 = ap (λ b. cond b n 0) t in
        let none = rest (sym (driver_later d ds f t) ∙ e) in
        omega (arith, cons, here, none)

found_once : (f n q : ℕ) (ds : List (ℕ × ℕ)) → AreApart ds → driver_of ds f ≡ Some q → sum_by (of_filter f n) ds ≡ n
found_once f n q [] a e = absurd (none_some q (driver_of [] f) refl e)
found_once f n q (d ∷ ds) a e = by_number (found_once f n q ds a.1) (d.0 == f) refl (sum_by-cons (of_filter f n) d ds)
  where
    by_number : (driver_of ds f ≡ Some q → sum_by (of_filter f n) ds ≡ n) → (b : Bool) → (d.0 == f) ≡ b → sum_by (of_filter f n) (d ∷ ds) ≡ of_filter f n d + sum_by (of_filter f n) ds → sum_by (of_filter f n) (d ∷ ds) ≡ n
    by_number rest true t cons =
        let here : of_filter f n d ≡ n = ap (λ b. cond b n 0) t in
        let none = missing f n ds (ap (driver_of ds) (sym (equal d.0 f t)) ∙ a.0) in
        omega (arith, cons, here, none)
    by_number rest false t cons =
        let here : of_filter f n d ≡ 0 = ap (λ b. cond b n 0) t in
        let all = rest (sym (driver_later d ds f t) ∙ e) in
        omega (arith, cons, here, all)

-- what is counted of the filters that have or had the driver at a place
abbrev pub at_place : ℕ → (ℕ → ℕ) → (ℕ × ℕ) → ℕ
at_place place counts d = if d.1 == place then counts d.0 else 0

pub none_at : (place : ℕ) (counts : ℕ → ℕ) (d : ℕ × ℕ) → counts d.0 ≡ 0 → at_place place counts d ≡ 0
none_at place counts d e = by_test (d.1 == place)
  where
    by_test : (b : Bool) → cond b (counts d.0) 0 ≡ 0
    by_test true = e
    by_test false = refl

-- a filter that is attached sits where it has its driver
pub record Sits (seats ds : List (ℕ × ℕ)) (f : ℕ) : Type 0 where
  pub place : ℕ
  pub seat : seat_of seats f ≡ Some place
  pub driver : driver_of ds f ≡ Some place

module _ (seats ds : List (ℕ × ℕ)) (entries : List Attached) (counts : ℕ → ℕ) (apart : AreApart ds) (alone : SeatsApart seats)
    (absent : (f : ℕ) → attached f entries ≡ None → counts f ≡ 0) (sits : (f : ℕ) (a : Attached) → attached f entries ≡ Some a → Sits seats ds f) (place : ℕ) where
  -- one that is attached and has its driver there sits there
  there : (d : ℕ × ℕ) (a : Attached) → driver_of ds d.0 ≡ Some d.1 → attached d.0 entries ≡ Some a → seat_of seats d.0 ≡ Some d.1
  there d a its e =
      let s : Sits seats ds d.0 = sits d.0 a e in
      s.seat ∙ ap Some (some_same s.place d.1 (sym s.driver ∙ its))

  module _ (f : ℕ) (seat : seat_of seats f ≡ Some place) where
    term : (d : ℕ × ℕ) → driver_of ds d.0 ≡ Some d.1 → at_place place counts d ≡ of_filter f (counts f) d
    term d its = by_entry (attached d.0 entries) refl
      where
        idle : counts d.0 ≡ 0 → (b : Bool) → (d.0 == f) ≡ b → 0 ≡ cond b (counts f) 0
        idle zero true t = sym zero ∙ ap counts (equal d.0 f t)
        idle zero false t = refl

        elsewhere : seat_of seats d.0 ≡ Some d.1 → (d.1 == place) ≡ false → (b : Bool) → (d.0 == f) ≡ b → 0 ≡ cond b (counts f) 0
        elsewhere s away true t =
            let same : d.1 ≡ place = some_same d.1 place (sym s ∙ ap (seat_of seats) (equal d.0 f t) ∙ seat) in
            absurd (cc (sym away ∙ equals d.1 place same))
        elsewhere s away false t = refl

        by_place : seat_of seats d.0 ≡ Some d.1 → (b : Bool) → (d.1 == place) ≡ b → at_place place counts d ≡ of_filter f (counts f) d
        by_place s true t =
            let same : d.0 ≡ f = alone d.0 f place (s ∙ ap Some (equal d.1 place t)) seat in
            ap (λ b. cond b (counts d.0) 0) t ∙ ap counts same ∙ sym (ap (λ b. cond b (counts f) 0) (equals d.0 f same))
        by_place s false t = ap (λ b. cond b (counts d.0) 0) t ∙ elsewhere s t (d.0 == f) refl

        by_entry : (o : Option Attached) → attached d.0 entries ≡ o → at_place place counts d ≡ of_filter f (counts f) d
        by_entry None e = none_at place counts d (absent d.0 e) ∙ idle (absent d.0 e) (d.0 == f) refl
        by_entry (Some a) e = by_place (there d a its e) (d.1 == place) refl

    pub counted_seated : sum_by (at_place place counts) ds ≡ counts f
    counted_seated =
        sums_same (at_place place counts) (of_filter f (counts f)) ds (each_implies (λ d. driver_of ds d.0 ≡ Some d.1) (λ d. at_place place counts d ≡ of_filter f (counts f) d) term ds (each_has_its ds apart))
        ∙ by_entry (attached f entries) refl
      where
        zero_of : counts f ≡ 0 → (d : ℕ × ℕ) → of_filter f (counts f) d ≡ 0
        zero_of e d = by_test (d.0 == f)
          where
            by_test : (b : Bool) → cond b (counts f) 0 ≡ 0
            by_test true = e
            by_test false = refl

        by_entry : (o : Option Attached) → attached f entries ≡ o → sum_by (of_filter f (counts f)) ds ≡ counts f
        by_entry None e =
            let none = absent f e in
            sums_none (of_filter f (counts f)) ds (each_of (λ d. of_filter f (counts f) d ≡ 0) (zero_of none) ds) ∙ sym none
        by_entry (Some a) e = let s : Sits seats ds f = sits f a e in found_once f (counts f) s.place ds apart s.driver

  module _ (vacant : IsVacant seats place) where
    vacant_term : (d : ℕ × ℕ) → driver_of ds d.0 ≡ Some d.1 → at_place place counts d ≡ 0
    vacant_term d its = by_entry (attached d.0 entries) refl
      where
        by_place : seat_of seats d.0 ≡ Some d.1 → (b : Bool) → (d.1 == place) ≡ b → at_place place counts d ≡ 0
        by_place s true t = absurd (vacant d.0 (s ∙ ap Some (equal d.1 place t)))
        by_place s false t = ap (λ b. cond b (counts d.0) 0) t

        by_entry : (o : Option Attached) → attached d.0 entries ≡ o → at_place place counts d ≡ 0
        by_entry None e = none_at place counts d (absent d.0 e)
        by_entry (Some a) e = by_place (there d a its e) (d.1 == place) refl

    pub counted_vacant : sum_by (at_place place counts) ds ≡ 0
    counted_vacant = sums_none (at_place place counts) ds (each_implies (λ d. driver_of ds d.0 ≡ Some d.1) (λ d. at_place place counts d ≡ 0) vacant_term ds (each_has_its ds apart))

-- a filter sits at a place, or none does
pub record SitsThere (seats : List (ℕ × ℕ)) (place : ℕ) : Type 0 where
  pub filter : ℕ
  pub seat : seat_of seats filter ≡ Some place

-- one of these sits there by all seats
among : (seats some : List (ℕ × ℕ)) (place : ℕ) → SitsThere seats place ⊎ ((f : ℕ) → seat_of some f ≡ Some place → seat_of seats f ≡ Some place → ⊥)
among seats [] place = inr (λ f e g. none_some place (seat_of [] f) refl e)
among seats (s ∷ some) place = by_seat (seat_of seats s.0) refl (among seats some place)
  where
    others : (q : Option ℕ) → seat_of seats s.0 ≡ q → (q ≡ Some place → ⊥) → ((f : ℕ) → seat_of some f ≡ Some place → seat_of seats f ≡ Some place → ⊥)
        → (f : ℕ) → (b : Bool) → (s.0 == f) ≡ b → cond b (Some s.1) (seat_of some f) ≡ Some place → seat_of seats f ≡ Some place → ⊥
    others q e away rest f true t first all = away (sym e ∙ ap (seat_of seats) (equal s.0 f t) ∙ all)
    others q e away rest f false t first all = rest f first all

    by_place : (q : ℕ) → seat_of seats s.0 ≡ Some q → (b : Bool) → (q == place) ≡ b → SitsThere seats place ⊎ ((f : ℕ) → seat_of some f ≡ Some place → seat_of seats f ≡ Some place → ⊥)
        → SitsThere seats place ⊎ ((f : ℕ) → seat_of (s ∷ some) f ≡ Some place → seat_of seats f ≡ Some place → ⊥)
    by_place q e true t rest = inl (record { filter = s.0; seat = e ∙ ap Some (equal q place t) })
    by_place q e false t (inl found) = inl found
    by_place q e false t (inr rest) = inr (λ f. others (Some q) e (λ same. cc (sym t ∙ equals q place (some_same q place same))) rest f (s.0 == f) refl)

    by_seat : (q : Option ℕ) → seat_of seats s.0 ≡ q → SitsThere seats place ⊎ ((f : ℕ) → seat_of some f ≡ Some place → seat_of seats f ≡ Some place → ⊥)
        → SitsThere seats place ⊎ ((f : ℕ) → seat_of (s ∷ some) f ≡ Some place → seat_of seats f ≡ Some place → ⊥)
    by_seat None e (inl found) = inl found
    by_seat None e (inr rest) = inr (λ f. others None e (λ same. cc) rest f (s.0 == f) refl)
    by_seat (Some q) e rest = by_place q e (q == place) refl rest

pub seated_or_vacant : (seats : List (ℕ × ℕ)) (place : ℕ) → SitsThere seats place ⊎ IsVacant seats place
seated_or_vacant seats place = by (among seats seats place)
  where
    by : SitsThere seats place ⊎ ((f : ℕ) → seat_of seats f ≡ Some place → seat_of seats f ≡ Some place → ⊥) → SitsThere seats place ⊎ IsVacant seats place
    by (inl found) = inl found
    by (inr none) = inr (λ f e. none f e e)
