-- Each pump that moves something leaves less to do, where everything stands in its place.
use Rattle.std.proofs.Common.{◌≡◌, ℕ, ◌==◌, ◌||◌, Bool, true, false, cond, List, [], ◌∷◌, Option, Some, None, refl, arith, ap, sym, subst, ◌∙◌, ◌⊎◌, inl, inr, find}
use Rattle.std.proofs.lemmas.Bool.Decides.{nat_tests}
use Rattle.ndis_base.specs.declared.ModuleId.{ModuleId}
use Rattle.ndis_base.specs.declared.ModuleId.TheVariants.{Miniport, Filter}
use Rattle.ndis_base.specs.declared.Origin.{Origin}
use Rattle.ndis_base.specs.declared.Origin.TheVariants as origin
use Rattle.journal_types.specs.declared.Reply.TheVariants as reply
use Rattle.stack_rules.specs.declared.Answered.{Answered}
use Rattle.stack_rules.specs.declared.StatusAway.{StatusAway}
use Rattle.stack_rules.specs.declared.LiveList.{LiveList}
use Rattle.stack_rules.specs.declared.Stand.{Stand}
use Rattle.stack_rules.specs.declared.Stand.TheVariants as stand
use Rattle.stack_rules.specs.declared.Request.{Request}
use Rattle.stack_rules.specs.declared.RequestAt.{RequestAt}
use Rattle.stack_rules.specs.declared.RequestAt.TheVariants as at
use Rattle.stack_rules.specs.declared.Thing.{Thing}
use Rattle.stack_rules.specs.declared.Thing.TheVariants as thing
use Rattle.stack_rules.specs.Net.{Net, lists, list_of, request_of}
use Rattle.stack_rules.specs.Places.{is_away, is_passed, is_clone_of, is_crossed, has_clone, agenda_first}
use Rattle.stack_rules.specs.Requests.{Giving, next_giving}
use Rattle.stack_rules.specs.Pumps.{thing_rows, request_pump, pump_of, pump_outcome}
use Rattle.stack_rules.specs.Outcome.{Outcome}
use Rattle.rule_basics.specs.Live.{is_live, IsApart, Each, EachRequest, EachApart}
use Rattle.home_laws.proofs.Known.{thing_found}
use Rattle.place_laws.specs.Kept.{IsPlaced, IsOriginal, HasOriginal, GoesUp, IsGiven, IsAsked, EachAnswer, EachStatus, IsInPlace}
use Rattle.work_laws.proofs.Clones.{any_clone}
use Rattle.work_laws.proofs.Adds.{OutcomeAdds, adds_none}
use Rattle.work_laws.proofs.Hands.{Found}
use Rattle.work_laws.proofs.Lowers.{IsFree}
use Rattle.work_laws.proofs.Filters.{Lowers}
use Rattle.work_laws.proofs.Moves.{moved_lowers}
use Rattle.work_laws.proofs.Items.{status_lowers, answer_lowers}
use Rattle.request_laws.proofs.Givings.{GivesNext, gives_next}
use Rattle.work_laws.proofs.Givings.{MayGive, giving_lowers}

-- what is found is one of those
pub find_passes : {X : Type 0} (p : X → Bool) (xs : List X) (x : X) → find p xs ≡ Some x → p x ≡ true
find_passes p [] x f = cc
find_passes {X} p (y ∷ xs) x f =
    let cases : (b : Bool) → p y ≡ b → cond b (Some y) (find p xs) ≡ Some x → p x ≡ true = elim [
      | true ↦ λ t g. subst (λ (k : X). p k ≡ true) (same y x g) t
      | false ↦ λ t g. find_passes p xs x g
    ] in
    cases (p y) refl f
  where
    same : (a b : X) → Some a ≡ Some b → a ≡ b
    same a b g = cc

-- each list is found by its number
both : (P Q R : LiveList → Type 0) → ((l : LiveList) → P l → Q l → R l) → (ls : List LiveList) → Each P ls → Each Q ls → Each R ls
both P Q R f [] p q = tt
both P Q R f (l ∷ ls) p q = (f l p.0 q.0, both P Q R f ls p.1 q.1)

other_numbers : (n : ℕ) (ls : List LiveList) → is_live n ls ≡ false → Each (λ l. (n == l.list.0) ≡ false) ls
other_numbers n [] h = tt
other_numbers n (l ∷ ls) h = (grind (arith, nat_tests), other_numbers n ls (grind (arith, nat_tests)))

each_found : (ls : List LiveList) → IsApart ls → Each (λ l. list_of l.list.0 ls ≡ Some l) ls
each_found [] h = tt
each_found (x ∷ ls) h = (self x.list.0, both _ _ _ later ls (other_numbers x.list.0 ls h.0) (each_found ls h.1))
  where
    self : (n : ℕ) → cond (n == n) (Some x) (list_of n ls) ≡ Some x
    self n = grind (arith, nat_tests)

    later : (l : LiveList) → (x.list.0 == l.list.0) ≡ false → list_of l.list.0 ls ≡ Some l → cond (x.list.0 == l.list.0) (Some x) (list_of l.list.0 ls) ≡ Some l
    later l a f = rw a f

pub all_found : (net : Net) → IsApart (lists net.things) → Each (Found net) (lists net.things)
all_found net h = each_found (lists net.things) h

-- a list on its way has no clone, and hasn't crossed
passed_kept : (s : Stand) (m : ModuleId) → is_passed s ≡ true → s ≡ stand.Kept m → ⊥
passed_kept stand.Unplaced m q e = cc
passed_kept (stand.Kept k) m q e = cc
passed_kept (stand.Passed way to) m q e = cc

-- no filter keeps the list
abbrev pub KeptByNoFilter : LiveList → Type 0
KeptByNoFilter l = (f : ℕ) → l.stand ≡ stand.Kept (Filter f) → ⊥

pub no_clone : (net : Net) (l : LiveList) (ys : List LiveList) → Found net l → KeptByNoFilter l → Each (HasOriginal net) ys → any_clone l.list.0 ys ≡ false
no_clone net l [] f q h = refl
no_clone net l (y ∷ ys) f q h = neither (is_clone_of l.list.0 y.origin) (any_clone l.list.0 ys) (here y.origin refl) (no_clone net l ys f q h.1)
  where
    neither : (a b : Bool) → a ≡ false → b ≡ false → (a || b) ≡ false
    neither true b e g = cc
    neither false b e g = g

    here : (o : Origin) → y.origin ≡ o → is_clone_of l.list.0 o ≡ false
    here origin.Root e = refl
    here (origin.Copy o) e = refl
    here (origin.Clone o) e = cases (o.0 == l.list.0) refl
      where
        cases : (b : Bool) → (o.0 == l.list.0) ≡ b → b ≡ false
        cases true t =
            let same : o.0 ≡ l.list.0 = grind (arith, nat_tests) in
            let original : IsOriginal net.modules y l = h.0 o l e (ap (λ n. list_of n (lists net.things)) same ∙ f) in
            absurd (q original.filter.0 (original.kept ∙ ap (λ m. stand.Kept m) original.filter.1))
        cases false t = refl

not_crossed : (net : Net) (l : LiveList) → IsPlaced net l → is_passed l.stand ≡ true → is_crossed l.crossed ≡ false
not_crossed net l p q = cases (is_crossed l.crossed) refl
  where
    cases : (b : Bool) → is_crossed l.crossed ≡ b → b ≡ false
    cases true t = absurd (passed_kept l.stand Miniport q (p.crossed t).0)
    cases false t = refl

-- what is known of a list
pub record IsFine (net : Net) (l : LiveList) : Type 0 where
  pub found : Found net l
  pub placed : IsPlaced net l
  pub original : HasOriginal net l

pub all_fine : (net : Net) → IsInPlace net → Each (IsFine net) (lists net.things)
all_fine net h =
    both _ _ (IsFine net) (λ l f g. record { found = f; placed = g.0; original = g.1 }) (lists net.things) (all_found net h.numbered.apart)
    (both (IsPlaced net) (HasOriginal net) (λ l. IsPlaced net l × HasOriginal net l) (λ l p o. (p, o)) (lists net.things) h.placed h.originals)

pub is_free : (net : Net) (l : LiveList) → IsInPlace net → IsFine net l → is_passed l.stand ≡ true → IsFree net l
is_free net l h f q = record {
  numbered = h.numbered;
  found = f.found;
  free = neither (is_crossed l.crossed) (has_clone net l.list.0) (not_crossed net l f.placed q) (no_clone net l (lists net.things) f.found (λ i. passed_kept l.stand (Filter i) q) h.originals);
}
  where
    neither : (a b : Bool) → a ≡ false → b ≡ false → (a || b) ≡ false
    neither true b e g = cc
    neither false b e g = g

list_lowers : (net : Net) (l : LiveList) (keeps : Bool) → IsInPlace net → IsFine net l → is_passed l.stand ≡ true → Lowers net (thing_rows net (thing.List l) keeps)
list_lowers net l keeps h f q = moved_lowers net l l.stand keeps (is_free net l h f q) h.ordered f.original refl f.placed.stands q

-- statuses and answers that are found
status_found : (P : StatusAway → Type 0) (p : Thing → Bool) (ts : List Thing) (s : StatusAway) → EachStatus P ts → find p ts ≡ Some (thing.Status s) → P s
status_found P p [] s h f = cc
status_found P p (x ∷ ts) s h f = cases (p x) (status_found P p ts s (rest x h)) f
  where
    same : (a b : Thing) → Some a ≡ Some b → a ≡ b
    same a b g = cc

    rest : (x : Thing) → EachStatus P (x ∷ ts) → EachStatus P ts
    rest (thing.List l) h = h
    rest (thing.Status s) h = h.1
    rest (thing.Answer a) h = h

    here : (x : Thing) → EachStatus P (x ∷ ts) → x ≡ thing.Status s → P s
    here (thing.List l) h e = cc
    here (thing.Status t) h e = let same : t ≡ s = cc in subst P same h.0
    here (thing.Answer a) h e = cc

    cases : (b : Bool) → (find p ts ≡ Some (thing.Status s) → P s) → cond b (Some x) (find p ts) ≡ Some (thing.Status s) → P s
    cases true k g = here x h (same x (thing.Status s) g)
    cases false k g = k g

answer_found : (P : Answered → Type 0) (p : Thing → Bool) (ts : List Thing) (a : Answered) → EachAnswer P ts → find p ts ≡ Some (thing.Answer a) → P a
answer_found P p [] a h f = cc
answer_found P p (x ∷ ts) a h f = cases (p x) (answer_found P p ts a (rest x h)) f
  where
    same : (a b : Thing) → Some a ≡ Some b → a ≡ b
    same a b g = cc

    rest : (x : Thing) → EachAnswer P (x ∷ ts) → EachAnswer P ts
    rest (thing.List l) h = h
    rest (thing.Status s) h = h
    rest (thing.Answer a) h = h.1

    here : (x : Thing) → EachAnswer P (x ∷ ts) → x ≡ thing.Answer a → P a
    here (thing.List l) h e = cc
    here (thing.Status t) h e = cc
    here (thing.Answer b) h e = let same : b ≡ a = cc in subst P same h.0

    cases : (b : Bool) → (find p ts ≡ Some (thing.Answer a) → P a) → cond b (Some x) (find p ts) ≡ Some (thing.Answer a) → P a
    cases true k g = here x h (same x (thing.Answer a) g)
    cases false k g = k g

-- requests that are found
request_found : (P : Request → Type 0) (p : Request → Bool) (rs : List Request) (r : Request) → EachRequest P rs → find p rs ≡ Some r → P r
request_found P p [] r h f = cc
request_found P p (q ∷ rs) r h f = cases (p q) (request_found P p rs r h.1) f
  where
    same : (a b : Request) → Some a ≡ Some b → a ≡ b
    same a b g = cc

    cases : (b : Bool) → (find p rs ≡ Some r → P r) → cond b (Some q) (find p rs) ≡ Some r → P r
    cases true k g = subst P (same q r g) h.0
    cases false k g = k g

by_number : (p : Request → Bool) (rs : List Request) (r : Request) → EachApart rs → find p rs ≡ Some r → request_of r.request.0 rs ≡ Some r
by_number p [] r h f = cc
by_number p (q ∷ rs) r h f = cases (p q) (by_number p rs r h.1) f
  where
    same : (a b : Request) → Some a ≡ Some b → a ≡ b
    same a b g = cc

    itself : (n : ℕ) → (n == n) ≡ true
    itself n = grind (arith, nat_tests)

    swapped : (a b : ℕ) → (a == b) ≡ false → (b == a) ≡ false
    swapped a b h = grind (arith, nat_tests)

    here : q ≡ r → cond (q.request.0 == r.request.0) (Some q) (request_of r.request.0 rs) ≡ Some r
    here e = let t : (q.request.0 == r.request.0) ≡ true = ap (λ (k : Request). q.request.0 == k.request.0) (sym e) ∙ itself q.request.0 in rw t (ap (λ (k : Request). Some k) e)

    cases : (b : Bool) → (find p rs ≡ Some r → request_of r.request.0 rs ≡ Some r) → cond b (Some q) (find p rs) ≡ Some r → cond (q.request.0 == r.request.0) (Some q) (request_of r.request.0 rs) ≡ Some r
    cases true k g = here (same q r g)
    cases false k g =
        let other : (r.request.0 == q.request.0) ≡ false = request_found (λ k. (k.request.0 == q.request.0) ≡ false) p rs r h.0 g in
        rw (swapped r.request.0 q.request.0 other) (k g)

-- answers are of requests that were given
answers_apart : (net : Net) (r : Request) (m : ModuleId) → request_of r.request.0 net.requests ≡ Some r → (r.at ≡ at.Entry) ⊎ (r.at ≡ at.Waiting m) → (ts : List Thing) → EachAnswer (λ a. IsGiven net a.parent.0) ts → EachAnswer (λ a. (a.parent.0 == r.request.0) ≡ false) ts
answers_apart net r m f w [] h = tt
answers_apart net r m f w (thing.List l ∷ ts) h = answers_apart net r m f w ts h
answers_apart net r m f w (thing.Status s ∷ ts) h = answers_apart net r m f w ts h
answers_apart net r m f w (thing.Answer a ∷ ts) h = (cases (a.parent.0 == r.request.0) refl, answers_apart net r m f w ts h.1)
  where
    same : (x y : Request) → Some x ≡ Some y → x ≡ y
    same x y g = cc

    clash : (p : RequestAt) (f : ℕ) → p ≡ at.Given (Filter f) → (p ≡ at.Entry) ⊎ (p ≡ at.Waiting m) → ⊥
    clash p f e (inl g) = cc
    clash p f e (inr g) = cc

    cases : (b : Bool) → (a.parent.0 == r.request.0) ≡ b → b ≡ false
    cases true t =
        let number : r.request.0 ≡ a.parent.0 = grind (arith, nat_tests) in
        let given : IsGiven net a.parent.0 = h.0 in
        let one : r ≡ given.request = same r given.request (sym f ∙ ap (λ n. request_of n net.requests) number ∙ given.found) in
        let there : r.at ≡ at.Given (Filter given.filter) = ap (λ (k : Request). k.at) one ∙ given.at in
        absurd (clash r.at given.filter there w)
    cases false t = refl

may_give : (net : Net) (g : Giving) → IsInPlace net → GivesNext net g → MayGive net g.request g.module_id
may_give net g h n =
    let numbered : request_of g.request.request.0 net.requests ≡ Some g.request = by_number n.test net.requests g.request h.apart n.found in
    record {
      test = n.test;
      found = n.found;
      numbered = numbered;
      at = n.at;
      answers = answers_apart net g.request g.module_id numbered n.at net.things h.answers;
      asked = request_found (IsAsked net) n.test net.requests g.request h.asked n.found;
    }

-- the outcome of a pump
abbrev pub MovedLowers : Net → Outcome → Type 0
MovedLowers net o = o.reply ≡ reply.Moved → Lowers net o.rows

request_pump_lowers : (net : Net) (o : Option Giving) → next_giving net ≡ o → IsInPlace net → MovedLowers net (request_pump net o)
request_pump_lowers net None e h q = cc
request_pump_lowers net (Some g) e h q =
    let n : GivesNext net g = gives_next net g e in
    giving_lowers net g h.numbered h.ordered.distinct n.takes (may_give net g h n)

thing_lowers : (net : Net) (t : Thing) (keeps : Bool) → IsInPlace net → find is_away net.things ≡ Some t → Lowers net (thing_rows net t keeps)
thing_lowers net (thing.List l) keeps h f =
    list_lowers net l keeps h (thing_found (IsFine net) is_away net.things (thing.List l) (all_fine net h) f) (find_passes is_away net.things (thing.List l) f)
thing_lowers net (thing.Status s) keeps h f = status_lowers net s h.numbered f (status_found (λ s. GoesUp s.to) is_away net.things s h.statuses f) h.bound
thing_lowers net (thing.Answer a) keeps h f =
    let given : IsGiven net a.parent.0 = answer_found (λ a. IsGiven net a.parent.0) is_away net.things a h.answers f in
    answer_lowers net a h.numbered f given (request_found (IsAsked net) (λ r. r.request.0 == a.parent.0) net.requests given.request h.asked given.found)

pump_of_lowers : (net : Net) (keeps : Bool) (o : Option Thing) → find is_away net.things ≡ o → IsInPlace net → MovedLowers net (pump_of net keeps o)
pump_of_lowers net keeps None e h q = request_pump_lowers net (next_giving net) refl h q
pump_of_lowers net keeps (Some t) e h q = thing_lowers net t keeps h e

pub pump_lowers : (net : Net) (keeps : Bool) → IsInPlace net → MovedLowers net (pump_outcome net keeps)
pump_lowers net keeps h = pump_of_lowers net keeps (agenda_first net) refl h

-- a pump adds nothing
request_pump_adds : (net : Net) (o : Option Giving) → next_giving net ≡ o → IsInPlace net → OutcomeAdds net 0 (request_pump net o)
request_pump_adds net None e h = adds_none net 0
request_pump_adds net (Some g) e h = let less = request_pump_lowers net (Some g) e h refl in omega (arith, less)

pump_of_adds : (net : Net) (keeps : Bool) (o : Option Thing) → find is_away net.things ≡ o → IsInPlace net → OutcomeAdds net 0 (pump_of net keeps o)
pump_of_adds net keeps None e h = request_pump_adds net (next_giving net) refl h
pump_of_adds net keeps (Some t) e h = let less = thing_lowers net t keeps h e in omega (arith, less)

pub pump_adds : (net : Net) (keeps : Bool) → IsInPlace net → OutcomeAdds net 0 (pump_outcome net keeps)
pump_adds net keeps h = pump_of_adds net keeps (agenda_first net) refl h
