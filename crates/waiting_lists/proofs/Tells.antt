-- The tables tell what waits, and go on to tell it row by row.
use Rattle.std.proofs.Common.{◌≡◌, ℕ, ◌==◌, ◌||◌, ◌&&◌, not, Bool, true, false, cond, List, [], ◌∷◌, ◌++◌, Option, Some, None, filter, refl, sym, ap, ◌∙◌, subst, arith, eq-eqb, eqb-true}
use Rattle.std.specs.List.{list_any}
use Rattle.std.proofs.lemmas.Bool.Decides.{nat_tests}
use Rattle.ndis_base.specs.declared.ListNo.{ListNo}
use Rattle.ndis_base.specs.declared.ConfigNo.{ConfigNo}
use Rattle.ndis_base.specs.declared.Direction.{Direction}
use Rattle.ndis_base.specs.declared.ListStatus.{ListStatus}
use Rattle.ndis_base.specs.declared.ModuleId.{ModuleId}
use Rattle.ndis_base.specs.declared.Origin.{Origin}
use Rattle.ndis_base.specs.declared.Origin.TheVariants as origin
use Rattle.journal_types.specs.declared.Handler.{Handler}
use Rattle.journal_types.specs.declared.Handler.TheVariants as handler
use Rattle.journal_types.specs.declared.PassWay.{PassWay}
use Rattle.journal_types.specs.declared.Target.{Target}
use Rattle.journal_types.specs.declared.Row.TheVariants as row
use Rattle.stack_rules.specs.declared.LiveList.{LiveList}
use Rattle.stack_rules.specs.declared.Stand.TheVariants as stand
use Rattle.stack_rules.specs.declared.Thing.TheVariants as thing
use Rattle.stack_rules.specs.Net.{Net, after, lists, list_of, had_by, as_kept, as_passed}
use Rattle.stack_rules.specs.Places.{is_clone_of, has_clone, is_crossed}
use Rattle.rule_basics.specs.Live.{IsApart, is_live, others, touched, retouched, with_last}
use Rattle.rule_basics.proofs.Lists.{lists-append, lists-without, lists-changed, lists-kept, lists-passed}
use Rattle.rule_basics.proofs.Lives.{find_is, find_none}
use Rattle.agenda_items.specs.Waits.{crossed_at, waits_at}
use Rattle.waiting_lists.specs.Waiting.{WaitView, waits_in, has_original, is_other, is_pair, clones_at, Tells}
use Rattle.waiting_lists.proofs.Found.{or_this, if_of, found_last, found_others, changed, found_changed, found_moved, any_push, any_left, any_same, any_no}

-- rows that leave the lists as they are
pub tells_same : {net now : Net} {w : WaitView} → Tells net w → lists now.things ≡ lists net.things → Tells now w
tells_same {net} {now} {w} t e = record {
  clones = λ c o. t.clones c o ∙ ap (λ ls. clones_at o (list_of c ls)) (sym e);
  crossed = λ n. t.crossed n ∙ ap (λ ls. crossed_at (list_of n ls)) (sym e);
}

-- rows that change a list in its place, but neither its origin nor whether it has crossed
pub tells_given : (net : Net) (n : ListNo) (m : ModuleId) (by : Handler) (w : WaitView) → Tells net w → Tells (after net (row.Give n m by)) w
tells_given net n m by w t = record {
  clones = λ c o. t.clones c o ∙ sym (ap (λ ls. clones_at o (list_of c ls)) (lists-changed n.0 (had_by m) net.things) ∙ ap (clones_at o) (found_changed n.0 (had_by m) (λ l. refl) c (lists net.things)) ∙ clone_still c o (list_of c (lists net.things)));
  crossed = λ k. t.crossed k ∙ sym (ap (λ ls. crossed_at (list_of k ls)) (lists-changed n.0 (had_by m) net.things) ∙ ap crossed_at (found_changed n.0 (had_by m) (λ l. refl) k (lists net.things)) ∙ crossed_still (list_of k (lists net.things)));
}
  where
    clone_still : (c o : ℕ) (f : Option LiveList) → clones_at o (changed n.0 (had_by m) f) ≡ clones_at o f
    clone_still c o None = refl
    clone_still c o (Some l) = elim (l.list.0 == n.0) as (λ b. is_clone_of o (cond b (had_by m l) l).origin ≡ is_clone_of o l.origin) [ true ↦ refl | false ↦ refl ]

    crossed_still : (f : Option LiveList) → crossed_at (changed n.0 (had_by m) f) ≡ crossed_at f
    crossed_still None = refl
    crossed_still (Some l) = elim (l.list.0 == n.0) as (λ b. is_crossed (cond b (had_by m l) l).crossed ≡ is_crossed l.crossed) [ true ↦ refl | false ↦ refl ]

pub tells_turned_back : (net : Net) (n : ListNo) (m : ModuleId) (status : ListStatus) (w : WaitView) → Tells net w → Tells (after net (row.TurnBack n m status)) w
tells_turned_back net n m status w t = let g = tells_given net n m handler.Send w t in record { clones = g.clones; crossed = g.crossed }

-- a list goes to the end, kept
number_kept : (n : ℕ) (m : ModuleId) (ls : List LiveList) (l : LiveList) → as_kept m (list_of n ls) ≡ Some l → l.list.0 ≡ n
number_kept n m ls l e = from (list_of n ls) refl e
  where
    from : (o : Option LiveList) → list_of n ls ≡ o → as_kept m o ≡ Some l → l.list.0 ≡ n
    from None f e = cc
    from (Some x) f e = let is : record x { last = m; stand = stand.Kept m } ≡ l = cc in sym (ap (λ (y : LiveList). y.list.0) is) ∙ (find_is n ls x f).0

pub tells_kept : (net : Net) (n : ListNo) (m : ModuleId) (w : WaitView) → Tells net w → Tells (after net (row.Keep n m)) w
tells_kept net n m w t = record {
  clones = λ c o. t.clones c o ∙ sym (ap (λ ls. clones_at o (list_of c ls)) (lists-kept n.0 m net.things) ∙ ap (clones_at o) (found_moved n.0 c ls (as_kept m (list_of n.0 ls)) (number_kept n.0 m ls)) ∙ clone_still c o (n.0 == c) refl);
  crossed = λ k. t.crossed k ∙ sym (ap (λ ls. crossed_at (list_of k ls)) (lists-kept n.0 m net.things) ∙ ap crossed_at (found_moved n.0 k ls (as_kept m (list_of n.0 ls)) (number_kept n.0 m ls)) ∙ crossed_still k (n.0 == k) refl);
}
  where
    ls : List LiveList
    ls = lists net.things

    clone_kept : (o : ℕ) (f : Option LiveList) → clones_at o (as_kept m f) ≡ clones_at o f
    clone_kept o None = refl
    clone_kept o (Some l) = refl

    clone_still : (c o : ℕ) (b : Bool) → (n.0 == c) ≡ b → clones_at o (cond b (as_kept m (list_of n.0 ls)) (list_of c ls)) ≡ clones_at o (list_of c ls)
    clone_still c o true e = clone_kept o (list_of n.0 ls) ∙ ap (λ k. clones_at o (list_of k ls)) (eqb-true n.0 c e)
    clone_still c o false e = refl

    crossed_kept : (f : Option LiveList) → crossed_at (as_kept m f) ≡ crossed_at f
    crossed_kept None = refl
    crossed_kept (Some l) = refl

    crossed_still : (k : ℕ) (b : Bool) → (n.0 == k) ≡ b → crossed_at (cond b (as_kept m (list_of n.0 ls)) (list_of k ls)) ≡ crossed_at (list_of k ls)
    crossed_still k true e = crossed_kept (list_of n.0 ls) ∙ ap (λ j. crossed_at (list_of j ls)) (eqb-true n.0 k e)
    crossed_still k false e = refl

-- a list goes to the end, on its way, and is no longer with another stack
number_passed : (n : ℕ) (way : PassWay) (to : Target) (ls : List LiveList) (l : LiveList) → as_passed way to (list_of n ls) ≡ Some l → l.list.0 ≡ n
number_passed n way to ls l e = from (list_of n ls) refl e
  where
    from : (o : Option LiveList) → list_of n ls ≡ o → as_passed way to o ≡ Some l → l.list.0 ≡ n
    from None f e = cc
    from (Some x) f e = let is : record x { stand = stand.Passed way to; crossed = None } ≡ l = cc in sym (ap (λ (y : LiveList). y.list.0) is) ∙ (find_is n ls x f).0

-- what is left of the crossed ones
crossed_left : (n k : ℕ) (ms : List ℕ) → list_any (λ m. m == k) (filter (λ m. not (m == n)) ms) ≡ cond (n == k) false (list_any (λ m. m == k) ms)
crossed_left n k ms = any_left (λ m. m == k) (λ m. not (m == n)) ms ∙ by_case (n == k) refl
  where
    by_case : (b : Bool) → (n == k) ≡ b → list_any (λ m. not (m == n) && (m == k)) ms ≡ cond b false (list_any (λ m. m == k) ms)
    by_case true e = any_no (λ m. not (m == n) && (m == k)) (λ m. both_not m n k e) ms
      where
        both_not : (m n k : ℕ) → (n == k) ≡ true → (not (m == n) && (m == k)) ≡ false
        both_not m n k e = grind (arith, nat_tests)
    by_case false e = any_same (λ m. not (m == n) && (m == k)) (λ m. m == k) (λ m. one_of m n k e) ms
      where
        one_of : (m n k : ℕ) → (n == k) ≡ false → (not (m == n) && (m == k)) ≡ (m == k)
        one_of m n k e = grind (arith, nat_tests)

abbrev pub taken_back : ℕ → WaitView → WaitView
taken_back n w = record w { crossed = filter (λ m. not (m == n)) w.crossed }

pub tells_passed : (net : Net) (n : ListNo) (way : PassWay) (to : Target) (w : WaitView) → Tells net w → Tells (after net (row.Pass n way to)) (taken_back n.0 w)
tells_passed net n way to w t = record {
  clones = λ c o. t.clones c o ∙ sym (ap (λ ls. clones_at o (list_of c ls)) (lists-passed n.0 way to net.things) ∙ ap (clones_at o) (found_moved n.0 c ls (as_passed way to (list_of n.0 ls)) (number_passed n.0 way to ls)) ∙ clone_still c o (n.0 == c) refl);
  crossed = λ k. crossed_left n.0 k w.crossed ∙ ap (cond (n.0 == k) false) (t.crossed k)
      ∙ sym (ap (λ ls. crossed_at (list_of k ls)) (lists-passed n.0 way to net.things) ∙ ap crossed_at (found_moved n.0 k ls (as_passed way to (list_of n.0 ls)) (number_passed n.0 way to ls)) ∙ crossed_out k (n.0 == k));
}
  where
    ls : List LiveList
    ls = lists net.things

    clone_passed : (o : ℕ) (f : Option LiveList) → clones_at o (as_passed way to f) ≡ clones_at o f
    clone_passed o None = refl
    clone_passed o (Some l) = refl

    clone_still : (c o : ℕ) (b : Bool) → (n.0 == c) ≡ b → clones_at o (cond b (as_passed way to (list_of n.0 ls)) (list_of c ls)) ≡ clones_at o (list_of c ls)
    clone_still c o true e = clone_passed o (list_of n.0 ls) ∙ ap (λ k. clones_at o (list_of k ls)) (eqb-true n.0 c e)
    clone_still c o false e = refl

    crossed_passed : (f : Option LiveList) → crossed_at (as_passed way to f) ≡ false
    crossed_passed None = refl
    crossed_passed (Some l) = refl

    crossed_out : (k : ℕ) (b : Bool) → crossed_at (cond b (as_passed way to (list_of n.0 ls)) (list_of k ls)) ≡ cond b false (crossed_at (list_of k ls))
    crossed_out k true = crossed_passed (list_of n.0 ls)
    crossed_out k false = refl

-- a list is home
abbrev pub gone_home : ℕ → WaitView → WaitView
gone_home n w = record w { clones = filter (is_other n) w.clones; crossed = filter (λ m. not (m == n)) w.crossed }

clones_left : (n c o : ℕ) (es : List (ℕ × ℕ)) → list_any (is_pair c o) (filter (is_other n) es) ≡ cond (n == c) false (list_any (is_pair c o) es)
clones_left n c o es = any_left (is_pair c o) (is_other n) es ∙ by_case (n == c) refl
  where
    none_of : (a n c : ℕ) (rest : Bool) → (n == c) ≡ true → (not (a == n) && ((a == c) && rest)) ≡ false
    none_of a n c rest e = ap (λ k. not (a == k) && ((a == c) && rest)) (eqb-true n c e) ∙ elim (a == c) as (λ b. (not b && (b && rest)) ≡ false) [ true ↦ refl | false ↦ refl ]

    all_of : (a n c : ℕ) (rest : Bool) → (n == c) ≡ false → (not (a == n) && ((a == c) && rest)) ≡ ((a == c) && rest)
    all_of a n c rest e = at (a == c) refl
      where
        at : (b : Bool) → (a == c) ≡ b → (not (a == n) && (b && rest)) ≡ (b && rest)
        at true f = ap (λ k. not k && rest) (apart a n c f e)
          where
            apart : (a n c : ℕ) → (a == c) ≡ true → (n == c) ≡ false → (a == n) ≡ false
            apart a n c f e = grind (arith, nat_tests)
        at false f = elim (a == n) as (λ b. (not b && false) ≡ false) [ true ↦ refl | false ↦ refl ]

    by_case : (b : Bool) → (n == c) ≡ b → list_any (λ e. is_other n e && is_pair c o e) es ≡ cond b false (list_any (is_pair c o) es)
    by_case true e = any_no (λ x. is_other n x && is_pair c o x) (λ x. none_of x.0 n c (x.1 == o) e) es
    by_case false e = any_same (λ x. is_other n x && is_pair c o x) (is_pair c o) (λ x. all_of x.0 n c (x.1 == o) e) es

pub tells_homed : (net : Net) (n : ListNo) (owner : ModuleId) (status : ListStatus) (w : WaitView) → Tells net w → Tells (after net (row.Home n owner status)) (gone_home n.0 w)
tells_homed net n owner status w t = record {
  clones = λ c o. clones_left n.0 c o w.clones ∙ ap (cond (n.0 == c) false) (t.clones c o)
      ∙ sym (ap (λ ls. clones_at o (list_of c ls)) (lists-without n.0 net.things) ∙ ap (clones_at o) (found_others n.0 c (lists net.things)) ∙ elim (n.0 == c) as (λ b. clones_at o (cond b None (list_of c (lists net.things))) ≡ cond b false (clones_at o (list_of c (lists net.things)))) [ true ↦ refl | false ↦ refl ]);
  crossed = λ k. crossed_left n.0 k w.crossed ∙ ap (cond (n.0 == k) false) (t.crossed k)
      ∙ sym (ap (λ ls. crossed_at (list_of k ls)) (lists-without n.0 net.things) ∙ ap crossed_at (found_others n.0 k (lists net.things)) ∙ elim (n.0 == k) as (λ b. crossed_at (cond b None (list_of k (lists net.things))) ≡ cond b false (crossed_at (list_of k (lists net.things)))) [ true ↦ refl | false ↦ refl ]);
}

-- a list is issued, a clone or not
abbrev pub with_clone : Origin → ListNo → WaitView → WaitView
with_clone (origin.Clone o) n w = record w { clones = w.clones ++ (n.0, o.0) ∷ [] }
with_clone origin.Root n w = w
with_clone (origin.Copy o) n w = w

-- a list that is there or that is new
both_clones : (o : ℕ) (f g : Option LiveList) → ((x : LiveList) → f ≡ Some x → g ≡ None) → clones_at o (or_this f g) ≡ (clones_at o f || clones_at o g)
both_clones o None g apart = refl
both_clones o (Some x) g apart = sym (ap (λ h. is_clone_of o x.origin || clones_at o h) (apart x refl) ∙ or_none (is_clone_of o x.origin))
  where
    or_none : (b : Bool) → (b || false) ≡ b
    or_none true = refl
    or_none false = refl

both_crossed : (f : Option LiveList) (b : Bool) (l : LiveList) → l.crossed ≡ None → crossed_at (or_this f (cond b (Some l) None)) ≡ crossed_at f
both_crossed None true l e = ap is_crossed e
both_crossed None false l e = refl
both_crossed (Some x) b l e = refl

-- the number of a new list is no other's
apart_of : (ls : List LiveList) (l : LiveList) (c : ℕ) (b : Bool) → (l.list.0 == c) ≡ b → is_live l.list.0 ls ≡ false → (x : LiveList) → list_of c ls ≡ Some x → cond b (Some l) None ≡ None
apart_of ls l c false e free x found = refl
apart_of ls l c true e free x found =
    absurd (clash (is_live c ls) (ap (λ k. is_live k ls) (sym (eqb-true l.list.0 c e)) ∙ free) (find_is c ls x found).1)
  where
    clash : (b : Bool) → b ≡ false → b ≡ true → ⊥
    clash true f g = cc
    clash false f g = cc

-- the tables with a new list
pushed_clones : (from : Origin) (n : ListNo) (w : WaitView) (c o : ℕ) → list_any (is_pair c o) (with_clone from n w).clones ≡ (list_any (is_pair c o) w.clones || ((n.0 == c) && is_clone_of o from))
pushed_clones origin.Root n w c o = sym (off (list_any (is_pair c o) w.clones) (n.0 == c))
  where
    off : (a b : Bool) → (a || (b && false)) ≡ a
    off true b = refl
    off false true = refl
    off false false = refl
pushed_clones (origin.Copy k) n w c o = sym (off (list_any (is_pair c o) w.clones) (n.0 == c))
  where
    off : (a b : Bool) → (a || (b && false)) ≡ a
    off true b = refl
    off false true = refl
    off false false = refl
pushed_clones (origin.Clone k) n w c o = any_push (is_pair c o) w.clones (n.0, k.0)

new_clones : (o : ℕ) (b : Bool) (l : LiveList) → clones_at o (cond b (Some l) None) ≡ (b && is_clone_of o l.origin)
new_clones o true l = refl
new_clones o false l = refl

same_crossed : (from : Origin) (n : ListNo) (w : WaitView) → (with_clone from n w).crossed ≡ w.crossed
same_crossed origin.Root n w = refl
same_crossed (origin.Clone o) n w = refl
same_crossed (origin.Copy o) n w = refl

pub tells_issued : (net : Net) (n : ListNo) (owner : ModuleId) (config : ConfigNo) (direction : Direction) (cancel : Option ℕ) (from : Origin) (frames : List (List ℕ)) (w : WaitView) → Tells net w → is_live n.0 (lists net.things) ≡ false
    → Tells (after net (row.Issue n owner config direction cancel from frames)) (with_clone from n w)
tells_issued net n owner config direction cancel from frames w t free =
    let ls : List LiveList = lists net.things in
    let l : LiveList = record { list = n; owner = owner; direction = direction; cancel = cancel; origin = from; frames = frames; last = owner; stand = stand.Unplaced; crossed = None } in
    let all : lists (net.things ++ thing.List l ∷ []) ≡ ls ++ l ∷ [] = lists-append net.things (thing.List l ∷ []) in
    record {
      clones = λ c o.
          pushed_clones from n w c o
          ∙ ap (λ b. b || ((n.0 == c) && is_clone_of o from)) (t.clones c o)
          ∙ sym (ap (λ ks. clones_at o (list_of c ks)) all
          ∙ ap (clones_at o) (found_last c ls l)
          ∙ both_clones o (list_of c ls) (if_of c l) (apart_of ls l c (n.0 == c) refl free)
          ∙ ap (λ b. clones_at o (list_of c ls) || b) (new_clones o (n.0 == c) l));
      crossed = λ k.
          ap (list_any (λ m. m == k)) (same_crossed from n w)
          ∙ t.crossed k
          ∙ sym (ap (λ ks. crossed_at (list_of k ks)) all ∙ ap crossed_at (found_last k ls l) ∙ both_crossed (list_of k ls) (n.0 == k) l refl);
    }

-- So they tell which lists wait.

-- a clone that the table has is live
clone_there : (es : List (ℕ × ℕ)) (n : ℕ) → list_any (has_original n) es ≡ true → (c : ℕ) × (list_any (is_pair c n) es ≡ true)
clone_there [] n e = cc
clone_there (x ∷ es) n e = by_case (x.1 == n) refl e (clone_there es n)
  where
    by_case : (b : Bool) → (x.1 == n) ≡ b → (b || list_any (has_original n) es) ≡ true → (list_any (has_original n) es ≡ true → (c : ℕ) × (list_any (is_pair c n) es ≡ true)) → (c : ℕ) × (list_any (is_pair c n) (x ∷ es) ≡ true)
    by_case true f e more = (x.0, ap (λ b. (b && (x.1 == n)) || list_any (is_pair x.0 n) es) (eq-eqb x.0 x.0 refl) ∙ ap (λ b. b || list_any (is_pair x.0 n) es) f)
    by_case false f e more =
        let there = more e in
        (there.0, ap (λ b. is_pair there.0 n x || b) there.1 ∙ any_true (is_pair there.0 n x))
      where
        any_true : (b : Bool) → (b || true) ≡ true
        any_true true = refl
        any_true false = refl

pair_original : (es : List (ℕ × ℕ)) (c n : ℕ) → list_any (is_pair c n) es ≡ true → list_any (has_original n) es ≡ true
pair_original [] c n e = cc
pair_original (x ∷ es) c n e = by_case (x.0 == c) (x.1 == n) e (pair_original es c n)
  where
    by_case : (a b : Bool) → ((a && b) || list_any (is_pair c n) es) ≡ true → (list_any (is_pair c n) es ≡ true → list_any (has_original n) es ≡ true) → (b || list_any (has_original n) es) ≡ true
    by_case a true e more = refl
    by_case true false e more = more e
    by_case false false e more = more e

-- a live clone is found by its number, and the other way round
live_clone : (ls : List LiveList) (n : ℕ) → list_any (λ l. is_clone_of n l.origin) ls ≡ true → IsApart ls → (c : ℕ) × (clones_at n (list_of c ls) ≡ true)
live_clone [] n e apart = cc
live_clone (x ∷ ls) n e apart = by_case (is_clone_of n x.origin) refl e (λ f. live_clone ls n f apart.1)
  where
    found_first : (x : LiveList) (ls : List LiveList) → list_of x.list.0 (x ∷ ls) ≡ Some x
    found_first x ls = ap (λ b. cond b (Some x) (list_of x.list.0 ls)) (eq-eqb x.list.0 x.list.0 refl)

    passes_by : (c : ℕ) (b : Bool) → (x.list.0 == c) ≡ b → clones_at n (list_of c ls) ≡ true → clones_at n (cond b (Some x) (list_of c ls)) ≡ true
    passes_by c false f e = e
    passes_by c true f e = absurd (gone (list_of c ls) refl e)
      where
        gone : (o : Option LiveList) → list_of c ls ≡ o → clones_at n o ≡ true → ⊥
        gone None g h = cc
        gone (Some y) g h = clash (is_live c ls) (ap (λ k. is_live k ls) (sym (eqb-true x.list.0 c f)) ∙ apart.0) (find_is c ls y g).1
          where
            clash : (b : Bool) → b ≡ false → b ≡ true → ⊥
            clash true f g = cc
            clash false f g = cc

    by_case : (b : Bool) → is_clone_of n x.origin ≡ b → (b || list_any (λ l. is_clone_of n l.origin) ls) ≡ true → (list_any (λ l. is_clone_of n l.origin) ls ≡ true → (c : ℕ) × (clones_at n (list_of c ls) ≡ true)) → (c : ℕ) × (clones_at n (list_of c (x ∷ ls)) ≡ true)
    by_case true f e more = (x.list.0, ap (clones_at n) (found_first x ls) ∙ f)
    by_case false f e more =
        let there = more e in
        (there.0, passes_by there.0 (x.list.0 == there.0) refl there.1)

found_clone : (ls : List LiveList) (c n : ℕ) → clones_at n (list_of c ls) ≡ true → list_any (λ l. is_clone_of n l.origin) ls ≡ true
found_clone [] c n e = cc
found_clone (x ∷ ls) c n e = by_case (x.list.0 == c) (is_clone_of n x.origin) refl e (found_clone ls c n)
  where
    by_case : (a b : Bool) → is_clone_of n x.origin ≡ b → clones_at n (cond a (Some x) (list_of c ls)) ≡ true → (clones_at n (list_of c ls) ≡ true → list_any (λ l. is_clone_of n l.origin) ls ≡ true) → (b || list_any (λ l. is_clone_of n l.origin) ls) ≡ true
    by_case a true f e more = refl
    by_case true false f e more = absurd (clash (is_clone_of n x.origin) f e)
      where
        clash : (b : Bool) → b ≡ false → b ≡ true → ⊥
        clash true f g = cc
        clash false f g = cc
    by_case false false f e more = more e

same_truth : (a b : Bool) → (a ≡ true → b ≡ true) → (b ≡ true → a ≡ true) → a ≡ b
same_truth true b f g = sym (f refl)
same_truth false true f g = g refl
same_truth false false f g = refl

pub tells_waits : (net : Net) (w : WaitView) → Tells net w → IsApart (lists net.things) → (n : ℕ) → waits_in w n ≡ waits_at net n
tells_waits net w t apart n =
    let clone : list_any (has_original n) w.clones ≡ has_clone net n =
    same_truth (list_any (has_original n) w.clones) (has_clone net n)
    (λ e. let there = clone_there w.clones n e in found_clone (lists net.things) there.0 n (sym (t.clones there.0 n) ∙ there.1))
    (λ e. let live = live_clone (lists net.things) n e apart in pair_original w.clones live.0 n (t.clones live.0 n ∙ live.1)) in
    ap (λ b. b || list_any (has_original n) w.clones) (t.crossed n) ∙ ap (λ b. crossed_at (list_of n (lists net.things)) || b) clone
