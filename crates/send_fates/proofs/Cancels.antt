-- A cancel: each send that is turned back is settled once, since it is kept by one module.
use Rattle.std.proofs.Common.{◌≡◌, ℕ, ◌<◌, ◌≤◌, ◌==◌, ◌&&◌, ◌||◌, ◌⊎◌, inl, inr, Bool, true, false, cond, List, [], ◌∷◌, ◌++◌, Some, map, filter, flat_map, refl, arith, ap, sym, subst, ◌∙◌}
use Rattle.std.proofs.lemmas.Bool.Decides.{nat_tests}
use Rattle.ndis_base.specs.declared.ListStatus.{ListStatus}
use Rattle.ndis_base.specs.declared.ListStatus.TheVariants.{Aborted}
use Rattle.ndis_base.specs.declared.ModuleId.{ModuleId}
use Rattle.ndis_base.specs.declared.ModuleId.TheVariants.{Miniport, Filter}
use Rattle.ndis_base.specs.declared.ListNo.{ListNo}
use Rattle.ndis_base.specs.declared.Direction.{Direction}
use Rattle.ndis_base.specs.declared.Direction.TheVariants as direction
use Rattle.journal_types.specs.declared.Row.{Row}
use Rattle.journal_types.specs.declared.Row.TheVariants as row
use Rattle.journal_types.specs.declared.Turn.{Turn}
use Rattle.stack_rules.specs.declared.LiveList.{LiveList}
use Rattle.stack_rules.specs.declared.Stand.TheVariants as stand
use Rattle.stack_rules.specs.Tests.{is_down}
use Rattle.stack_rules.specs.Net.{Net, Modules, after_rows, lists}
use Rattle.stack_rules.specs.Places.{position, has_clone, ready_lists, kept_lists}
use Rattle.stack_rules.specs.Rewires.{is_in}
use Rattle.stack_rules.specs.Targets.{homeward, homeward_by}
use Rattle.stack_rules.specs.Cancels.{is_named, cancelled_at, aborted, cancel_rows_at, queues, is_hold_filter, cancel_outcome}
use Rattle.rule_basics.specs.Live.{Each, IsApart, is_live}
use Rattle.state_laws.specs.Shape.{IsDistinct}
use Rattle.pause_laws.proofs.Works.{each_filter}
use Rattle.place_laws.proofs.Good.{by_number, one_found}
use Rattle.place_laws.proofs.Looks.{look}
use Rattle.place_laws.proofs.Keepers.{IsReady, ready_all}
use Rattle.promise_rules.specs.Rows.{is_home, status_in}
use Rattle.promise_rules.specs.Families.{root_of}
use Rattle.completion_laws.proofs.Tells.{NonePass, none_find}
use Rattle.family_laws.proofs.Rows.{sends_in, IsCloned}
use Rattle.clone_laws.proofs.Dull.{is_dull, AreDull, dull_cancel}
use Rattle.tip_laws.proofs.Kin.{root_low, one_tip}
use Rattle.send_fates.proofs.Grows.{grows_rows}
use Rattle.send_fates.proofs.Tally.{settled_by, settled_rows, settled-append}
use Rattle.send_fates.proofs.Rows.{is_placed, placed-append, placed-later, Send, Open, Settled, Claim, AllOwe, owe-append}
use Rattle.send_fates.proofs.Starts.{Start, Goes, nil_end, no_status, same_number, differ, clash, calm_homeward, calm_owes, homeward_places, bare_of, home_apart}

dull_none : (q : ℕ) (rows : List Row) → AreDull rows → NonePass (is_home q) rows
dull_none q [] h = tt
dull_none q (r ∷ rows) h = (one r h.0, dull_none q rows h.1)
  where
    one : (r : Row) → is_dull r ≡ true → is_home q r ≡ false
    one (row.Home list owner status) h = cc
    one _ h = refl

-- lists of lists
or_none : (a b : Bool) → (a || b) ≡ false → (a ≡ false) × (b ≡ false)
or_none true b h = cc
or_none false b h = (refl, h)

none_less : (test : LiveList → Bool) (n : ℕ) (ls : List LiveList) → is_live n ls ≡ false → is_live n (filter test ls) ≡ false
none_less test n [] h = refl
none_less test n (y ∷ ls) h = let parts = or_none (y.list.0 == n) (is_live n ls) h in by (test y) parts.0 (none_less test n ls parts.1)
  where
    by : (c : Bool) → (y.list.0 == n) ≡ false → is_live n (filter test ls) ≡ false → is_live n (cond c (y ∷ filter test ls) (filter test ls)) ≡ false
    by true a b = ap (λ c. c || is_live n (filter test ls)) a ∙ b
    by false a b = b

apart_less : (test : LiveList → Bool) (ls : List LiveList) → IsApart ls → IsApart (filter test ls)
apart_less test [] h = tt
apart_less test (x ∷ ls) h = by (test x) (apart_less test ls h.1)
  where
    by : (c : Bool) → IsApart (filter test ls) → IsApart (cond c (x ∷ filter test ls) (filter test ls))
    by true rest = (none_less test x.list.0 ls h.0, rest)
    by false rest = rest

each_in : (all ls : List LiveList) → ((n : ℕ) → is_live n ls ≡ true → is_live n all ≡ true) → Each (λ l. is_live l.list.0 all ≡ true) ls
each_in all [] h = tt
each_in all (x ∷ ls) h = (h x.list.0 (ap (λ b. b || is_live x.list.0 ls) (same_number x.list.0)), each_in all ls (λ n e. h n (more (x.list.0 == n) (is_live n ls) e)))
  where
    more : (a b : Bool) → b ≡ true → (a || b) ≡ true
    more true b h = refl
    more false b h = h

each_both : (P Q : LiveList → Type 0) (ls : List LiveList) → Each P ls → Each Q ls → Each (λ l. P l × Q l) ls
each_both P Q [] h g = tt
each_both P Q (x ∷ ls) h g = ((h.0, g.0), each_both P Q ls h.1 g.1)

module _ (whole : List Turn) (done : List Row) (v : ℕ → List ListStatus) (net : Net) (k : Start whole done v net) (id : ℕ) where
  abbrev R : ℕ → ℕ
  R n = root_of whole n

  -- a send that is turned back
  record IsHit (m : ModuleId) (l : LiveList) : Type 0 where
    ready : IsReady net m l
    down : is_down l.direction ≡ true

  hits : (m : ModuleId) → Each (IsHit m) (cancelled_at net id m)
  hits m = each (cancelled_at net id m) (each_filter (IsReady net m) (is_named id) (ready_lists net m) (ready_all net m k.facts.apart))
    where
      and_first : (a b : Bool) → (a && b) ≡ true → a ≡ true
      and_first true b h = refl
      and_first false b h = cc

      each : (ls : List LiveList) → Each (λ l. IsReady net m l × (is_named id l ≡ true)) ls → Each (IsHit m) ls
      each [] h = tt
      each (l ∷ ls) h = (record { ready = h.0.0; down = and_first (is_down l.direction) _ h.0.1 }, each ls h.1)

  bare : (m : ModuleId) (l : LiveList) → IsHit m l → has_clone net l.list.0 ≡ false
  bare m l h = bare_of whole done v net k l.list.0 h.ready.free.free

  -- the rows of one list settle its family, and place it
  back_by : (q : ℕ) (ms : Modules) (list : ListNo) (owner : ModuleId) (d : Direction) (i : ℕ) (s : ListStatus) → settled_by whole q (homeward_by ms list owner d i s) ≡ []
  back_by q ms list owner direction.Down i s = refl
  back_by q ms list owner direction.Up i s = refl
  back_by q ms list owner direction.Lent i s = refl

  abbrev lists_rows : ModuleId → List LiveList → List Row
  lists_rows m ls = flat_map (aborted net m) ls

  one_more : (q : ℕ) (m : ModuleId) (x : LiveList) (ls : List LiveList) → settled_rows whole q (lists_rows m (x ∷ ls)) ≡ cond (R x.list.0 == q) (Aborted ∷ []) [] ++ settled_rows whole q (lists_rows m ls)
  one_more q m x ls = ap (λ y. cond (R x.list.0 == q) (Aborted ∷ []) [] ++ (y ++ settled_rows whole q (lists_rows m ls))) (back_by q net.modules x.list x.owner x.direction (position net.modules.order m) Aborted)

  -- families that no such send is of
  off_lists : (q : ℕ) → ((m : ModuleId) (l : LiveList) → IsHit m l → R l.list.0 ≡ q → ⊥) → (m : ModuleId) (ls : List LiveList) → Each (IsHit m) ls → settled_rows whole q (lists_rows m ls) ≡ []
  off_lists q off m [] h = refl
  off_lists q off m (x ∷ ls) h = one_more q m x ls ∙ ap (λ b. cond b (Aborted ∷ []) [] ++ settled_rows whole q (lists_rows m ls)) (differ (R x.list.0) q (off m x h.0)) ∙ off_lists q off m ls h.1

  abbrev rows_at : List ModuleId → List Row
  rows_at ms = flat_map (cancel_rows_at net id) ms

  off_all : (q : ℕ) → ((m : ModuleId) (l : LiveList) → IsHit m l → R l.list.0 ≡ q → ⊥) → (ms : List ModuleId) → settled_rows whole q (rows_at ms) ≡ []
  off_all q off [] = refl
  off_all q off (m ∷ ms) = settled-append whole q (cancel_rows_at net id m) (rows_at ms) ∙ ap (λ x. x ++ settled_rows whole q (rows_at ms)) (off_lists q off m (cancelled_at net id m) (hits m)) ∙ off_all q off ms

  -- a tip is turned back, or its family isn't settled
  tip_lists : (n : ℕ) (l : LiveList) → look net n ≡ Some l → has_clone net n ≡ false → (m : ModuleId) (ls : List LiveList) → Each (IsHit m) ls → (is_placed n (lists_rows m ls) ≡ true) ⊎ (settled_rows whole (R n) (lists_rows m ls) ≡ [])
  tip_lists n l f b m [] h = inr refl
  tip_lists n l f b m (x ∷ ls) h =
      by_number x.list.0 n ((is_placed n (lists_rows m (x ∷ ls)) ≡ true) ⊎ (settled_rows whole (R n) (lists_rows m (x ∷ ls)) ≡ []))
      (λ t. by t (tip_lists n l f b m ls h.1))
      (λ e. inl (subst (λ i. is_placed i (lists_rows m (x ∷ ls)) ≡ true) e (homeward_places whole net.modules x.list x.owner x.direction (position net.modules.order m) Aborted (lists_rows m ls))))
    where
      other : (x.list.0 == n) ≡ false → R x.list.0 ≡ R n → ⊥
      other t e = apart x.list.0 n t (one_tip whole net k.kin x.list.0 n record { list = x; found = h.0.ready.free.found; bare = bare m x h.0 } record { list = l; found = f; bare = b } e)
        where
          apart : (i j : ℕ) → (i == j) ≡ false → i ≡ j → ⊥
          apart i j t e = grind (arith, nat_tests)

      by : (x.list.0 == n) ≡ false → (is_placed n (lists_rows m ls) ≡ true) ⊎ (settled_rows whole (R n) (lists_rows m ls) ≡ []) → (is_placed n (lists_rows m (x ∷ ls)) ≡ true) ⊎ (settled_rows whole (R n) (lists_rows m (x ∷ ls)) ≡ [])
      by t (inl p) = inl (placed-later n (aborted net m x) (lists_rows m ls) p)
      by t (inr e) = inr (one_more (R n) m x ls ∙ ap (λ b. cond b (Aborted ∷ []) [] ++ settled_rows whole (R n) (lists_rows m ls)) (differ (R x.list.0) (R n) (other t)) ∙ e)

  tip_all : (n : ℕ) (l : LiveList) → look net n ≡ Some l → has_clone net n ≡ false → (ms : List ModuleId) → (is_placed n (rows_at ms) ≡ true) ⊎ (settled_rows whole (R n) (rows_at ms) ≡ [])
  tip_all n l f b [] = inr refl
  tip_all n l f b (m ∷ ms) = by (tip_lists n l f b m (cancelled_at net id m) (hits m)) (tip_all n l f b ms)
    where
      by : (is_placed n (cancel_rows_at net id m) ≡ true) ⊎ (settled_rows whole (R n) (cancel_rows_at net id m) ≡ []) → (is_placed n (rows_at ms) ≡ true) ⊎ (settled_rows whole (R n) (rows_at ms) ≡ []) → (is_placed n (rows_at (m ∷ ms)) ≡ true) ⊎ (settled_rows whole (R n) (rows_at (m ∷ ms)) ≡ [])
      by (inl p) rest = inl (placed-append n (cancel_rows_at net id m) (rows_at ms) p)
      by (inr e) (inl p) = inl (placed-later n (cancel_rows_at net id m) (rows_at ms) p)
      by (inr e) (inr g) = inr (settled-append whole (R n) (cancel_rows_at net id m) (rows_at ms) ∙ ap (λ x. x ++ settled_rows whole (R n) (rows_at ms)) e ∙ g)

  -- a send that is turned back is settled once
  apart_at : (m : ModuleId) → IsApart (cancelled_at net id m)
  apart_at m = apart_less (is_named id) (ready_lists net m) (apart_less _ (kept_lists net m) (apart_less _ (lists net.things) k.facts.apart))

  module _ (m0 : ModuleId) (l0 : LiveList) (h0 : IsHit m0 l0) where
    one_lists : (m : ModuleId) (ls : List LiveList) → Each (IsHit m) ls → IsApart ls → settled_rows whole (R l0.list.0) (lists_rows m ls) ≡ cond (is_live l0.list.0 ls) (Aborted ∷ []) []
    one_lists m [] h a = refl
    one_lists m (x ∷ ls) h a =
        by_number x.list.0 l0.list.0 (settled_rows whole (R l0.list.0) (lists_rows m (x ∷ ls)) ≡ cond ((x.list.0 == l0.list.0) || is_live l0.list.0 ls) (Aborted ∷ []) [])
        (λ t. one_more (R l0.list.0) m x ls
        ∙ ap (λ b. cond b (Aborted ∷ []) [] ++ settled_rows whole (R l0.list.0) (lists_rows m ls)) (differ (R x.list.0) (R l0.list.0) (other t))
        ∙ one_lists m ls h.1 a.1
        ∙ ap (λ b. cond (b || is_live l0.list.0 ls) (Aborted ∷ []) []) (sym t))
        (λ e. one_more (R l0.list.0) m x ls
        ∙ ap (λ b. cond b (Aborted ∷ []) [] ++ settled_rows whole (R l0.list.0) (lists_rows m ls)) (ap (λ i. R i == R l0.list.0) e ∙ same_number (R l0.list.0))
        ∙ ap (λ y. Aborted ∷ y) (one_lists m ls h.1 a.1 ∙ ap (λ b. cond b (Aborted ∷ []) []) (ap (λ i. is_live i ls) (sym e) ∙ a.0))
        ∙ ap (λ b. cond (b || is_live l0.list.0 ls) (Aborted ∷ []) []) (sym (ap (λ i. i == l0.list.0) e ∙ same_number l0.list.0)))
      where
        other : (x.list.0 == l0.list.0) ≡ false → R x.list.0 ≡ R l0.list.0 → ⊥
        other t e = apart x.list.0 l0.list.0 t (one_tip whole net k.kin x.list.0 l0.list.0 record { list = x; found = h.0.ready.free.found; bare = bare m x h.0 } record { list = l0; found = h0.ready.free.found; bare = bare m0 l0 h0 } e)
          where
            apart : (i j : ℕ) → (i == j) ≡ false → i ≡ j → ⊥
            apart i j t e = grind (arith, nat_tests)

    stands_there : (m : ModuleId) (ls : List LiveList) → Each (IsHit m) ls → is_live l0.list.0 ls ≡ true → l0.stand ≡ stand.Kept m
    stands_there m [] h e = cc
    stands_there m (x ∷ ls) h e =
        let cases : (b : Bool) → (x.list.0 == l0.list.0) ≡ b → (b || is_live l0.list.0 ls) ≡ true → l0.stand ≡ stand.Kept m = elim [
          | true ↦ λ t e. let one : x ≡ l0 = one_found (look net l0.list.0) x l0 (ap (look net) (sym (equal x.list.0 l0.list.0 t)) ∙ h.0.ready.free.found) h0.ready.free.found in ap (λ (y : LiveList). y.stand) (sym one) ∙ h.0.ready.stand
          | false ↦ λ t e. stands_there m ls h.1 e
        ] in
        cases (x.list.0 == l0.list.0) refl e
      where
        equal : (n m : ℕ) → (n == m) ≡ true → n ≡ m
        equal n m t = grind (arith, nat_tests)

    elsewhere : (m : ModuleId) → (stand.Kept m0 ≡ stand.Kept m → ⊥) → settled_rows whole (R l0.list.0) (cancel_rows_at net id m) ≡ []
    elsewhere m other = one_lists m (cancelled_at net id m) (hits m) (apart_at m) ∙ by (is_live l0.list.0 (cancelled_at net id m)) refl
      where
        by : (b : Bool) → is_live l0.list.0 (cancelled_at net id m) ≡ b → cond b (Aborted ∷ []) [] ≡ []
        by true e = absurd (other (sym h0.ready.stand ∙ stands_there m (cancelled_at net id m) (hits m) e))
        by false e = refl

    there : is_live l0.list.0 (cancelled_at net id m0) ≡ true → settled_rows whole (R l0.list.0) (cancel_rows_at net id m0) ≡ Aborted ∷ []
    there e = one_lists m0 (cancelled_at net id m0) (hits m0) (apart_at m0) ∙ ap (λ b. cond b (Aborted ∷ []) []) e

    rows-split : (xs ys : List ModuleId) → settled_rows whole (R l0.list.0) (rows_at (xs ++ ys)) ≡ settled_rows whole (R l0.list.0) (rows_at xs) ++ settled_rows whole (R l0.list.0) (rows_at ys)
    rows-split [] ys = refl
    rows-split (x ∷ xs) ys =
        settled-append whole (R l0.list.0) (cancel_rows_at net id x) (rows_at (xs ++ ys))
        ∙ ap (λ y. settled_rows whole (R l0.list.0) (cancel_rows_at net id x) ++ y) (rows-split xs ys)
        ∙ sym (assoc (settled_rows whole (R l0.list.0) (cancel_rows_at net id x)) (settled_rows whole (R l0.list.0) (rows_at xs)) (settled_rows whole (R l0.list.0) (rows_at ys)))
        ∙ ap (λ y. y ++ settled_rows whole (R l0.list.0) (rows_at ys)) (sym (settled-append whole (R l0.list.0) (cancel_rows_at net id x) (rows_at xs)))
      where
        assoc : (a b c : List ListStatus) → (a ++ b) ++ c ≡ a ++ (b ++ c)
        assoc [] b c = refl
        assoc (i ∷ a) b c = ap (λ rest. i ∷ rest) (assoc a b c)

    abbrev held : List ℕ → List ModuleId
    held fs = map Filter (filter (is_hold_filter net.modules) fs)

    none_filters : (fs : List ℕ) → ((f : ℕ) → is_in f fs ≡ true → stand.Kept m0 ≡ stand.Kept (Filter f) → ⊥) → settled_rows whole (R l0.list.0) (rows_at (held fs)) ≡ []
    none_filters [] other = refl
    none_filters (f ∷ fs) other = by (is_hold_filter net.modules f) (none_filters fs (λ g i. other g (more (f == g) (is_in g fs) i)))
      where
        more : (a b : Bool) → b ≡ true → (a || b) ≡ true
        more true b h = refl
        more false b h = h

        by : (b : Bool) → settled_rows whole (R l0.list.0) (rows_at (held fs)) ≡ [] → settled_rows whole (R l0.list.0) (rows_at (map Filter (cond b (f ∷ filter (is_hold_filter net.modules) fs) (filter (is_hold_filter net.modules) fs)))) ≡ []
        by true rest = settled-append whole (R l0.list.0) (cancel_rows_at net id (Filter f)) (rows_at (held fs)) ∙ ap (λ y. y ++ settled_rows whole (R l0.list.0) (rows_at (held fs))) (elsewhere (Filter f) (other f (ap (λ b. b || is_in f fs) (same_number f)))) ∙ rest
        by false rest = rest

    one_filter : (f0 : ℕ) → m0 ≡ Filter f0 → is_live l0.list.0 (cancelled_at net id m0) ≡ true → is_hold_filter net.modules f0 ≡ true → (fs : List ℕ) → IsDistinct fs → is_in f0 fs ≡ true → settled_rows whole (R l0.list.0) (rows_at (held fs)) ≡ Aborted ∷ []
    one_filter f0 here live holds [] d i = cc
    one_filter f0 here live holds (f ∷ fs) d i =
        let cases : (b : Bool) → (f == f0) ≡ b → (b || is_in f0 fs) ≡ true → settled_rows whole (R l0.list.0) (rows_at (map Filter (cond (is_hold_filter net.modules f) (f ∷ filter (is_hold_filter net.modules) fs) (filter (is_hold_filter net.modules) fs)))) ≡ Aborted ∷ [] = elim [
          | true ↦ λ t i. at_first (equal f f0 t)
          | false ↦ λ t i. further (is_hold_filter net.modules f) t (one_filter f0 here live holds fs d.1 i)
        ] in
        cases (f == f0) refl i
      where
        equal : (n m : ℕ) → (n == m) ≡ true → n ≡ m
        equal n m t = grind (arith, nat_tests)

        number : (a b : ℕ) → stand.Kept (Filter a) ≡ stand.Kept (Filter b) → a ≡ b
        number a b e = cc

        apart : (i j : ℕ) → (i == j) ≡ false → j ≡ i → ⊥
        apart i j t e = grind (arith, nat_tests)

        at_first : f ≡ f0 → settled_rows whole (R l0.list.0) (rows_at (map Filter (cond (is_hold_filter net.modules f) (f ∷ filter (is_hold_filter net.modules) fs) (filter (is_hold_filter net.modules) fs)))) ≡ Aborted ∷ []
        at_first e =
            ap (λ b. settled_rows whole (R l0.list.0) (rows_at (map Filter (cond b (f ∷ filter (is_hold_filter net.modules) fs) (filter (is_hold_filter net.modules) fs))))) (ap (is_hold_filter net.modules) e ∙ holds)
            ∙ settled-append whole (R l0.list.0) (cancel_rows_at net id (Filter f)) (rows_at (held fs))
            ∙ ap (λ y. y ++ settled_rows whole (R l0.list.0) (rows_at (held fs))) (ap (λ m. settled_rows whole (R l0.list.0) (cancel_rows_at net id m)) (ap (λ i. Filter i) e ∙ sym here) ∙ there live)
            ∙ ap (λ y. Aborted ∷ y) (none_filters fs (λ g i s. clash (is_in f fs) (ap (λ j. is_in j fs) (e ∙ number f0 g (sym (ap (λ m. stand.Kept m) here) ∙ s)) ∙ i) d.0))

        further : (b : Bool) → (f == f0) ≡ false → settled_rows whole (R l0.list.0) (rows_at (held fs)) ≡ Aborted ∷ [] → settled_rows whole (R l0.list.0) (rows_at (map Filter (cond b (f ∷ filter (is_hold_filter net.modules) fs) (filter (is_hold_filter net.modules) fs)))) ≡ Aborted ∷ []
        further true t rest =
            settled-append whole (R l0.list.0) (cancel_rows_at net id (Filter f)) (rows_at (held fs))
            ∙ ap (λ y. y ++ settled_rows whole (R l0.list.0) (rows_at (held fs))) (elsewhere (Filter f) (λ s. apart f f0 t (number f0 f (sym (ap (λ m. stand.Kept m) here) ∙ s))))
            ∙ rest
        further false t rest = rest

    at_filter_once : (f0 : ℕ) → m0 ≡ Filter f0 → is_live l0.list.0 (cancelled_at net id m0) ≡ true → is_hold_filter net.modules f0 ≡ true → is_in f0 net.modules.order ≡ true → settled_rows whole (R l0.list.0) (rows_at (queues net.modules)) ≡ Aborted ∷ []
    at_filter_once f0 here live holds i =
        rows-split (held net.modules.order) (Miniport ∷ [])
        ∙ ap (λ y. y ++ settled_rows whole (R l0.list.0) (rows_at (Miniport ∷ []))) (one_filter f0 here live holds net.modules.order k.facts.distinct i)
        ∙ ap (λ y. Aborted ∷ y) (settled-append whole (R l0.list.0) (cancel_rows_at net id Miniport) [] ∙ ap (λ y. y ++ []) (elsewhere Miniport (λ s. not_both f0 (sym (ap (λ m. stand.Kept m) here) ∙ s))))
      where
        not_both : (f : ℕ) → stand.Kept (Filter f) ≡ stand.Kept Miniport → ⊥
        not_both f e = cc

    at_miniport_once : m0 ≡ Miniport → is_live l0.list.0 (cancelled_at net id m0) ≡ true → settled_rows whole (R l0.list.0) (rows_at (queues net.modules)) ≡ Aborted ∷ []
    at_miniport_once here live =
        rows-split (held net.modules.order) (Miniport ∷ [])
        ∙ ap (λ y. y ++ settled_rows whole (R l0.list.0) (rows_at (Miniport ∷ []))) (none_filters net.modules.order (λ f i s. not_both f (sym (ap (λ m. stand.Kept m) here) ∙ s)))
        ∙ settled-append whole (R l0.list.0) (cancel_rows_at net id Miniport) []
        ∙ ap (λ y. y ++ []) (ap (λ m. settled_rows whole (R l0.list.0) (cancel_rows_at net id m)) (sym here) ∙ there live)
      where
        not_both : (f : ℕ) → stand.Kept Miniport ≡ stand.Kept (Filter f) → ⊥
        not_both f e = cc

  abbrev now : ℕ → List ListStatus
  now q = v q ++ settled_rows whole q (rows_at (queues net.modules))

  -- what the rows owe
  owes_lists : (m : ModuleId) (ls : List LiveList) → Each (λ l. IsHit m l × (is_live l.list.0 (cancelled_at net id m) ≡ true)) ls → ((l : LiveList) → IsHit m l → is_live l.list.0 (cancelled_at net id m) ≡ true → Settled whole now l.list.0 Aborted) → AllOwe whole now (lists_rows m ls)
  owes_lists m [] h settle = tt
  owes_lists m (x ∷ ls) h settle =
      owe-append whole now (aborted net m x) (lists_rows m ls)
      (tt, calm_owes whole now (homeward net.modules x (position net.modules.order m) Aborted ∷ []) (calm_homeward whole now net.modules x.list x.owner x.direction (position net.modules.order m) Aborted (λ _. settle x h.0.0 h.0.1), tt))
      (owes_lists m ls h.1 settle)

  owes_at : (m : ModuleId) → ((l : LiveList) → IsHit m l → is_live l.list.0 (cancelled_at net id m) ≡ true → Settled whole now l.list.0 Aborted) → AllOwe whole now (cancel_rows_at net id m)
  owes_at m settle = owes_lists m (cancelled_at net id m) (each_both (IsHit m) (λ l. is_live l.list.0 (cancelled_at net id m) ≡ true) (cancelled_at net id m) (hits m) (each_in (cancelled_at net id m) (cancelled_at net id m) (λ n e. e))) settle

  claim_of : (m : ModuleId) (l : LiveList) → IsHit m l → Claim whole v (look net) l.list.0 (stand.Kept m)
  claim_of m l h = subst (Claim whole v (look net) l.list.0) h.ready.stand (k.claims l.list.0 l h.ready.free.found)

  settled_now : (l : LiveList) → Open whole v l.list.0 → settled_rows whole (R l.list.0) (rows_at (queues net.modules)) ≡ Aborted ∷ [] → Settled whole now l.list.0 Aborted
  settled_now l o e = ap (λ x. x ++ settled_rows whole (R l.list.0) (rows_at (queues net.modules))) o ∙ e

  opened : (f : ℕ) (l : LiveList) → IsHit (Filter f) l → Open whole v l.list.0
  opened f l h = by (claim_of (Filter f) l h)
    where
      by : (Send whole l.list.0 → Open whole v l.list.0) ⊎ IsCloned (look net) l.list.0 → Open whole v l.list.0
      by (inl c) = c (ap sends_in (k.told l.list.0 l h.ready.free.found).is ∙ h.down)
      by (inr c) = absurd (h.ready.free.free c.number c.clone c.found c.from)

  owes_filters : (fs : List ℕ) → ((f : ℕ) → is_in f fs ≡ true → is_in f net.modules.order ≡ true) → AllOwe whole now (rows_at (map Filter (filter (is_hold_filter net.modules) fs)))
  owes_filters [] i = tt
  owes_filters (f ∷ fs) i = by (is_hold_filter net.modules f) refl (owes_filters fs (λ g j. i g (more (f == g) (is_in g fs) j)))
    where
      more : (a b : Bool) → b ≡ true → (a || b) ≡ true
      more true b h = refl
      more false b h = h

      by : (b : Bool) → is_hold_filter net.modules f ≡ b → AllOwe whole now (rows_at (map Filter (filter (is_hold_filter net.modules) fs))) → AllOwe whole now (rows_at (map Filter (cond b (f ∷ filter (is_hold_filter net.modules) fs) (filter (is_hold_filter net.modules) fs))))
      by true e rest =
          owe-append whole now (cancel_rows_at net id (Filter f)) (rows_at (map Filter (filter (is_hold_filter net.modules) fs)))
          (owes_at (Filter f) (λ l h live. settled_now l (opened f l h) (at_filter_once (Filter f) l h f refl live e (i f (ap (λ b. b || is_in f fs) (same_number f))))))
          rest
      by false e rest = rest

  rows_more : (xs ys : List ModuleId) → AllOwe whole now (rows_at xs) → AllOwe whole now (rows_at ys) → AllOwe whole now (rows_at (xs ++ ys))
  rows_more xs ys h g = subst (AllOwe whole now) (sym (flat xs ys)) (owe-append whole now (rows_at xs) (rows_at ys) h g)
    where
      assoc : (a b c : List Row) → (a ++ b) ++ c ≡ a ++ (b ++ c)
      assoc [] b c = refl
      assoc (i ∷ a) b c = ap (λ rest. i ∷ rest) (assoc a b c)

      flat : (xs ys : List ModuleId) → rows_at (xs ++ ys) ≡ rows_at xs ++ rows_at ys
      flat [] ys = refl
      flat (x ∷ xs) ys = ap (λ rest. cancel_rows_at net id x ++ rest) (flat xs ys) ∙ sym (assoc (cancel_rows_at net id x) (rows_at xs) (rows_at ys))

  owes_all : AllOwe whole now (rows_at (queues net.modules))
  owes_all =
      rows_more (map Filter (filter (is_hold_filter net.modules) net.modules.order)) (Miniport ∷ []) (owes_filters net.modules.order (λ f i. i))
      (owe-append whole now (cancel_rows_at net id Miniport) [] (owes_at Miniport (λ l h live. settled_now l (claim_of Miniport l h) (at_miniport_once Miniport l h refl live))) tt)

  pub cancel_goes : Goes whole done v net (λ r. settled_rows whole r (cancel_outcome net id).rows) (cancel_outcome net id).rows
  cancel_goes = record {
    now = now;
    adds = λ r. refl;
    tips = λ n l f b. by n (tip_all n l f b (queues net.modules));
    owes = owes_all;
    old = λ r s send e. still r (λ m l h same. home_apart whole done v net k l.list.0 l r s h.ready.free.found send e same);
    later = λ r high. still r (λ m l h same. too_high r high l h.ready.free.found same);
    homes = λ r s send own e. absurd (no_status s (sym (ap status_in (none_find (is_home r) (rows_at (queues net.modules)) (dull_none r (rows_at (queues net.modules)) (dull_cancel net id)))) ∙ e));
  }
    where
      still : (r : ℕ) → ((m : ModuleId) (l : LiveList) → IsHit m l → R l.list.0 ≡ r → ⊥) → now r ≡ v r
      still r off = ap (λ x. v r ++ x) (off_all r off (queues net.modules)) ∙ nil_end (v r)

      by : (n : ℕ) → (is_placed n (rows_at (queues net.modules)) ≡ true) ⊎ (settled_rows whole (R n) (rows_at (queues net.modules)) ≡ []) → (is_placed n (rows_at (queues net.modules)) ≡ true) ⊎ (now (R n) ≡ v (R n))
      by n (inl p) = inl p
      by n (inr e) = inr (ap (λ x. v (R n) ++ x) e ∙ nil_end (v (R n)))

      too_high : (r : ℕ) → (after_rows net (rows_at (queues net.modules))).next.list ≤ r → (l : LiveList) → look net l.list.0 ≡ Some l → R l.list.0 ≡ r → ⊥
      too_high r high l f same =
          let low : R l.list.0 ≤ l.list.0 = root_low whole net k.kin l.list.0 l f in
          let below : l.list.0 < net.next.list = k.facts.good.good.below l.list.0 l f in
          let grows : net.next.list ≤ (after_rows net (rows_at (queues net.modules))).next.list = grows_rows net (rows_at (queues net.modules)) in
          omega (arith, low, below, grows, high, same)
