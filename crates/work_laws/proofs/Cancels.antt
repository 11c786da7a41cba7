-- A cancel adds nothing to the work, where everything stands in its place.
use Rattle.std.proofs.Common.{◌≡◌, ℕ, ◌+◌, ◌≤◌, ◌==◌, ◌&&◌, ◌||◌, Bool, true, false, cond, List, [], ◌∷◌, ◌++◌, Some, refl, arith, ap, sym, subst, ◌∙◌, filter, map}
use Rattle.std.specs.List.{flat_map}
use Rattle.std.proofs.lemmas.Bool.Decides.{nat_tests}
use Rattle.ndis_base.specs.declared.ListStatus.{ListStatus}
use Rattle.ndis_base.specs.declared.ListStatus.TheVariants.{Aborted}
use Rattle.ndis_base.specs.declared.ModuleId.{ModuleId}
use Rattle.ndis_base.specs.declared.ModuleId.TheVariants.{Miniport, Filter}
use Rattle.journal_types.specs.declared.PassWay.{PassWay}
use Rattle.journal_types.specs.declared.PassWay.TheVariants as way
use Rattle.journal_types.specs.declared.Target.{Target}
use Rattle.journal_types.specs.declared.Row.{Row}
use Rattle.journal_types.specs.declared.Row.TheVariants as row
use Rattle.stack_rules.specs.declared.LiveList.{LiveList}
use Rattle.stack_rules.specs.declared.Stand.TheVariants as stand
use Rattle.stack_rules.specs.declared.Thing.{Thing}
use Rattle.stack_rules.specs.declared.Thing.TheVariants as thing
use Rattle.stack_rules.specs.Tests.{is_down, same_number}
use Rattle.stack_rules.specs.Net.{Net, after, after_rows, lists, list_of, after_change, had_by, after_pass}
use Rattle.stack_rules.specs.Places.{position, has_clone, ready_lists}
use Rattle.stack_rules.specs.Targets.{next_done}
use Rattle.stack_rules.specs.Rewires.{is_in}
use Rattle.stack_rules.specs.Cancels.{is_hold_filter, is_named, cancelled_at, aborted, cancel_rows_at, queues, cancel_outcome}
use Rattle.stack_rules.specs.Work.{kept_work, list_work}
use Rattle.rule_basics.specs.Live.{IsApart, Each}
use Rattle.rule_basics.specs.Numbers.{IsNumbered}
use Rattle.rule_basics.proofs.Numbered.{numbered_after}
use Rattle.state_laws.specs.Shape.{IsDistinct}
use Rattle.place_laws.specs.Kept.{IsInPlace}
use Rattle.work_laws.proofs.Weights.{Stay, weight, load, work_least, work_after, load_moved, load_back, passed_work}
use Rattle.work_laws.proofs.Clones.{clones_after}
use Rattle.work_laws.proofs.Ways.{target_most}
use Rattle.work_laws.proofs.Adds.{OutcomeAdds}
use Rattle.work_laws.proofs.Hands.{found_back, found_back_other, found_pass}
use Rattle.work_laws.proofs.Lowers.{full_weight}
use Rattle.work_laws.proofs.Filters.{homeward_done}
use Rattle.work_laws.proofs.Drains.{with_things, other_numbers, Each-both, Each-map, apart_less, passing, IsReady, all_ready, ready_apart}

-- rows that turn lists back, by which the work grows by nothing
record Turned (net : Net) (ts : List Thing) (rows : List Row) : Type 0 where
  stays : Stay (has_clone (with_things net ts)) (has_clone (after_rows (with_things net ts) rows))
  most : load (after_rows (with_things net ts) rows) (has_clone net) ≤ load (with_things net ts) (has_clone net)

-- the things after a list was turned back
abbrev back_to : LiveList → ModuleId → PassWay → Target → List Thing → List Thing
back_to l m way to ts = after_pass l.list.0 way to (after_change l.list.0 (had_by m) ts)

turned : (net : Net) (ts : List Thing) (m : ModuleId) (l : LiveList) (status : ListStatus) (way : PassWay) (to : Target) (rest : List Row) → IsNumbered (with_things net ts) → list_of l.list.0 (lists ts) ≡ Some l → passed_work net way to ≤ weight net (has_clone net) (thing.List l) →
    Turned net (back_to l m way to ts) rest → Turned net ts (row.TurnBack l.list m status ∷ row.Pass l.list way to ∷ rest)
turned net ts m l status way to rest n f less t =
    let now : Net = with_things net ts in
    let had : Net = after now (row.TurnBack l.list m status) in
    let first : Stay (has_clone now) (has_clone had) = clones_after now (row.TurnBack l.list m status) n refl in
    let numbered : IsNumbered had = numbered_after now (row.TurnBack l.list m status) tt n in
    let second : Stay (has_clone had) (has_clone (after had (row.Pass l.list way to))) = clones_after had (row.Pass l.list way to) numbered refl in
    let back : load had (has_clone net) ≤ load now (has_clone net) = load_back now (has_clone net) l.list m status in
    let moved : load (after had (row.Pass l.list way to)) (has_clone net) + weight net (has_clone net) (thing.List l) ≤ load had (has_clone net) + passed_work net way to = load_moved had (has_clone net) l.list way to (had_by m l) (found_back now l m status f) in
    let last = t.most in
    record { stays = λ k s. t.stays k (second k (first k s)); most = omega (arith, back, moved, less, last) }

numbered_back : (net : Net) (ts : List Thing) (m : ModuleId) (l : LiveList) (way : PassWay) (to : Target) → IsNumbered (with_things net ts) → IsNumbered (with_things net (back_to l m way to ts))
numbered_back net ts m l way to n =
    let now : Net = with_things net ts in
    numbered_after (after now (row.TurnBack l.list m Aborted)) (row.Pass l.list way to) tt (numbered_after now (row.TurnBack l.list m Aborted) tt n)

-- a list of another number is found as before
found_other : (net : Net) (ts : List Thing) (m : ModuleId) (l k : LiveList) (way : PassWay) (to : Target) → (k.list.0 == l.list.0) ≡ false → list_of k.list.0 (lists ts) ≡ Some k → list_of k.list.0 (lists (back_to l m way to ts)) ≡ Some k
found_other net ts m l k way to o f =
    let now : Net = with_things net ts in
    found_pass (after now (row.TurnBack l.list m Aborted)) k l.list way to o (found_back_other now k l.list m Aborted o f)

abbrev EachModule : (ModuleId → Type 0) → List ModuleId → Type 0
EachModule P [] = Unit {0}
EachModule P (m ∷ ms) = P m × EachModule P ms

EachModule-map : (P Q : ModuleId → Type 0) → ((m : ModuleId) → P m → Q m) → (ms : List ModuleId) → EachModule P ms → EachModule Q ms
EachModule-map P Q f [] h = tt
EachModule-map P Q f (m ∷ ms) h = (f m h.0, EachModule-map P Q f ms h.1)

EachModule-both : (P Q R : ModuleId → Type 0) → ((m : ModuleId) → P m → Q m → R m) → (ms : List ModuleId) → EachModule P ms → EachModule Q ms → EachModule R ms
EachModule-both P Q R f [] p q = tt
EachModule-both P Q R f (m ∷ ms) p q = (f m p.0 q.0, EachModule-both P Q R f ms p.1 q.1)

-- the modules differ
abbrev AreOther : List ModuleId → Type 0
AreOther [] = Unit {0}
AreOther (m ∷ ms) = EachModule (λ k. k ≡ m → ⊥) ms × AreOther ms

-- what the module keeps ready stands as it did
abbrev StillHas : Net → List Thing → ModuleId → Type 0
StillHas net ts m = (k : LiveList) → IsReady net m k → list_of k.list.0 (lists ts) ≡ Some k

-- two modules keep lists of different numbers
apart_kept : (net : Net) (m n : ModuleId) (l k : LiveList) → (n ≡ m → ⊥) → IsReady net m l → IsReady net n k → (k.list.0 == l.list.0) ≡ false
apart_kept net m n l k o r q = cases (k.list.0 == l.list.0) refl
  where
    same : (x y : LiveList) → Some x ≡ Some y → x ≡ y
    same x y g = cc

    keepers : stand.Kept n ≡ stand.Kept m → n ≡ m
    keepers e = cc

    cases : (b : Bool) → (k.list.0 == l.list.0) ≡ b → b ≡ false
    cases true t =
        let number : k.list.0 ≡ l.list.0 = grind (arith, nat_tests) in
        let one : k ≡ l = same k l (sym q.fine.found ∙ ap (λ i. list_of i (lists net.things)) number ∙ r.fine.found) in
        absurd (o (keepers (sym q.kept ∙ ap (λ (x : LiveList). x.stand) one ∙ r.kept)))
    cases false t = refl

-- a send that is kept weighs at least as much as one that is done
back_less : (net : Net) (m : ModuleId) (l : LiveList) (to : Target) → IsReady net m l → is_down l.direction ≡ true → passed_work net (way.Done Aborted) to ≤ weight net (has_clone net) (thing.List l)
back_less net m l to r d =
    let most = target_most net.modules.order to in
    let full = full_weight net l r.free in
    let old : list_work net l l.stand ≡ kept_work net (is_down l.direction) m = ap (list_work net l) r.kept in
    let weighs : kept_work net (is_down l.direction) m ≡ kept_work net true m = ap (λ d. kept_work net d m) d in
    omega (arith, most, full, old, weighs)

-- some modules' lists are still to be turned back
abbrev RestTurns : Net → List ModuleId → List Row → Type 0
RestTurns net ms rest = (ts : List Thing) → IsNumbered (with_things net ts) → EachModule (StillHas net ts) ms → Turned net ts rest

turn_all : (net : Net) (m : ModuleId) (ms : List ModuleId) (rest : List Row) → RestTurns net ms rest → EachModule (λ k. k ≡ m → ⊥) ms → (ls : List LiveList) → Each (λ l. IsReady net m l × (is_down l.direction ≡ true)) ls → IsApart ls →
    (ts : List Thing) → IsNumbered (with_things net ts) → Each (λ l. list_of l.list.0 (lists ts) ≡ Some l) ls → EachModule (StillHas net ts) ms → Turned net ts (flat_map (aborted net m) ls ++ rest)
turn_all net m ms rest f o [] r a ts n found still = f ts n still
turn_all net m ms rest f o (l ∷ ls) r a ts n found still =
    let to : Target = next_done net.modules (position net.modules.order m) l.owner in
    let next : List Thing = back_to l m (way.Done Aborted) to ts in
    let others : EachModule (StillHas net next) ms =
    EachModule-both _ _ (StillHas net next) (λ k w s x q. found_other net ts m l x (way.Done Aborted) to (apart_kept net m k l x w r.0.0 q) (s x q)) ms o still in
    let mine : Each (λ k. list_of k.list.0 (lists next) ≡ Some k) ls = Each-both _ _ _ (λ k g w. found_other net ts m l k (way.Done Aborted) to w g) ls found.1 (other_numbers l.list.0 ls a.0) in
    let later : Turned net next (flat_map (aborted net m) ls ++ rest) = turn_all net m ms rest f o ls r.1 a.1 next (numbered_back net ts m l (way.Done Aborted) to n) mine others in
    subst (λ (r : Row). Turned net ts (row.TurnBack l.list m Aborted ∷ r ∷ (flat_map (aborted net m) ls ++ rest))) (sym (homeward_done net.modules l.list l.owner l.direction (position net.modules.order m) Aborted r.0.1))
    (turned net ts m l Aborted (way.Done Aborted) to (flat_map (aborted net m) ls ++ rest) n found.0 (back_less net m l to r.0.0 r.0.1) later)

and_first : (a b : Bool) → (a && b) ≡ true → a ≡ true
and_first true b h = refl
and_first false b h = h

module _ (net : Net) (id : ℕ) (h : IsInPlace net) where
  named_ready : (m : ModuleId) → Each (λ l. IsReady net m l × (is_down l.direction ≡ true)) (cancelled_at net id m)
  named_ready m =
      Each-map _ (λ l. IsReady net m l × (is_down l.direction ≡ true)) (λ l k. (k.0, and_first (is_down l.direction) (same_number l.cancel (Some id)) k.1)) (cancelled_at net id m)
      (passing (IsReady net m) (is_named id) (ready_lists net m) (all_ready net m h))

  turn_modules : (ms : List ModuleId) → AreOther ms → RestTurns net ms (flat_map (cancel_rows_at net id) ms)
  turn_modules [] o ts n still = record { stays = λ k t. t; most = omega arith }
  turn_modules (m ∷ ms) o ts n still =
      turn_all net m ms (flat_map (cancel_rows_at net id) ms) (turn_modules ms o.1) o.0 (cancelled_at net id m) (named_ready m)
      (apart_less (is_named id) (ready_lists net m) (ready_apart net m h)) ts n (Each-map _ _ (λ l k. still.0 l k.0) (cancelled_at net id m) (named_ready m)) still.1

  -- the modules that queue sends differ
  not_in : (f : ℕ) (test : ℕ → Bool) (fs : List ℕ) → is_in f fs ≡ false → EachModule (λ k. k ≡ Filter f → ⊥) (map Filter (filter test fs) ++ Miniport ∷ [])
  not_in f test [] o = (λ e. cc, tt)
  not_in f test (g ∷ fs) o =
      let rest = not_in f test fs (last (g == f) (is_in f fs) o) in
      elim (test g) as (λ b. EachModule (λ k. k ≡ Filter f → ⊥) (map Filter (cond b (g ∷ filter test fs) (filter test fs)) ++ Miniport ∷ [])) [ true ↦ (λ e. other g (first (g == f) (is_in f fs) o) e, rest) | false ↦ rest ]
    where
      first : (a b : Bool) → (a || b) ≡ false → a ≡ false
      first true b h = h
      first false b h = refl

      last : (a b : Bool) → (a || b) ≡ false → b ≡ false
      last true b h = cc
      last false b h = h

      number : (a b : ℕ) → Filter a ≡ Filter b → a ≡ b
      number a b e = cc

      other : (g : ℕ) → (g == f) ≡ false → Filter g ≡ Filter f → ⊥
      other g t e = let same : g ≡ f = number g f e in grind (arith, nat_tests)

  queues_differ : (test : ℕ → Bool) (fs : List ℕ) → IsDistinct fs → AreOther (map Filter (filter test fs) ++ Miniport ∷ [])
  queues_differ test [] d = (tt, tt)
  queues_differ test (f ∷ fs) d =
      let rest = queues_differ test fs d.1 in
      elim (test f) as (λ b. AreOther (map Filter (cond b (f ∷ filter test fs) (filter test fs)) ++ Miniport ∷ [])) [ true ↦ (not_in f test fs d.0, rest) | false ↦ rest ]

  each_still : (ms : List ModuleId) → EachModule (StillHas net net.things) ms
  each_still [] = tt
  each_still (m ∷ ms) = (λ k r. r.fine.found, each_still ms)

  pub cancel_adds : OutcomeAdds net 0 (cancel_outcome net id)
  cancel_adds =
      let ms : List ModuleId = queues net.modules in
      let all : Turned net net.things (flat_map (cancel_rows_at net id) ms) =
      turn_modules ms (queues_differ (is_hold_filter net.modules) net.modules.order h.ordered.distinct) net.things (record { apart = h.numbered.apart; below = h.numbered.below }) (each_still ms) in
      let most = work_after (after_rows net (flat_map (cancel_rows_at net id) ms)) (has_clone net) all.stays in
      let start = work_least net in
      let less = all.most in
      omega (arith, most, start, less)
