-- Each drain that moves something, and in which no loop adapter indicates, leaves less to do, where everything
-- stands in its place.
use Rattle.std.proofs.Common.{◌≡◌, ℕ, ◌+◌, ◌-◌, ◌*◌, ◌≤◌, ◌==◌, ◌&&◌, ◌||◌, not, Bool, true, false, cond, List, [], ◌∷◌, ◌++◌, Option, Some, None, length, refl, arith, ap, sym, subst, ◌⊎◌, inl, inr, filter, map}
use Rattle.std.proofs.lemmas.Bool.Decides.{nat_tests}
use Rattle.ndis_base.specs.declared.ListStatus.TheVariants.{Success, Paused}
use Rattle.ndis_base.specs.declared.ModuleId.{ModuleId}
use Rattle.ndis_base.specs.declared.ModuleId.TheVariants.{Miniport, Filter, Binding}
use Rattle.journal_types.specs.declared.PassWay.{PassWay}
use Rattle.journal_types.specs.declared.PassWay.TheVariants as way
use Rattle.journal_types.specs.declared.Target.{Target}
use Rattle.journal_types.specs.declared.Row.{Row}
use Rattle.journal_types.specs.declared.Row.TheVariants as row
use Rattle.stack_rules.specs.declared.LiveList.{LiveList}
use Rattle.stack_rules.specs.declared.Stand.{Stand}
use Rattle.stack_rules.specs.declared.Stand.TheVariants as stand
use Rattle.stack_rules.specs.declared.Thing.{Thing}
use Rattle.stack_rules.specs.declared.Thing.TheVariants as thing
use Rattle.stack_rules.specs.Tests.{is_down, is_loop, is_retain, is_virtual, phase_is_running}
use Rattle.stack_rules.specs.Heads.{kind_of_binding, binding_numbers}
use Rattle.stack_rules.specs.Net.{Net, after, after_rows, lists, list_of, after_pass}
use Rattle.stack_rules.specs.Places.{position, is_full, is_waiting, is_kept_by, has_clone, kept_lists, ready_lists}
use Rattle.stack_rules.specs.Targets.{next_down, next_up, next_done, next_back, homeward, turned_back}
use Rattle.stack_rules.specs.Sends.{first_of, loops, transmitted}
use Rattle.stack_rules.specs.Cancels.{is_hold_filter}
use Rattle.stack_rules.specs.Pumps.{is_pump_moving}
use Rattle.stack_rules.specs.Drains.{returned_by, returns_all, passed_by, passes_all, empties, empties_ring, first_rows, drain_rows, drained, drain_outcome}
use Rattle.stack_rules.specs.Rewires.{is_in}
use Rattle.stack_rules.specs.Work.{bottom, up_work, kept_work, list_work}
use Rattle.rule_basics.specs.Live.{is_live, IsApart, Each}
use Rattle.rule_basics.specs.Numbers.{IsNumbered}
use Rattle.rule_basics.proofs.Numbered.{numbered_after}
use Rattle.home_laws.proofs.Known.{by_test, Each-first_of}
use Rattle.place_laws.specs.Kept.{StandsPlaced, IsOrdered, IsInPlace}
use Rattle.work_laws.proofs.Weights.{Stay, weight, load, work_least, work_after, load_moved, passed_work}
use Rattle.work_laws.proofs.Clones.{clones_after}
use Rattle.work_laws.proofs.Ways.{target_most, in_above, down_far, up_near, done_near, back_least}
use Rattle.work_laws.proofs.Hands.{Found, found_pass}
use Rattle.work_laws.specs.Bounds.{originates}
use Rattle.work_laws.proofs.Lowers.{full_weight, back_trades}
use Rattle.work_laws.proofs.Filters.{Lowers, onward_down, onward_up, homeward_done, homeward_back}
use Rattle.work_laws.proofs.Moves.{same_is}
use Rattle.work_laws.proofs.Pumps.{IsFine, all_fine, MovedLowers, pump_lowers}

-- the state with other things
abbrev pub with_things : Net → List Thing → Net
with_things net ts = record net { things = ts }

pub other_numbers : (n : ℕ) (ls : List LiveList) → is_live n ls ≡ false → Each (λ l. (l.list.0 == n) ≡ false) ls
other_numbers n [] h = tt
other_numbers n (l ∷ ls) h = (grind (arith, nat_tests), other_numbers n ls (grind (arith, nat_tests)))

pub Each-both : (P Q R : LiveList → Type 0) → ((l : LiveList) → P l → Q l → R l) → (ls : List LiveList) → Each P ls → Each Q ls → Each R ls
Each-both P Q R f [] p q = tt
Each-both P Q R f (l ∷ ls) p q = (f l p.0 q.0, Each-both P Q R f ls p.1 q.1)

-- each list is passed on by its row, and weighs less then
pub record PassesLess (net : Net) (pass : LiveList → Row) (l : LiveList) : Type 0 where
  pub passed_way : PassWay
  pub passed_to : Target
  pub row_is : pass l ≡ row.Pass l.list passed_way passed_to
  pub less : passed_work net passed_way passed_to + 1 ≤ weight net (has_clone net) (thing.List l)

record Batch (net : Net) (ts : List Thing) (rows : List Row) (many : ℕ) : Type 0 where
  stays : Stay (has_clone (with_things net ts)) (has_clone (after_rows (with_things net ts) rows))
  most : load (after_rows (with_things net ts) rows) (has_clone net) + many ≤ load (with_things net ts) (has_clone net)

batch : (net : Net) (pass : LiveList → Row) (ms : List LiveList) (ts : List Thing) → IsNumbered (with_things net ts) → Each (λ l. list_of l.list.0 (lists ts) ≡ Some l) ms → IsApart ms → Each (PassesLess net pass) ms → Batch net ts (map pass ms) (length ms)
batch net pass [] ts h f a p = record { stays = λ n t. t; most = omega arith }
batch net pass (l ∷ ms) ts h f a p =
    let way : PassWay = p.0.passed_way in
    let to : Target = p.0.passed_to in
    let now : Net = with_things net ts in
    let next : List Thing = after_pass l.list.0 way to ts in
    let moved : load (after now (row.Pass l.list way to)) (has_clone net) + weight net (has_clone net) (thing.List l) ≤ load now (has_clone net) + passed_work net way to = load_moved now (has_clone net) l.list way to l f.0 in
    let first : Stay (has_clone now) (has_clone (after now (row.Pass l.list way to))) = clones_after now (row.Pass l.list way to) h refl in
    let numbered : IsNumbered (with_things net next) = numbered_after now (row.Pass l.list way to) tt h in
    let found : Each (λ k. list_of k.list.0 (lists next) ≡ Some k) ms = Each-both _ _ _ (λ k g o. found_pass now k l.list way to o g) ms f.1 (other_numbers l.list.0 ms a.0) in
    let rest : Batch net next (map pass ms) (length ms) = batch net pass ms next numbered found a.1 p.1 in
    let less = p.0.less in
    let last = rest.most in
    subst (λ (r : Row). Batch net ts (r ∷ map pass ms) (length (l ∷ ms))) (sym p.0.row_is)
    record { stays = λ n t. rest.stays n (first n t); most = omega (arith, moved, less, last) }

-- some lists are passed on, the first first
pub passes_lower : (net : Net) (pass : LiveList → Row) (l : LiveList) (ms : List LiveList) → IsNumbered net → Each (Found net) (l ∷ ms) → IsApart (l ∷ ms) → Each (PassesLess net pass) (l ∷ ms) → Lowers net (map pass (l ∷ ms))
passes_lower net pass l ms h f a p =
    let all : Batch net net.things (map pass (l ∷ ms)) (length (l ∷ ms)) = batch net pass (l ∷ ms) net.things (record { apart = h.apart; below = h.below }) f a p in
    let most = work_after (after_rows net (map pass (l ∷ ms))) (has_clone net) all.stays in
    let start = work_least net in
    let less = all.most in
    omega (arith, most, start, less)

-- some of the live lists
live_less : (n : ℕ) (test : LiveList → Bool) (ls : List LiveList) → is_live n ls ≡ false → is_live n (filter test ls) ≡ false
live_less n test [] h = refl
live_less n test (l ∷ ls) h =
    let rest : is_live n (filter test ls) ≡ false = live_less n test ls (right (l.list.0 == n) (is_live n ls) h) in
    elim (test l) as (λ b. is_live n (cond b (l ∷ filter test ls) (filter test ls)) ≡ false) [ true ↦ neither (l.list.0 == n) (is_live n (filter test ls)) (left (l.list.0 == n) (is_live n ls) h) rest | false ↦ rest ]
  where
    left : (a b : Bool) → (a || b) ≡ false → a ≡ false
    left true b h = h
    left false b h = refl

    right : (a b : Bool) → (a || b) ≡ false → b ≡ false
    right true b h = cc
    right false b h = h

    neither : (a b : Bool) → a ≡ false → b ≡ false → (a || b) ≡ false
    neither true b e g = cc
    neither false b e g = g

pub apart_less : (test : LiveList → Bool) (ls : List LiveList) → IsApart ls → IsApart (filter test ls)
apart_less test [] h = tt
apart_less test (l ∷ ls) h =
    elim (test l) as (λ b. IsApart (cond b (l ∷ filter test ls) (filter test ls))) [ true ↦ (live_less l.list.0 test ls h.0, apart_less test ls h.1) | false ↦ apart_less test ls h.1 ]

pub passing : (P : LiveList → Type 0) (test : LiveList → Bool) (ls : List LiveList) → Each P ls → Each (λ l. P l × (test l ≡ true)) (filter test ls)
passing P test [] h = tt
passing P test (l ∷ ls) h = cases (test l) refl (passing P test ls h.1)
  where
    cases : (b : Bool) → test l ≡ b → Each (λ l. P l × (test l ≡ true)) (filter test ls) → Each (λ l. P l × (test l ≡ true)) (cond b (l ∷ filter test ls) (filter test ls))
    cases true t rest = ((h.0, t), rest)
    cases false t rest = rest

-- a ready list that a module keeps
pub record IsReady (net : Net) (m : ModuleId) (l : LiveList) : Type 0 where
  pub fine : IsFine net l
  pub kept : l.stand ≡ stand.Kept m
  pub free : is_waiting net l ≡ false

pub kept_is : (m : ModuleId) (s : Stand) → is_kept_by m s ≡ true → s ≡ stand.Kept m
kept_is m stand.Unplaced e = cc
kept_is m (stand.Kept k) e = ap (λ i. stand.Kept i) (same_is k m e)
kept_is m (stand.Passed way to) e = cc

off : (b : Bool) → not b ≡ true → b ≡ false
off true e = sym e
off false e = refl

pub Each-map : (P Q : LiveList → Type 0) → ((l : LiveList) → P l → Q l) → (ls : List LiveList) → Each P ls → Each Q ls
Each-map P Q f [] h = tt
Each-map P Q f (l ∷ ls) h = (f l h.0, Each-map P Q f ls h.1)

pub all_ready : (net : Net) (m : ModuleId) → IsInPlace net → Each (IsReady net m) (ready_lists net m)
all_ready net m h =
    let kept = passing (IsFine net) (λ l. is_kept_by m l.stand) (lists net.things) (all_fine net h) in
    let ready = passing _ (λ l. not (is_waiting net l)) (kept_lists net m) kept in
    Each-map _ (IsReady net m) (λ l k. record { fine = k.0.0; kept = kept_is m l.stand k.0.1; free = off (is_waiting net l) k.1 }) (ready_lists net m) ready

pub ready_apart : (net : Net) (m : ModuleId) → IsInPlace net → IsApart (ready_lists net m)
ready_apart net m h = apart_less (λ l. not (is_waiting net l)) (kept_lists net m) (apart_less (λ l. is_kept_by m l.stand) (lists net.things) h.numbered.apart)

-- all that a module keeps ready is passed on
batch_good : (net : Net) (pass : LiveList → Row) (ls : List LiveList) → IsNumbered net → IsApart ls → Each (λ l. Found net l × PassesLess net pass l) ls → (map pass ls ≡ []) ⊎ Lowers net (map pass ls)
batch_good net pass [] h a p = inl refl
batch_good net pass (l ∷ ls) h a p =
    inr (passes_lower net pass l ls h (Each-map _ (Found net) (λ k q. q.0) (l ∷ ls) p) a (Each-map _ (PassesLess net pass) (λ k q. q.1) (l ∷ ls) p))

-- a binding returns a receive, a hold filter passes a list on
pub returned_less : (net : Net) (b : ℕ) (l : LiveList) → IsReady net (Binding b) l → PassesLess net (returned_by net) l
returned_less net b l r =
    let up : is_down l.direction ≡ false = subst (StandsPlaced net.modules l) r.kept r.fine.placed.stands in
    let least = back_least net.modules 0 l.owner (r.fine.placed.up up) in
    let full = full_weight net l r.free in
    let old : list_work net l l.stand ≡ kept_work net (is_down l.direction) (Binding b) = ap (list_work net l) r.kept in
    let weighs : kept_work net (is_down l.direction) (Binding b) ≡ bottom net + 1 = ap (λ d. kept_work net d (Binding b)) up in
    record {
      passed_way = way.Back Success;
      passed_to = next_back net.modules 0 l.owner;
      row_is = homeward_back net.modules l.list l.owner l.direction 0 Success up;
      less = omega (arith, least, full, old, weighs);
    }

passed_less : (net : Net) (f : ℕ) (l : LiveList) → IsOrdered net.modules → IsReady net (Filter f) l → PassesLess net (passed_by net f) l
passed_less net f l o r = cases (is_down l.direction) refl
  where
    cases : (d : Bool) → is_down l.direction ≡ d → PassesLess net (passed_by net f) l
    cases true d =
        let i : ℕ = position net.modules.order (Filter f) in
        let there : is_in f net.modules.order ≡ true = subst (StandsPlaced net.modules l) r.kept r.fine.placed.stands in
        let low = in_above f net.modules.order there in
        let far = down_far net.modules i o.distinct (omega (arith, low)) in
        let most = target_most net.modules.order (next_down net.modules i) in
        let full = full_weight net l r.free in
        let old : list_work net l l.stand ≡ kept_work net (is_down l.direction) (Filter f) = ap (list_work net l) r.kept in
        let weighs : kept_work net (is_down l.direction) (Filter f) ≡ 2 * (bottom net - i) + bottom net + 1 = ap (λ d. kept_work net d (Filter f)) d in
        record { passed_way = way.Down; passed_to = next_down net.modules i; row_is = onward_down net.modules l.list l.direction i d; less = omega (arith, low, far, most, full, old, weighs) }
    cases false d =
        let i : ℕ = position net.modules.order (Filter f) in
        let near = up_near net.modules i in
        let full = full_weight net l r.free in
        let old : list_work net l l.stand ≡ kept_work net (is_down l.direction) (Filter f) = ap (list_work net l) r.kept in
        let weighs : kept_work net (is_down l.direction) (Filter f) ≡ up_work net i = ap (λ d. kept_work net d (Filter f)) d in
        record { passed_way = way.Up; passed_to = next_up net.modules i; row_is = onward_up net.modules l.list l.direction i d; less = omega (arith, near, full, old, weighs) }

pub returns_good : (net : Net) (b : ℕ) → IsInPlace net → (returns_all net b ≡ []) ⊎ Lowers net (returns_all net b)
returns_good net b h =
    by_test (λ rows. (rows ≡ []) ⊎ Lowers net rows) (is_retain (kind_of_binding net.head b)) _ _
    (λ _. batch_good net (returned_by net) (ready_lists net (Binding b)) h.numbered (ready_apart net (Binding b) h)
    (Each-map (IsReady net (Binding b)) _ (λ l r. (r.fine.found, returned_less net b l r)) (ready_lists net (Binding b)) (all_ready net (Binding b) h)))
    (λ _. inl refl)

pub passes_good : (net : Net) (f : ℕ) → IsInPlace net → (passes_all net f ≡ []) ⊎ Lowers net (passes_all net f)
passes_good net f h =
    by_test (λ rows. (rows ≡ []) ⊎ Lowers net rows) (is_hold_filter net.modules f) _ _
    (λ _. batch_good net (passed_by net f) (ready_lists net (Filter f)) h.numbered (ready_apart net (Filter f) h)
    (Each-map (IsReady net (Filter f)) _ (λ l r. (r.fine.found, passed_less net f l h.ordered r)) (ready_lists net (Filter f)) (all_ready net (Filter f) h)))
    (λ _. inl refl)

-- a send at the miniport goes homewards
pub ring_work : (net : Net) (l : LiveList) → IsReady net Miniport l → (is_down l.direction ≡ true) × (list_work net l l.stand ≡ bottom net + 1)
ring_work net l r =
    let down : is_down l.direction ≡ true = subst (StandsPlaced net.modules l) r.kept r.fine.placed.stands in
    let old : list_work net l l.stand ≡ kept_work net (is_down l.direction) Miniport = ap (list_work net l) r.kept in
    let weighs : kept_work net (is_down l.direction) Miniport ≡ 2 * (bottom net - bottom net) + bottom net + 1 = ap (λ d. kept_work net d Miniport) down in
    (down, omega (arith, old, weighs))

pub turned_lowers : (net : Net) (l : LiveList) → IsNumbered net → IsReady net Miniport l → Lowers net (turned_back net.modules l Miniport Paused)
turned_lowers net l n r =
    let i : ℕ = position net.modules.order Miniport in
    let ring = ring_work net l r in
    let above = r.fine.placed.down ring.0 in
    let near = done_near net.modules i (i - 1) l.owner (omega arith) (omega (arith, above)) in
    let trade = back_trades net l Miniport Paused (way.Done Paused) (next_done net.modules i l.owner) (record { numbered = n; found = r.fine.found; free = r.free }) in
    let old = ring.1 in
    subst (λ (r : Row). Lowers net (row.TurnBack l.list Miniport Paused ∷ r ∷ [])) (sym (homeward_done net.modules l.list l.owner l.direction i Paused ring.0)) (omega (arith, above, near, trade, old))

pub wired_lowers : (net : Net) (l : LiveList) → IsNumbered net → IsReady net Miniport l → Lowers net (row.Wire l.list l.frames ∷ homeward net.modules l (position net.modules.order Miniport) Success ∷ [])
wired_lowers net l n r =
    let i : ℕ = position net.modules.order Miniport in
    let ring = ring_work net l r in
    let above = r.fine.placed.down ring.0 in
    let near = done_near net.modules i (i - 1) l.owner (omega arith) (omega (arith, above)) in
    let wired : Net = after net (row.Wire l.list l.frames) in
    let to : Target = next_done net.modules i l.owner in
    let rows : List Row = row.Wire l.list l.frames ∷ row.Pass l.list (way.Done Success) to ∷ [] in
    let stay : Stay (has_clone net) (has_clone (after_rows net rows)) = clones_after wired (row.Pass l.list (way.Done Success) to) (record { apart = n.apart; below = n.below }) refl in
    let moved : load (after_rows net rows) (has_clone net) + weight net (has_clone net) (thing.List l) ≤ load net (has_clone net) + passed_work net (way.Done Success) to = load_moved wired (has_clone net) l.list (way.Done Success) to l r.fine.found in
    let full = full_weight net l r.free in
    let most = work_after (after_rows net rows) (has_clone net) stay in
    let start = work_least net in
    let old = ring.1 in
    subst (λ (r : Row). Lowers net (row.Wire l.list l.frames ∷ r ∷ [])) (sym (homeward_done net.modules l.list l.owner l.direction i Success ring.0)) (omega (arith, above, near, moved, full, most, start, old))

-- rows in which the miniport originates nothing are none, or lower the work
abbrev pub IsStill : Net → List Row → Type 0
IsStill net rows = (originates rows ≡ false) ⊎ (loops net ≡ false)

abbrev Good : Net → List Row → Type 0
Good net rows = IsStill net rows → (rows ≡ []) ⊎ Lowers net rows

transmitted_good : (net : Net) (l : LiveList) → IsNumbered net → IsReady net Miniport l → Good net (transmitted net l)
transmitted_good net l n r =
    let last : Row = homeward net.modules l (position net.modules.order Miniport) Success in
    by_test (λ rows. Good net (row.Wire l.list l.frames ∷ (rows ++ last ∷ []))) (loops net) _ _ (λ t q. absurd (neither t q)) (λ _ q. inr (wired_lowers net l n r))
  where
    neither : loops net ≡ true → (true ≡ false) ⊎ (loops net ≡ false) → ⊥
    neither t (inl e) = cc
    neither t (inr e) = cc

empties_good : (net : Net) (o : Option LiveList) → IsNumbered net → ((l : LiveList) → o ≡ Some l → IsReady net Miniport l) → Good net (empties net o)
empties_good net None n r = λ q. inl refl
empties_good net (Some l) n r =
    by_test (Good net) (is_virtual net.head.kind) _ _
    (λ _. by_test (Good net) (phase_is_running net.phase) _ _ (λ _ q. inl refl) (λ _ q. inr (turned_lowers net l n (r l refl))))
    (λ _. transmitted_good net l n (r l refl))

ring_good : (net : Net) → IsInPlace net → Good net (empties_ring net)
ring_good net h = empties_good net (first_of (ready_lists net Miniport)) h.numbered (λ l e. Each-first_of (IsReady net Miniport) (ready_lists net Miniport) l (all_ready net Miniport h) e)

abbrev EachGood : Net → List (List Row) → Type 0
EachGood net [] = Unit {0}
EachGood net (rows ∷ others) = Good net rows × EachGood net others

first_good : (net : Net) (all : List (List Row)) → EachGood net all → Good net (first_rows all)
first_good net [] g q = inl refl
first_good net ([] ∷ others) g q = first_good net others g.1 q
first_good net ((r ∷ rows) ∷ others) g q = g.0 q

EachGood-append : (net : Net) (all others : List (List Row)) → EachGood net all → EachGood net others → EachGood net (all ++ others)
EachGood-append net [] others f g = g
EachGood-append net (rows ∷ all) others f g = (f.0, EachGood-append net all others f.1 g)

EachGood-map : (net : Net) (rows : ℕ → List Row) → ((n : ℕ) → (rows n ≡ []) ⊎ Lowers net (rows n)) → (ns : List ℕ) → EachGood net (map rows ns)
EachGood-map net rows f [] = tt
EachGood-map net rows f (n ∷ ns) = (λ q. f n, EachGood-map net rows f ns)

drain_good : (net : Net) → IsInPlace net → Good net (drain_rows net)
drain_good net h =
    let returns = map (returns_all net) (binding_numbers net.head) in
    let passes = map (passes_all net) net.modules.order in
    first_good net (returns ++ (passes ++ empties_ring net ∷ []))
    (EachGood-append net returns (passes ++ empties_ring net ∷ []) (EachGood-map net (returns_all net) (λ b. returns_good net b h) (binding_numbers net.head))
    (EachGood-append net passes (empties_ring net ∷ []) (EachGood-map net (passes_all net) (λ f. passes_good net f h) net.modules.order) (ring_good net h, tt)))

drained_lowers : (net : Net) (rows : List Row) → Good net rows → IsStill net rows → MovedLowers net (drained rows)
drained_lowers net [] g q m = cc
drained_lowers net (r ∷ rows) g q m = some (g q)
  where
    some : ((r ∷ rows) ≡ []) ⊎ Lowers net (r ∷ rows) → Lowers net (r ∷ rows)
    some (inl e) = cc
    some (inr l) = l

drained_rows : (rows : List Row) → (drained rows).rows ≡ rows
drained_rows [] = refl
drained_rows (r ∷ rows) = refl

pub drain_lowers : (net : Net) (keeps : Bool) → IsInPlace net → IsStill net (drain_outcome net keeps).rows → MovedLowers net (drain_outcome net keeps)
drain_lowers net keeps h =
    by_test (λ o. IsStill net o.rows → MovedLowers net o) (is_pump_moving net) _ _
    (λ _ q. pump_lowers net keeps h)
    (λ _ q. drained_lowers net (drain_rows net) (drain_good net h) (subst (IsStill net) (drained_rows (drain_rows net)) q))

-- a loop adapter indicates only while the stack runs
pub loops_running : (net : Net) → phase_is_running net.phase ≡ false → loops net ≡ false
loops_running net e = parts (is_loop net.head.kind) (phase_is_running net.phase) (not (is_full net Miniport)) e
  where
    parts : (a b c : Bool) → b ≡ false → (a && (b && c)) ≡ false
    parts true true c e = cc
    parts true false c e = refl
    parts false b c e = refl
