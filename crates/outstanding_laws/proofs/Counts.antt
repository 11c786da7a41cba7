-- What the first position that isn't Paused has outstanding is what it has in hand.
use Rattle.std.proofs.Common.{◌≡◌, ℕ, zero, suc, ◌+◌, ◌<◌, ◌≤◌, ◌==◌, ◌&&◌, ◌||◌, not, nat_lt, nat_le, Bool, true, false, cond, List, [], ◌∷◌, ◌++◌, Option, Some, None, length, map, filter, count_by, sum_by, slice_index_or, refl, arith, ap, sym, subst, ◌∙◌}
use Rattle.std.proofs.lemmas.Bool.Decides.{nat_tests}
use Rattle.std.proofs.lemmas.List.Sums.{sum_by-cons}
use Rattle.ndis_base.specs.declared.ModuleId.{ModuleId}
use Rattle.ndis_base.specs.declared.ModuleId.TheVariants.{Miniport, Filter, Binding}
use Rattle.ndis_base.specs.declared.ModuleState.{ModuleState}
use Rattle.ndis_base.specs.declared.Phase.TheVariants as phase
use Rattle.journal_types.specs.declared.PassWay.TheVariants as way
use Rattle.stack_rules.specs.declared.LiveList.{LiveList}
use Rattle.stack_rules.specs.declared.Stand.{Stand}
use Rattle.stack_rules.specs.declared.Stand.TheVariants as stand
use Rattle.stack_rules.specs.declared.Thing.{Thing}
use Rattle.stack_rules.specs.declared.Thing.TheVariants as thing
use Rattle.stack_rules.specs.Tests.{is_down, same_module, same_number}
use Rattle.stack_rules.specs.Net.{Net, Modules, seen, lists}
use Rattle.stack_rules.specs.Places.{position, above, position_of_target, position_in, is_at_most, is_counted_at, outstanding, is_kept_by, is_passed, is_away, owned}
use Rattle.stack_rules.specs.Rewires.{is_in}
use Rattle.stack_rules.specs.Pauses.{binding_ids, one, first_unpaused}
use Rattle.rule_basics.specs.Live.{Each}
use Rattle.rule_basics.proofs.Each.{Each-implies, Each-found}
use Rattle.rule_basics.proofs.Counts.{one_if, count_by-cons}
use Rattle.state_laws.specs.Laws.{IsThere}
use Rattle.state_laws.specs.Shape.{IsDistinct}
use Rattle.state_laws.proofs.Floors.{first_unpaused_is}
use Rattle.state_laws.proofs.Events.{at_phase}
use Rattle.pause_laws.specs.Clear.{StandsFrom, IsClear, IsHeld}
use Rattle.pause_laws.proofs.Turns.{held_journal}
use Rattle.place_laws.proofs.Looks.{look}
use Rattle.place_laws.proofs.Keepers.{all_found}
use Rattle.outstanding_laws.specs.Outstanding.{way_position, modules_at, in_module, counts_away, is_counted_away, in_hand_at, EachIsInHand}
use Rattle.outstanding_laws.proofs.Rows.{Fits}
use Rattle.outstanding_laws.proofs.Keepers.{apart_of, keep_there, kept_fits}
use Rattle.outstanding_laws.proofs.Turns.{IsSound, right_journal, distinct_of}
use Rattle.outstanding_laws.proofs.Ways.{told_at}

-- how often a module is among some
abbrev times : ModuleId → List ModuleId → ℕ
times m ms = count_by (λ x. same_module m x) ms

-- each binding is one of the bindings
times_binding : (c b : ℕ) (ss : List ModuleState) → times (Binding c) (binding_ids b ss) ≡ one_if (nat_le b c && nat_lt c (b + length ss))
times_binding c b [] = grind (arith, nat_tests)
times_binding c b (s ∷ ss) =
    let rest : times (Binding c) (binding_ids (b + 1) ss) ≡ one_if (nat_le (b + 1) c && nat_lt c (b + 1 + length ss)) = times_binding c (b + 1) ss in
    let whole = count_by-cons (λ x. same_module (Binding c) x) (Binding b) (binding_ids (b + 1) ss) in
    whole ∙ ap (λ n. one_if (c == b) + n) rest ∙ split c b (length ss)
  where
    split : (c b n : ℕ) → one_if (c == b) + one_if (nat_le (b + 1) c && nat_lt c (b + 1 + n)) ≡ one_if (nat_le b c && nat_lt c (b + suc n))
    split c b n = grind (arith, nat_tests)

times_none : (m : ModuleId) (b : ℕ) (ss : List ModuleState) → ((c : ℕ) → same_module m (Binding c) ≡ false) → times m (binding_ids b ss) ≡ 0
times_none m b [] h = refl
times_none m b (s ∷ ss) h =
    let here : one_if (same_module m (Binding b)) ≡ 0 = ap one_if (h b) in
    omega (arith, count_by-cons (λ x. same_module m x) (Binding b) (binding_ids (b + 1) ss), here, times_none m (b + 1) ss h)

-- the positions below the bindings
abbrev low : List ℕ → List (List ModuleId)
low order = map (λ f. one (Filter f)) order ++ one Miniport ∷ []

times_one : (m x : ModuleId) → times m (x ∷ []) ≡ one_if (same_module m x)
times_one m x = let whole = count_by-cons (λ y. same_module m y) x [] in omega (arith, whole)

-- a filter is at its place of the order
times_filter : (f j : ℕ) (order : List ℕ) → IsDistinct order → times (Filter f) (slice_index_or (low order) j []) ≡ one_if (is_in f order && (above f order == j))
times_filter f zero [] d = times_one (Filter f) Miniport
times_filter f (suc j) [] d = refl
times_filter f zero (g ∷ gs) d = times_one (Filter f) (Filter g) ∙ here f g (is_in f gs) (above f gs)
  where
    here : (f g : ℕ) (b : Bool) (n : ℕ) → one_if (f == g) ≡ one_if ((g == f || b) && (cond (g == f) 0 (n + 1) == 0))
    here f g b n = grind (arith, nat_tests)
times_filter f (suc j) (g ∷ gs) d =
    let rest : times (Filter f) (slice_index_or (low gs) j []) ≡ one_if (is_in f gs && (above f gs == j)) = times_filter f j gs d.1 in
    let cases : (b : Bool) → (g == f) ≡ b → one_if (is_in f gs && (above f gs == j)) ≡ one_if ((b || is_in f gs) && (cond b 0 (above f gs + 1) == suc j)) = elim [
      | true ↦ λ t. let same : g ≡ f = is_equal g f t in let out : is_in f gs ≡ false = ap (λ x. is_in x gs) (sym same) ∙ d.0 in here (is_in f gs) (above f gs == j) out j
      | false ↦ λ t. ap (λ c. one_if (is_in f gs && c)) (later (above f gs) j)
    ] in
    rest ∙ cases (g == f) refl
  where
    is_equal : (n m : ℕ) → (n == m) ≡ true → n ≡ m
    is_equal n m e = grind (arith, nat_tests)

    later : (n j : ℕ) → (n == j) ≡ (n + 1 == suc j)
    later n j = grind (arith, nat_tests)

    here : (b c : Bool) → b ≡ false → (j : ℕ) → one_if (b && c) ≡ one_if ((true || b) && (0 == suc j))
    here b c e j = grind (arith, nat_tests)

times_miniport : (j : ℕ) (order : List ℕ) → times Miniport (slice_index_or (low order) j []) ≡ one_if (length order == j)
times_miniport zero [] = times_one Miniport Miniport
times_miniport (suc j) [] = ap one_if (none j)
  where
    none : (j : ℕ) → false ≡ (0 == suc j)
    none j = grind (arith, nat_tests)
times_miniport zero (g ∷ gs) = times_one Miniport (Filter g) ∙ ap one_if (last (length gs))
  where
    last : (n : ℕ) → false ≡ (suc n == 0)
    last n = grind (arith, nat_tests)
times_miniport (suc j) (g ∷ gs) = times_miniport j gs ∙ ap one_if (later (length gs) j)
  where
    later : (n j : ℕ) → (n == j) ≡ (suc n == suc j)
    later n j = grind (arith, nat_tests)

times_low : (b j : ℕ) (order : List ℕ) → times (Binding b) (slice_index_or (low order) j []) ≡ 0
times_low b zero [] = times_one (Binding b) Miniport
times_low b (suc j) [] = refl
times_low b zero (g ∷ gs) = times_one (Binding b) (Filter g)
times_low b (suc j) (g ∷ gs) = times_low b j gs

-- each module of the configuration is once at its position, and at no other
times_at : (net : Net) (m : ModuleId) (i : ℕ) → IsDistinct net.modules.order → IsThere net m → times m (modules_at net i) ≡ one_if (position net.modules.order m == i)
times_at net Miniport zero d t = times_none Miniport 0 net.modules.bindings (λ c. refl) ∙ ap one_if (last (length net.modules.order))
  where
    last : (n : ℕ) → false ≡ (n + 1 == 0)
    last n = grind (arith, nat_tests)
times_at net (Filter f) zero d t = times_none (Filter f) 0 net.modules.bindings (λ c. refl) ∙ ap one_if (last (above f net.modules.order))
  where
    last : (n : ℕ) → false ≡ (n + 1 == 0)
    last n = grind (arith, nat_tests)
times_at net (Binding b) zero d t = times_binding b 0 net.modules.bindings ∙ ap one_if (few b (length net.modules.bindings) t)
  where
    few : (b n : ℕ) → b < n → (nat_le 0 b && nat_lt b (0 + n)) ≡ (0 == 0)
    few b n t = grind (arith, nat_tests)
times_at net Miniport (suc j) d t = times_miniport j net.modules.order ∙ ap one_if (later (length net.modules.order) j)
  where
    later : (n j : ℕ) → (n == j) ≡ (n + 1 == suc j)
    later n j = grind (arith, nat_tests)
times_at net (Filter f) (suc j) d t =
    times_filter f j net.modules.order d ∙ ap (λ b. one_if (b && (above f net.modules.order == j))) t ∙ ap one_if (later (above f net.modules.order) j)
  where
    later : (n j : ℕ) → (n == j) ≡ (n + 1 == suc j)
    later n j = grind (arith, nat_tests)
times_at net (Binding b) (suc j) d t = times_low b j net.modules.order ∙ ap one_if (last j)
  where
    last : (j : ℕ) → false ≡ (0 == suc j)
    last j = grind (arith, nat_tests)

-- a list counts once at the front: by its owner, by its keeper or on its way
abbrev keeps_at : Stand → List ModuleId → ℕ
keeps_at s ms = count_by (λ m. is_kept_by m s) ms

none_keeps : (s : Stand) (ms : List ModuleId) → ((m : ModuleId) → is_kept_by m s ≡ false) → keeps_at s ms ≡ 0
none_keeps s [] h = refl
none_keeps s (m ∷ ms) h =
    let here : one_if (is_kept_by m s) ≡ 0 = ap one_if (h m) in
    omega (arith, count_by-cons (λ x. is_kept_by x s) m ms, here, none_keeps s ms h)

some_at : (a p : ℕ) → Some a ≡ Some p → a ≡ p
some_at a p e = cc

-- a list stands at the front or below it
stands_low : (ms : Modules) (front p : ℕ) (l : LiveList) (s : Stand) → IsClear ms front l → StandsFrom ms front l s → position_in ms.order l.last s ≡ Some p → front ≤ p
stands_low ms front p l stand.Unplaced c s e = absurd (cc)
stands_low ms front p l (stand.Kept m) c s e = omega (arith, s.1, some_at (position ms.order m) p e)
stands_low ms front p l (stand.Passed way.Down to) c s e = omega (arith, s.1, c.owner, some_at (position_of_target ms.order to) p e)
stands_low ms front p l (stand.Passed (way.Done status) to) c s e = omega (arith, c.down s.0, c.owner, some_at (position ms.order l.last) p e)
stands_low ms front p l (stand.Passed way.Up to) c s e = omega (arith, s.1.0, some_at (position ms.order l.last) p e)
stands_low ms front p l (stand.Passed (way.Back status) to) c s e = omega (arith, s.1, some_at (position_of_target ms.order to) p e)

module _ (net : Net) (front : ℕ) (d : IsDistinct net.modules.order) where
  abbrev ms : Modules
  ms = net.modules

  abbrev at : List ModuleId
  at = modules_at net front

  abbrev IsAt : LiveList → Stand → Type 0
  IsAt l s = one_if ((position ms.order l.owner == front) || is_at_most front (position_in ms.order l.last s)) ≡ one_if (position ms.order l.owner == front) + (keeps_at s at + one_if (is_passed s && counts_away ms front l.owner s))

  -- a list on its way, whose position is p
  away_at : (owner p : ℕ) → front ≤ p → one_if ((owner == front) || nat_le p front) ≡ one_if (owner == front) + (0 + one_if (not (owner == front) && (p == front)))
  away_at owner p a = grind (arith, nat_tests)

  kept_at : (owner p : ℕ) → front ≤ p → (p ≡ owner → ⊥) → one_if ((owner == front) || nat_le p front) ≡ one_if (owner == front) + (one_if (p == front) + 0)
  kept_at owner p a e = grind (arith, nat_tests)

  unplaced_at : (owner : ℕ) → one_if ((owner == front) || false) ≡ one_if (owner == front) + (0 + 0)
  unplaced_at owner = grind (arith, nat_tests)

  passed_at : (l : LiveList) (s : Stand) (o w : Option ℕ) → (front_of : (p : ℕ) → o ≡ Some p → front ≤ p) → (o ≡ None → ⊥) → o ≡ w → one_if ((position ms.order l.owner == front) || is_at_most front o) ≡ one_if (position ms.order l.owner == front) + (0 + one_if (not (position ms.order l.owner == front) && same_number w (Some front)))
  passed_at l s None w f n e = absurd (n refl)
  passed_at l s (Some p) w f n e =
      subst (λ v. one_if ((position ms.order l.owner == front) || nat_le p front) ≡ one_if (position ms.order l.owner == front) + (0 + one_if (not (position ms.order l.owner == front) && same_number v (Some front)))) e
      (away_at (position ms.order l.owner) p (f p refl))

  passed_some : (last : ModuleId) (s : Stand) → is_passed s ≡ true → position_in ms.order last s ≡ None → ⊥
  passed_some last stand.Unplaced p e = cc
  passed_some last (stand.Kept m) p e = cc
  passed_some last (stand.Passed way.Down to) p e = cc
  passed_some last (stand.Passed (way.Done status) to) p e = cc
  passed_some last (stand.Passed way.Up to) p e = cc
  passed_some last (stand.Passed (way.Back status) to) p e = cc

  stand_at : (l : LiveList) (s : Stand) → l.stand ≡ s → IsSound net l → IsClear ms front l → IsAt l s
  stand_at l stand.Unplaced e h c =
      subst (λ n. one_if ((position ms.order l.owner == front) || false) ≡ one_if (position ms.order l.owner == front) + (n + 0)) (sym (none_keeps stand.Unplaced at (λ m. refl))) (unplaced_at (position ms.order l.owner))
  stand_at l (stand.Kept k) e h c =
      let may = kept_fits ms l k e h.0 in
      let once : times k at ≡ one_if (position ms.order k == front) = times_at net k front d (keep_there net (is_down l.direction) l.owner k may) in
      let clear : StandsFrom ms front l (stand.Kept k) = subst (StandsFrom ms front l) e c.stands in
      subst (λ n. one_if ((position ms.order l.owner == front) || nat_le (position ms.order k) front) ≡ one_if (position ms.order l.owner == front) + (n + 0)) (sym once)
      (kept_at (position ms.order l.owner) (position ms.order k) clear.1 ((apart_of net l h).apart k e))
  stand_at l (stand.Passed w to) e h c =
      let s : Stand = stand.Passed w to in
      let clear : StandsFrom ms front l s = subst (StandsFrom ms front l) e c.stands in
      let fits : Fits ms (is_down l.direction) l.owner l.last s = subst (Fits ms (is_down l.direction) l.owner l.last) e h.0 in
      subst (λ n. one_if ((position ms.order l.owner == front) || is_at_most front (position_in ms.order l.last s)) ≡ one_if (position ms.order l.owner == front) + (n + one_if (counts_away ms front l.owner s))) (sym (none_keeps s at (λ m. refl)))
      (passed_at l s (position_in ms.order l.last s) (way_position ms s) (λ p f. stands_low ms front p l s c clear f) (passed_some l.last s refl) (told_at ms d l s fits refl))

  -- the lists one by one
  abbrev both : List LiveList → ModuleId → ℕ
  both ls m = count_by (λ l. same_module l.owner m) ls + count_by (λ l. is_kept_by m l.stand) ls

  abbrev away : LiveList → Bool
  away l = is_passed l.stand && counts_away ms front l.owner l.stand

  sum_none : (ks : List ModuleId) → sum_by (both []) ks ≡ 0
  sum_none [] = refl
  sum_none (m ∷ ks) = let whole = sum_by-cons (both []) m ks in omega (arith, whole, sum_none ks)

  sum_more : (l : LiveList) (ls : List LiveList) (ks : List ModuleId) → sum_by (both (l ∷ ls)) ks ≡ times l.owner ks + (keeps_at l.stand ks + sum_by (both ls) ks)
  sum_more l ls [] = refl
  sum_more l ls (m ∷ ks) =
      let whole = sum_by-cons (both (l ∷ ls)) m ks in
      let less = sum_by-cons (both ls) m ks in
      let owns = count_by-cons (λ x. same_module x.owner m) l ls in
      let holds = count_by-cons (λ x. is_kept_by m x.stand) l ls in
      let first = count_by-cons (λ x. same_module l.owner x) m ks in
      let second = count_by-cons (λ x. is_kept_by x l.stand) m ks in
      omega (arith, whole, less, owns, holds, first, second, sum_more l ls ks)

  abbrev IsOne : LiveList → Type 0
  IsOne l = (times l.owner at ≡ one_if (position ms.order l.owner == front)) × IsAt l l.stand

  sum_all : (ls : List LiveList) → Each IsOne ls → count_by (is_counted_at ms.order front) ls ≡ sum_by (both ls) at + count_by away ls
  sum_all [] h = let none = sum_none at in omega (arith, none)
  sum_all (l ∷ ls) h =
      let whole = count_by-cons (is_counted_at ms.order front) l ls in
      let more = sum_more l ls at in
      let passed = count_by-cons away l ls in
      omega (arith, whole, more, passed, h.0.0, h.0.1, sum_all ls h.1)

-- the same sums
sum_same : (f g : ModuleId → ℕ) (ks : List ModuleId) → ((m : ModuleId) → f m ≡ g m) → sum_by f ks ≡ sum_by g ks
sum_same f g [] e = refl
sum_same f g (m ∷ ks) e =
    let left = sum_by-cons f m ks in
    let right = sum_by-cons g m ks in
    omega (arith, left, right, e m, sum_same f g ks e)

length_filter : (p : LiveList → Bool) (ls : List LiveList) → length (filter p ls) ≡ count_by p ls
length_filter p [] = refl
length_filter p (l ∷ ls) =
    let whole = count_by-cons p l ls in
    let rest = length_filter p ls in
    let cases : (b : Bool) → p l ≡ b → length (cond b (l ∷ filter p ls) (filter p ls)) ≡ count_by p (l ∷ ls) = elim [
      | true ↦ λ t. let here : one_if (p l) ≡ 1 = ap one_if t in omega (arith, whole, rest, here)
      | false ↦ λ t. let here : one_if (p l) ≡ 0 = ap one_if t in omega (arith, whole, rest, here)
    ] in
    cases (p l) refl

agenda_lists : (ms : Modules) (i : ℕ) (ts : List Thing) → count_by (is_counted_away ms i) (filter is_away ts) ≡ count_by (λ l. is_passed l.stand && counts_away ms i l.owner l.stand) (lists ts)
agenda_lists ms i [] = refl
agenda_lists ms i (thing.Status s ∷ ts) = let whole = count_by-cons (is_counted_away ms i) (thing.Status s) (filter is_away ts) in omega (arith, whole, agenda_lists ms i ts)
agenda_lists ms i (thing.Answer a ∷ ts) = let whole = count_by-cons (is_counted_away ms i) (thing.Answer a) (filter is_away ts) in omega (arith, whole, agenda_lists ms i ts)
agenda_lists ms i (thing.List l ∷ ts) =
    let rest = agenda_lists ms i ts in
    let whole = count_by-cons (is_counted_away ms i) (thing.List l) (filter is_away ts) in
    let right = count_by-cons (λ x. is_passed x.stand && counts_away ms i x.owner x.stand) l (lists ts) in
    let cases : (b : Bool) → is_passed l.stand ≡ b → count_by (is_counted_away ms i) (cond b (thing.List l ∷ filter is_away ts) (filter is_away ts)) ≡ count_by (λ x. is_passed x.stand && counts_away ms i x.owner x.stand) (l ∷ lists ts) = elim [
      | true ↦ λ t. let here : one_if (is_passed l.stand && counts_away ms i l.owner l.stand) ≡ one_if (counts_away ms i l.owner l.stand) = ap (λ b. one_if (b && counts_away ms i l.owner l.stand)) t in omega (arith, whole, right, rest, here)
      | false ↦ λ t. let here : one_if (is_passed l.stand && counts_away ms i l.owner l.stand) ≡ 0 = ap (λ b. one_if (b && counts_away ms i l.owner l.stand)) t in omega (arith, right, rest, here)
    ] in
    cases (is_passed l.stand) refl

-- the law
front_in_hand : (net : Net) (front : ℕ) → IsDistinct net.modules.order → Each (λ l. IsSound net l × IsClear net.modules front l) (lists net.things) → outstanding net front ≡ in_hand_at net front
front_in_hand net front d h =
    let all = sum_all net front d (lists net.things)
    (Each-implies (λ l. IsSound net l × IsClear net.modules front l) (IsOne net front d) (λ l k. (times_at net l.owner front d k.0.1, stand_at net front d l l.stand refl k.0 k.1)) (lists net.things) h) in
    let modules = sum_same (in_module net) (both net front d (lists net.things)) (modules_at net front) (λ m. ap (λ n. owned net m + n) (length_filter (λ l. is_kept_by m l.stand) (lists net.things))) in
    let queue = agenda_lists net.modules front net.things in
    omega (arith, all, modules, queue)

pub each_is_in_hand : EachIsInHand
each_is_in_hand head turns s bound e =
    let net : Net = seen head turns in
    let held : IsHeld net = held_journal head turns s in
    let f = at_phase net phase.Pausing held.shape e in
    let front : ℕ = held.shape.front in
    let here : first_unpaused net ≡ front = first_unpaused_is net (length net.head.bindings) front (front + 1) f.1.some f.1.within f.1.states in
    let law : outstanding net front ≡ in_hand_at net front = front_in_hand net front (distinct_of net held.shape)
    (Each-implies (λ l. look net l.list.0 ≡ Some l) (λ l. IsSound net l × IsClear net.modules front l)
    (λ l k. (right_journal head bound turns s l.list.0 l k, Each-found (IsClear net.modules front) l.list.0 (lists net.things) l held.clear.each k)) (lists net.things) (all_found (lists net.things) held.clear.apart)) in
    subst (λ i. outstanding net i ≡ in_hand_at net i) (sym here) law
