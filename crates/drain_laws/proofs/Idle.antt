-- Where a drain is idle while the stack doesn't run, and no list has crossed, no list is live: the youngest list
-- would be ready, and its keeper would give it away.
use Rattle.std.proofs.Common.{◌≡◌, ℕ, ◌+◌, ◌≤◌, ◌==◌, ◌||◌, not, Bool, true, false, cond, List, [], ◌∷◌, ◌++◌, Option, Some, None, refl, arith, ap, sym, ◌∙◌, ◌⊎◌, inl, inr, find, filter, map, is_some, length, nat_le}
use Rattle.std.specs.List.{list_any}
use Rattle.std.proofs.lemmas.Bool.Decides.{nat_tests}
use Rattle.ndis_base.specs.declared.ListStatus.TheVariants.{Paused}
use Rattle.ndis_base.specs.declared.ModuleId.{ModuleId}
use Rattle.ndis_base.specs.declared.ModuleId.TheVariants.{Miniport, Filter, Binding}
use Rattle.ndis_base.specs.declared.Origin.{Origin}
use Rattle.ndis_base.specs.declared.Origin.TheVariants as origin
use Rattle.ndis_base.specs.declared.Phase.TheVariants as phase
use Rattle.journal_types.specs.declared.Event.{Event}
use Rattle.journal_types.specs.declared.Event.TheVariants as event
use Rattle.journal_types.specs.declared.Reply.{Reply}
use Rattle.journal_types.specs.declared.Reply.TheVariants as reply
use Rattle.journal_types.specs.declared.Row.{Row}
use Rattle.journal_types.specs.declared.StackHead.{StackHead}
use Rattle.journal_types.specs.declared.Turn.{Turn}
use Rattle.stack_rules.specs.declared.LiveList.{LiveList}
use Rattle.stack_rules.specs.declared.Stand.{Stand}
use Rattle.stack_rules.specs.declared.Stand.TheVariants as stand
use Rattle.stack_rules.specs.declared.Thing.{Thing}
use Rattle.stack_rules.specs.declared.Thing.TheVariants as thing
use Rattle.stack_rules.specs.Tests.{is_retain, is_virtual, phase_is_halted, phase_is_paused, phase_is_running}
use Rattle.stack_rules.specs.Heads.{binding_numbers, kind_of_binding}
use Rattle.stack_rules.specs.Net.{Net, after_rows, lists, seen}
use Rattle.stack_rules.specs.Places.{agenda_first, has_clone, is_away, is_clone_of, is_crossed, is_kept_by, is_passed, ready_lists, is_waiting}
use Rattle.stack_rules.specs.Sends.{first_of, transmitted}
use Rattle.stack_rules.specs.Targets.{turned_back}
use Rattle.stack_rules.specs.Cancels.{is_hold_filter}
use Rattle.stack_rules.specs.Rewires.{is_in}
use Rattle.stack_rules.specs.Requests.{Giving, next_giving}
use Rattle.stack_rules.specs.Pumps.{pump_of, is_pump_moving, pump_outcome, request_pump}
use Rattle.stack_rules.specs.Drains.{returned_by, returns_all, passed_by, passes_all, empties, empties_ring, first_rows, drain_rows, drained, drain_outcome}
use Rattle.stack_rules.specs.Sound.{outcome, Next, Sound}
use Rattle.stack_rules.specs.Work.{work}
use Rattle.rule_basics.specs.Live.{Each}
use Rattle.home_laws.specs.Standing.{IsYounger}
use Rattle.home_laws.proofs.Known.{by_test}
use Rattle.home_laws.proofs.Standing.{lists_stand}
use Rattle.place_laws.specs.Kept.{StandsPlaced, IsPlaced, IsInPlace}
use Rattle.work_laws.specs.InPlace.{EachInPlace}
use Rattle.work_laws.proofs.Drains.{Each-both, drain_lowers, loops_running}
use Rattle.drain_laws.specs.Resting.{Rests, IsResting}
use Rattle.drain_laws.specs.Drains.{NoneCrossed, IdleIsEmpty, IdleWhereDone}
use Rattle.drain_laws.proofs.Reached.{some_binding}
use Rattle.drain_laws.proofs.Bounded.{MovesOrIdles, drain_moves, is_still, still_runs, in_place}
use Rattle.drain_laws.proofs.Rests.{lists_rest}
use Rattle.drain_laws.proofs.Served.{requests_served}
use Rattle.drain_laws.proofs.Done.{no_things, no_requests, nothing_left}
use Rattle.drain_laws.proofs.Tests.{none_or, not_both, or_none, same_self}

-- the modules that a drain empties while the stack doesn't run
abbrev Gives : Net → ModuleId → Type 0
Gives net Miniport = Unit {0}
Gives net (Filter f) = (is_in f net.modules.order ≡ true) × (is_hold_filter net.modules f ≡ true)
Gives net (Binding b) = (is_in b (binding_numbers net.head) ≡ true) × (is_retain (kind_of_binding net.head b) ≡ true)

-- rows of several modules are none where those of each are none
abbrev AllNone : List (List Row) → Type 0
AllNone [] = Unit {0}
AllNone (rows ∷ others) = (rows ≡ []) × AllNone others

all_none : (all : List (List Row)) → first_rows all ≡ [] → AllNone all
all_none [] e = tt
all_none ([] ∷ others) e = (refl, all_none others e)
all_none ((r ∷ rows) ∷ others) e = cc

none_front : (all others : List (List Row)) → AllNone (all ++ others) → AllNone all
none_front [] others h = tt
none_front (rows ∷ all) others h = (h.0, none_front all others h.1)

none_back : (all others : List (List Row)) → AllNone (all ++ others) → AllNone others
none_back [] others h = h
none_back (rows ∷ all) others h = none_back all others h.1

none_at : (f : ℕ → List Row) (n : ℕ) (ns : List ℕ) → AllNone (map f ns) → is_in n ns ≡ true → f n ≡ []
none_at f n [] h i = cc
none_at f n (k ∷ ns) h i = cases (k == n) refl (λ j. none_at f n ns h.1 j) i
  where
    cases : (b : Bool) → (k == n) ≡ b → (is_in n ns ≡ true → f n ≡ []) → (b || is_in n ns) ≡ true → f n ≡ []
    cases true t rest i = let same : k ≡ n = grind (arith, nat_tests) in ap f (sym same) ∙ h.0
    cases false t rest i = rest i

map_none : (f : LiveList → Row) (ls : List LiveList) → map f ls ≡ [] → ls ≡ []
map_none f [] e = refl
map_none f (l ∷ ls) e = cc

-- a choice that is none
chosen : (b : Bool) (rows : List Row) → b ≡ true → cond b rows [] ≡ [] → rows ≡ []
chosen true rows t e = e
chosen false rows t e = cc

empties_none : (net : Net) (ls : List LiveList) → phase_is_running net.phase ≡ false → empties net (first_of ls) ≡ [] → ls ≡ []
empties_none net [] p e = refl
empties_none net (l ∷ ls) p e =
    by_test (λ rows. rows ≡ [] → (l ∷ ls) ≡ []) (is_virtual net.head.kind) (cond (phase_is_running net.phase) [] (turned_back net.modules l Miniport Paused)) (transmitted net l)
    (λ _. by_test (λ rows. rows ≡ [] → (l ∷ ls) ≡ []) (phase_is_running net.phase) [] (turned_back net.modules l Miniport Paused) (λ t. absurd (not_both (phase_is_running net.phase) t p)) (λ _ f. cc))
    (λ _ f. cc) e

-- where the rows of a drain are none, no such module keeps a ready list
none_ready : (net : Net) → phase_is_running net.phase ≡ false → drain_rows net ≡ [] → (m : ModuleId) → Gives net m → ready_lists net m ≡ []
none_ready net p e = by (all_none (map (returns_all net) (binding_numbers net.head) ++ (map (passes_all net) net.modules.order ++ empties_ring net ∷ [])) e)
  where
    by : AllNone (map (returns_all net) (binding_numbers net.head) ++ (map (passes_all net) net.modules.order ++ empties_ring net ∷ [])) → (m : ModuleId) → Gives net m → ready_lists net m ≡ []
    by h Miniport g =
        let last = none_back (map (passes_all net) net.modules.order) (empties_ring net ∷ []) (none_back (map (returns_all net) (binding_numbers net.head)) _ h) in
        empties_none net (ready_lists net Miniport) p last.0
    by h (Filter f) g =
        let mid = none_front (map (passes_all net) net.modules.order) (empties_ring net ∷ []) (none_back (map (returns_all net) (binding_numbers net.head)) _ h) in
        map_none (passed_by net f) (ready_lists net (Filter f)) (chosen (is_hold_filter net.modules f) (map (passed_by net f) (ready_lists net (Filter f))) g.1 (none_at (passes_all net) f net.modules.order mid g.0))
    by h (Binding b) g =
        let first = none_front (map (returns_all net) (binding_numbers net.head)) _ h in
        map_none (returned_by net) (ready_lists net (Binding b)) (chosen (is_retain (kind_of_binding net.head b)) (map (returned_by net) (ready_lists net (Binding b))) g.1 (none_at (returns_all net) b (binding_numbers net.head) first g.0))

-- so each list that such a module keeps waits
abbrev KeptWaits : Net → LiveList → Type 0
KeptWaits net l = (m : ModuleId) → Gives net m → is_kept_by m l.stand ≡ true → is_waiting net l ≡ true

kept_wait : (net : Net) (ls : List LiveList) → ((m : ModuleId) → Gives net m → filter (λ l. not (is_waiting net l)) (filter (λ l. is_kept_by m l.stand) ls) ≡ []) → Each (KeptWaits net) ls
kept_wait net [] f = tt
kept_wait net (l ∷ ls) f = (λ m g k. here (is_kept_by m l.stand) (is_waiting net l) (filter (λ x. is_kept_by m x.stand) ls) k (f m g), kept_wait net ls (λ m g. rest (is_kept_by m l.stand) (filter (λ x. is_kept_by m x.stand) ls) (f m g)))
  where
    here : (b c : Bool) (xs : List LiveList) → b ≡ true → filter (λ x. not (is_waiting net x)) (cond b (l ∷ xs) xs) ≡ [] → is_waiting net l ≡ true
    here true c xs k e = on (is_waiting net l) e
      where
        on : (w : Bool) → cond (not w) (l ∷ filter (λ x. not (is_waiting net x)) xs) (filter (λ x. not (is_waiting net x)) xs) ≡ [] → w ≡ true
        on true e = refl
        on false e = cc
    here false c xs k e = cc

    tail : (w : Bool) (xs : List LiveList) → cond (not w) (l ∷ xs) xs ≡ [] → xs ≡ []
    tail true xs e = e
    tail false xs e = cc

    rest : (b : Bool) (xs : List LiveList) → filter (λ x. not (is_waiting net x)) (cond b (l ∷ xs) xs) ≡ [] → filter (λ x. not (is_waiting net x)) xs ≡ []
    rest true xs e = tail (is_waiting net l) (filter (λ x. not (is_waiting net x)) xs) e
    rest false xs e = e

-- the youngest list
youngest : (P : LiveList → Type 0) (ls : List LiveList) → Each P ls → (ls ≡ []) ⊎ ((l : LiveList) × P l × Each (λ k. k.list.0 ≤ l.list.0) ls)
youngest P [] h = inl refl
youngest P (x ∷ ls) h = inr (by (youngest P ls h.1))
  where
    up : (a b : ℕ) → a ≤ b → (xs : List LiveList) → Each (λ k. k.list.0 ≤ a) xs → Each (λ k. k.list.0 ≤ b) xs
    up a b l [] h = tt
    up a b l (y ∷ xs) h = let first = h.0 in (omega (arith, l, first), up a b l xs h.1)

    least : (xs : List LiveList) → xs ≡ [] → Each (λ k. k.list.0 ≤ x.list.0) xs
    least [] e = tt
    least (y ∷ xs) e = cc

    by : (ls ≡ []) ⊎ ((l : LiveList) × P l × Each (λ k. k.list.0 ≤ l.list.0) ls) → (l : LiveList) × P l × Each (λ k. k.list.0 ≤ l.list.0) (x ∷ ls)
    by (inl e) = (x, h.0, (omega arith, least ls e))
    by (inr t) =
        let cases : (b : Bool) → nat_le x.list.0 t.0.list.0 ≡ b → (l : LiveList) × P l × Each (λ k. k.list.0 ≤ l.list.0) (x ∷ ls) = elim [
          | true ↦ λ e. (t.0, t.1, (grind (arith, nat_tests), t.2))
          | false ↦ λ e. (x, h.0, (omega arith, up t.0.list.0 x.list.0 (grind (arith, nat_tests)) ls t.2))
        ] in
        cases (nat_le x.list.0 t.0.list.0) refl

-- it has no clone
no_clones : (n : ℕ) (ls : List LiveList) → Each (λ l. l.list.0 ≤ n) ls → Each (λ l. IsYounger l.list.0 l.origin) ls → list_any (λ l. is_clone_of n l.origin) ls ≡ false
no_clones n [] h y = refl
no_clones n (x ∷ ls) h y = none_or (is_clone_of n x.origin) _ (not_of x.origin h.0 y.0) (no_clones n ls h.1 y.1)
  where
    not_of : (by : Origin) → x.list.0 ≤ n → IsYounger x.list.0 by → is_clone_of n by ≡ false
    not_of origin.Root a y = refl
    not_of (origin.Copy o) a y = refl
    not_of (origin.Clone o) a y = grind (arith, nat_tests)

-- nothing is on its way
none_away : (ts : List Thing) → is_some (find is_away ts) ≡ false → Each (λ l. is_passed l.stand ≡ false) (lists ts)
none_away [] e = tt
none_away (thing.List l ∷ ts) e =
    let cases : (b : Bool) → is_passed l.stand ≡ b → is_some (cond b (Some (thing.List l)) (find is_away ts)) ≡ false → (b ≡ false) × Each (λ l. is_passed l.stand ≡ false) (lists ts) = elim [
      | true ↦ λ t f. absurd (cc)
      | false ↦ λ t f. (refl, none_away ts f)
    ] in
    let both = cases (is_passed l.stand) refl e in
    (both.0, both.1)
none_away (thing.Status s ∷ ts) e = cc
none_away (thing.Answer a ∷ ts) e = cc

-- what is known of each list
record IsStuck (net : Net) (l : LiveList) : Type 0 where
  rests : IsResting net l
  placed : StandsPlaced net.modules l l.stand
  free : is_crossed l.crossed ≡ false
  away : is_passed l.stand ≡ false
  waits : KeptWaits net l

stuck : (net : Net) (l : LiveList) → IsStuck net l → has_clone net l.list.0 ≡ false → ⊥
stuck net l h none = by l.stand refl h.rests h.placed h.away
  where
    kept : (m : ModuleId) → l.stand ≡ stand.Kept m → Gives net m → ⊥
    kept m e g = not_both (is_waiting net l) (h.waits m g (ap (is_kept_by m) e ∙ same_self m)) (none_or (is_crossed l.crossed) (has_clone net l.list.0) h.free none)

    by : (s : Stand) → l.stand ≡ s → Rests net (has_clone net l.list.0) s → StandsPlaced net.modules l s → is_passed s ≡ false → ⊥
    by stand.Unplaced e r p a = r
    by (stand.Passed way to) e r p a = cc
    by (stand.Kept Miniport) e r p a = kept Miniport e tt
    by (stand.Kept (Filter f)) e (inl holds) p a = kept (Filter f) e (p, holds)
    by (stand.Kept (Filter f)) e (inr cloned) p a = not_both (has_clone net l.list.0) cloned none
    by (stand.Kept (Binding b)) e r p a = kept (Binding b) e r

-- an idle drain
request_moved : (net : Net) (o : Option Giving) → is_some o ≡ true → (request_pump net o).reply ≡ reply.Moved
request_moved net None e = cc
request_moved net (Some g) e = refl

pump_moved : (net : Net) (keeps : Bool) (o : Option Thing) → (is_some o || is_some (next_giving net)) ≡ true → (pump_of net keeps o).reply ≡ reply.Moved
pump_moved net keeps None e = request_moved net (next_giving net) e
pump_moved net keeps (Some t) e = refl

drained_idle : (rows : List Row) → (drained rows).reply ≡ reply.Idle → rows ≡ []
drained_idle [] e = refl
drained_idle (r ∷ rows) e = cc

pub idle_drain : (net : Net) (keeps : Bool) → (drain_outcome net keeps).reply ≡ reply.Idle → (is_pump_moving net ≡ false) × (drain_rows net ≡ [])
idle_drain net keeps =
    by_test (λ o. o.reply ≡ reply.Idle → (is_pump_moving net ≡ false) × (drain_rows net ≡ [])) (is_pump_moving net) (pump_outcome net keeps) (drained (drain_rows net))
    (λ t e. absurd (clash _ (pump_moved net keeps (agenda_first net) t) e))
    (λ f e. (f, drained_idle (drain_rows net) e))
  where
    clash : (r : Reply) → r ≡ reply.Moved → r ≡ reply.Idle → ⊥
    clash r a b = cc

pub idle_empty : (net : Net) → phase_is_running net.phase ≡ false → IsInPlace net → Each (IsResting net) (lists net.things) → Each (λ l. IsYounger l.list.0 l.origin) (lists net.things) → NoneCrossed net → is_pump_moving net ≡ false → drain_rows net ≡ [] → lists net.things ≡ []
idle_empty net p h rests young free idle none = by (youngest (IsStuck net) (lists net.things) all)
  where
    all : Each (IsStuck net) (lists net.things)
    all =
        Each-both (λ l. IsResting net l × IsPlaced net l) (λ l. (is_crossed l.crossed ≡ false) × (is_passed l.stand ≡ false) × KeptWaits net l) (IsStuck net)
        (λ l a b. record { rests = a.0; placed = a.1.stands; free = b.0; away = b.1; waits = b.2 }) (lists net.things)
        (Each-both (IsResting net) (IsPlaced net) (λ l. IsResting net l × IsPlaced net l) (λ l a b. (a, b)) (lists net.things) rests h.placed)
        (Each-both (λ l. is_crossed l.crossed ≡ false) (λ l. (is_passed l.stand ≡ false) × KeptWaits net l) (λ l. (is_crossed l.crossed ≡ false) × (is_passed l.stand ≡ false) × KeptWaits net l) (λ l a b. (a, b.0, b.1)) (lists net.things) free
        (Each-both (λ l. is_passed l.stand ≡ false) (KeptWaits net) (λ l. (is_passed l.stand ≡ false) × KeptWaits net l) (λ l a b. (a, b)) (lists net.things)
        (none_away net.things (or_none (is_some (agenda_first net)) (is_some (next_giving net)) idle).0)
        (kept_wait net (lists net.things) (none_ready net p none))))

    by : (lists net.things ≡ []) ⊎ ((l : LiveList) × IsStuck net l × Each (λ k. k.list.0 ≤ l.list.0) (lists net.things)) → lists net.things ≡ []
    by (inl e) = e
    by (inr t) = absurd (stuck net t.0 t.1 (no_clones t.0.list.0 (lists net.things) t.2 young))

-- the reply of a drain
pub drain_reply : (net : Net) (turn : Turn) (n : Next net turn) → turn.event ≡ event.Drain → turn.reply ≡ (drain_outcome net n.choice.keeps).reply
drain_reply net turn n e = n.reply ∙ ap (λ (e : Event). (outcome net e n.choice).reply) e

pub idle_is_empty : EachInPlace → IdleIsEmpty
idle_is_empty each head turns turn s n p free e i =
    let net : Net = seen head turns in
    let some : 1 ≤ length head.bindings = some_binding head turns s p in
    let still : is_still net.phase ≡ true = ap is_still p in
    let place : IsInPlace net = in_place each head net some (record { turns = turns; sound = s; is = refl }) still in
    let idle = idle_drain net n.choice.keeps (sym (drain_reply net turn n e) ∙ i) in
    let away = or_none (is_some (agenda_first net)) (is_some (next_giving net)) idle.0 in
    let gone : lists net.things ≡ [] = idle_empty net (still_runs net.phase still) place (lists_rest head turns s) (lists_stand head turns s).younger free idle.0 idle.1 in
    let none : net.things ≡ [] = no_things net.things away.0 gone in
    (none, no_requests net (ap phase_is_paused p) (ap phase_is_halted p) none away.1 (requests_served head turns s) place.apart place.asked)

idle_work : EachInPlace → (head : StackHead) (turns : List Turn) (turn : Turn) → Sound head turns → (n : Next (seen head turns) turn) → 1 ≤ length head.bindings → (seen head turns).phase ≡ phase.Pausing → turn.event ≡ event.Drain → work (seen head turns) ≡ 0 → turn.reply ≡ reply.Idle
idle_work each head turns turn s n some p e z = by (drain_moves (seen head turns) n.choice.keeps)
  where
    by : MovesOrIdles (drain_outcome (seen head turns) n.choice.keeps) → turn.reply ≡ reply.Idle
    by (inr i) = drain_reply (seen head turns) turn n e ∙ i.0
    by (inl m) =
        let net : Net = seen head turns in
        let still : is_still net.phase ≡ true = ap is_still p in
        let place : IsInPlace net = in_place each head net some (record { turns = turns; sound = s; is = refl }) still in
        let less : work (after_rows net (drain_outcome net n.choice.keeps).rows) + 1 ≤ work net = drain_lowers net n.choice.keeps place (inr (loops_running net (still_runs net.phase still))) m in
        absurd (omega (arith, less, z))

pub idle_where_done : EachInPlace → IdleWhereDone
idle_where_done each head turns turn s n p free e =
    (λ i. let gone = idle_is_empty each head turns turn s n p free e i in nothing_left (seen head turns) gone.0 gone.1, λ z. idle_work each head turns turn s n (some_binding head turns s p) p e z)
