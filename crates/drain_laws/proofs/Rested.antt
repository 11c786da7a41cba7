-- Each event that changes no state of a module leaves the live lists resting.
use Rattle.std.proofs.Common.{◌≡◌, ℕ, ◌+◌, ◌==◌, ◌&&◌, ◌||◌, not, Bool, true, false, cond, List, [], ◌∷◌, ◌++◌, Option, Some, None, refl, arith, ap, sym, subst, ◌∙◌, inl, inr, filter, find, map}
use Rattle.std.specs.List.{flat_map}
use Rattle.std.proofs.lemmas.Bool.Decides.{nat_tests}
use Rattle.std.proofs.lemmas.List.Folds.{list_any-append}
use Rattle.ndis_base.specs.declared.ListNo.{ListNo}
use Rattle.ndis_base.specs.declared.ListStatus.{ListStatus}
use Rattle.ndis_base.specs.declared.ListStatus.TheVariants.{Success, Paused, Dropped, Resources, Aborted}
use Rattle.ndis_base.specs.declared.Direction.TheVariants as direction
use Rattle.ndis_base.specs.declared.ModuleId.{ModuleId}
use Rattle.ndis_base.specs.declared.ModuleId.TheVariants.{Miniport, Filter, Binding}
use Rattle.ndis_base.specs.declared.ModuleState.{ModuleState}
use Rattle.ndis_base.specs.declared.Origin.{Origin}
use Rattle.ndis_base.specs.declared.Origin.TheVariants as origin
use Rattle.ndis_base.specs.declared.StatusName.{StatusName}
use Rattle.ndis_base.specs.declared.StatusNo.{StatusNo}
use Rattle.journal_types.specs.declared.Handler.TheVariants as handler
use Rattle.journal_types.specs.declared.How.{How}
use Rattle.journal_types.specs.declared.How.TheVariants as how
use Rattle.journal_types.specs.declared.PassWay.TheVariants as way
use Rattle.journal_types.specs.declared.Target.{Target}
use Rattle.journal_types.specs.declared.Target.TheVariants.{Module, Bindings}
use Rattle.journal_types.specs.declared.Row.{Row}
use Rattle.journal_types.specs.declared.Row.TheVariants as row
use Rattle.stack_rules.specs.declared.Attached.{Attached}
use Rattle.stack_rules.specs.declared.LiveList.{LiveList}
use Rattle.stack_rules.specs.declared.Stand.{Stand}
use Rattle.stack_rules.specs.declared.Stand.TheVariants as stand
use Rattle.stack_rules.specs.declared.Thing.{Thing}
use Rattle.stack_rules.specs.declared.Thing.TheVariants as thing
use Rattle.stack_rules.specs.Tests.{is_hold, is_retain, is_running, is_virtual, phase_is_running, same_frames, same_module}
use Rattle.stack_rules.specs.Heads.{binding_numbers, kind_of_binding}
use Rattle.stack_rules.specs.Net.{Net, after, after_rows, attached, lists, list_of}
use Rattle.stack_rules.specs.Places.{position, has_clone, is_clone_of, is_away, agenda_first, is_full, ready_lists}
use Rattle.stack_rules.specs.Targets.{homeward}
use Rattle.stack_rules.specs.Outcome.{Outcome, list_no, config_no}
use Rattle.stack_rules.specs.Handled.{made_of, cloned, stays, handled_as, given_by, filter_rows}
use Rattle.stack_rules.specs.Sends.{ring_is_full, at_filter, down_rows, loops, transmitted, first_of}
use Rattle.stack_rules.specs.Deliveries.{takers, echoes, echoed, how_for, delivered, last_of, settled, delivery_rows}
use Rattle.stack_rules.specs.Receives.{up_at_filter, up_rows}
use Rattle.stack_rules.specs.Dones.{released_list, released, homeward_rows, completed_by}
use Rattle.stack_rules.specs.Requests.{Giving, next_giving, giving_rows, given_rows_by, answer_rows}
use Rattle.stack_rules.specs.Statuses.{seen_by_all, status_rows}
use Rattle.stack_rules.specs.Pumps.{moved_rows, thing_rows, request_pump, pump_of, pump_outcome, is_pump_moving}
use Rattle.stack_rules.specs.Drains.{returned_by, returns_all, passed_by, passes_all, empties, empties_ring, drain_rows, drained, drain_outcome}
use Rattle.stack_rules.specs.Cancels.{is_hold_filter, hold_in, cancelled_at, aborted, cancel_rows_at, queues}
use Rattle.stack_rules.specs.Rewires.{is_in}
use Rattle.rule_basics.specs.Live.{Each, is_live}
use Rattle.rule_basics.proofs.Lists.{lists-append, lists-without}
use Rattle.rule_basics.proofs.Lives.{find_is, find_none, is_live-others}
use Rattle.home_laws.proofs.Known.{by_test, thing_found, OfThing}
use Rattle.state_laws.proofs.Rows.{after_rows-append}
use Rattle.state_laws.proofs.Calm.{All-append, All-map, first_of_all}
use Rattle.state_laws.proofs.Takes.{attached-is}
use Rattle.work_laws.proofs.Clones.{any_clone}
use Rattle.work_laws.proofs.Hands.{Found}
use Rattle.work_laws.proofs.Pumps.{all_found}
use Rattle.drain_laws.proofs.Resting.{Fine, Rest, none, only, closes_none, closes_only, issue_rest, keep_rest, home_rest, is_plain_row, plain_rest, onward_rest, homeward_rest, issue_on, KeepsRest, back_rest}
use Rattle.drain_laws.proofs.Tests.{and_last, itself, or_left, or_none, or_right}

-- the rows of an event leave all lists resting
abbrev pub Leaves : Net → Net → List Row → Type 0
Leaves net next rows = Rest net none (after_rows next rows)

-- at a filter
module _ (net : Net) (a : Attached) (l : LiveList) (there : attached a.filter net.modules.filters ≡ Some a) (given : Net) (e : given.next.list ≡ net.next.list) (h : Rest net none given) where
  stays_rest : (keeps : Bool) → Leaves net given (stays net a l keeps)
  stays_rest keeps =
      by_test (Leaves net given) (keeps && is_hold a.kind) _ _
      (λ t. keep_rest net given none none l.list (Filter a.filter) (closes_none l.list.0) (inl (ap hold_in there ∙ and_last keeps (is_hold a.kind) t)) h)
      (λ _. onward_rest net given none none net.modules l.list l.direction (position net.modules.order (Filter a.filter)) (closes_none l.list.0) h)

  cloned_rest : (frames : List (List ℕ)) → Leaves net given (cloned net a l frames)
  cloned_rest frames =
      let n : ListNo = list_no net.next.list in
      let issue : Row = row.Issue n (Filter a.filter) (config_no net.modules.config) l.direction l.cancel (origin.Clone l.list) frames in
      let issued : Net = after given issue in
      let first : Rest net (only net.next.list) issued =
      issue_rest net given none (only net.next.list) n (Filter a.filter) (config_no net.modules.config) l.direction l.cancel (origin.Clone l.list) frames (sym e) (itself net.next.list, λ k o. cc) h in
      let has : has_clone issued l.list.0 ≡ true =
      ap (any_clone l.list.0) (lists-append given.things _)
      ∙ list_any-append (λ (x : LiveList). is_clone_of l.list.0 x.origin) (lists given.things) _
      ∙ or_right (any_clone l.list.0 (lists given.things)) _ (or_left (l.list.0 == l.list.0) false (itself l.list.0)) in
      let kept : Rest net (only net.next.list) (after issued (row.Keep l.list (Filter a.filter))) =
      keep_rest net issued (only net.next.list) (only net.next.list) l.list (Filter a.filter) (λ k o t. o) (inr has) first in
      onward_rest net (after issued (row.Keep l.list (Filter a.filter))) (only net.next.list) none net.modules n l.direction (position net.modules.order (Filter a.filter)) (closes_only net.next.list) kept

  handled_rest : (keeps : Bool) (made : Option (List (List ℕ))) → Leaves net given (handled_as net a l keeps made)
  handled_rest keeps None = back_rest net given net.modules l (Filter a.filter) Dropped h
  handled_rest keeps (Some frames) =
      by_test (Leaves net given) (same_frames frames l.frames) _ _ (λ _. stays_rest keeps)
      (λ _. by_test (Leaves net given) (is_full net (Filter a.filter)) _ _ (λ _. back_rest net given net.modules l (Filter a.filter) Resources h) (λ _. cloned_rest frames))

module _ (net : Net) (h : Rest net none net) where
  filter_rest : (a : Attached) (l : LiveList) (keeps : Bool) → attached a.filter net.modules.filters ≡ Some a → Leaves net net (filter_rows net a l keeps)
  filter_rest a l keeps there =
      let give : Row = row.Give l.list (Filter a.filter) (given_by l.direction) in
      handled_rest net a l there (after net give) refl (plain_rest net net none give refl h) keeps (made_of net a l)

  its_own : (f : ℕ) (a : Attached) → attached f net.modules.filters ≡ Some a → attached a.filter net.modules.filters ≡ Some a
  its_own f a e = ap (λ n. attached n net.modules.filters) (attached-is f net.modules.filters a e) ∙ e

  -- on the way down and up
  at_rest : (f : ℕ) (o : Option Attached) → attached f net.modules.filters ≡ o → (l : LiveList) (keeps : Bool) → Leaves net net (at_filter net o l keeps)
  at_rest f None e l keeps = h
  at_rest f (Some a) e l keeps = filter_rest a l keeps (its_own f a e)

  down_rest : (l : LiveList) (m : ModuleId) (keeps : Bool) → Leaves net net (down_rows net l m keeps)
  down_rest l Miniport keeps =
      let give : Row = row.Give l.list Miniport handler.Send in
      let given : Net = after net give in
      let first : Rest net none given = plain_rest net net none give refl h in
      by_test (Leaves net given) (ring_is_full net) _ _ (λ _. back_rest net given net.modules l Miniport Resources first) (λ _. keep_rest net given none none l.list Miniport (closes_none l.list.0) tt first)
  down_rest l (Filter f) keeps = at_rest f (attached f net.modules.filters) refl l keeps
  down_rest l (Binding b) keeps = h

  up_at_rest : (f : ℕ) (o : Option Attached) → attached f net.modules.filters ≡ o → (l : LiveList) (keeps : Bool) → Leaves net net (up_at_filter net o l keeps)
  up_at_rest f None e l keeps = h
  up_at_rest f (Some a) e l keeps =
      by_test (Leaves net net) (is_running a.state) _ _ (λ _. filter_rest a l keeps (its_own f a e)) (λ _. back_rest net net net.modules l (Filter a.filter) Paused h)

-- a list is delivered, with what holds all the while
pub delivered_rest : (net : Net) (I : Net → Type 0) (J : Net → Type 0) (list : ListNo) (frames : List (List ℕ)) (own : How) (rest : List Row) →
    ((next : Net) (b : ℕ) (how : How) → I next → I (after next (row.Deliver list b how frames))) →
    ((next : Net) (b n : ℕ) → n ≡ next.next.list → I next → I (after_rows next (echoed net n b frames))) →
    ((next : Net) → I next → J (after_rows next rest)) →
    (n : ℕ) (bs : List ℕ) (next : Net) → n ≡ next.next.list → I next → J (after_rows next (delivered net list frames own n bs ++ rest))
delivered_rest net I J list frames own rest d e r n [] next i h = r next h
delivered_rest net I J list frames own rest d e r n (b ∷ bs) next i h =
    let told : Net = after next (row.Deliver list b (how_for own bs) frames) in
    let first : I told = d next b (how_for own bs) h in
    by_test (λ rows. J (after_rows told (rows ++ rest))) (echoes net b) _ _
    (λ _. delivered_rest net I J list frames own rest d e r (n + 1) bs (after_rows told (echoed net n b frames)) (ap (λ k. k + 1) i) (e told b n i first))
    (λ _. delivered_rest net I J list frames own rest d e r n bs told i first)

pub echo_rest : (net next : Net) (loose : ℕ → Bool) (b n : ℕ) (frames : List (List ℕ)) → n ≡ next.next.list → Rest net loose next → Rest net loose (after_rows next (echoed net n b frames))
echo_rest net next loose b n frames e h = issue_on net next loose net.modules (list_no n) (Binding b) (config_no net.modules.config) direction.Down None origin.Root frames 0 e h

last_in : (b : ℕ) (bs : List ℕ) → last_of bs ≡ Some b → is_in b bs ≡ true
last_in b [] e = cc
last_in b (c ∷ []) e = let same : c ≡ b = cc in or_left (c == b) false (grind (arith, nat_tests))
last_in b (c ∷ d ∷ bs) e = or_right (c == b) (is_in b (d ∷ bs)) (last_in b (d ∷ bs) e)

some_in : (b : ℕ) (test : ℕ → Bool) (bs : List ℕ) → is_in b (filter test bs) ≡ true → is_in b bs ≡ true
some_in b test [] e = cc
some_in b test (c ∷ bs) e =
    let cases : (t : Bool) → is_in b (cond t (c ∷ filter test bs) (filter test bs)) ≡ true → ((c == b) || is_in b bs) ≡ true = elim [
      | true ↦ λ i. either (c == b) (is_in b (filter test bs)) (is_in b bs) (some_in b test bs) i
      | false ↦ λ i. or_right (c == b) (is_in b bs) (some_in b test bs i)
    ] in
    cases (test c) e
  where
    either : (x y z : Bool) → (y ≡ true → z ≡ true) → (x || y) ≡ true → (x || z) ≡ true
    either true y z f i = refl
    either false y z f i = f i

settled_rest : (net next : Net) (l : LiveList) (keeps : Bool) (o : Option ℕ) → last_of (takers net l.frames) ≡ o → Rest net none next → Leaves net next (settled net l keeps o)
settled_rest net next l keeps None e h = homeward_rest net next none none net.modules l.list l.owner l.direction 0 Success (closes_none l.list.0) h
settled_rest net next l keeps (Some b) e h =
    by_test (Leaves net next) (keeps && is_retain (kind_of_binding net.head b)) _ _
    (λ t. keep_rest net next none none l.list (Binding b) (closes_none l.list.0)
    (some_in b _ (binding_numbers net.head) (last_in b (takers net l.frames) e), and_last keeps (is_retain (kind_of_binding net.head b)) t) h)
    (λ _. homeward_rest net next none none net.modules l.list l.owner l.direction 0 Success (closes_none l.list.0) h)

delivery_rest : (net : Net) (l : LiveList) (keeps : Bool) → Rest net none net → Leaves net net (delivery_rows net l keeps)
delivery_rest net l keeps h =
    delivered_rest net (Rest net none) (Rest net none) l.list l.frames how.Own (settled net l keeps (last_of (takers net l.frames)))
    (λ next b how r. plain_rest net next none (row.Deliver l.list b how l.frames) refl r)
    (λ next b n e r. echo_rest net next none b n l.frames e r)
    (λ next r. settled_rest net next l keeps (last_of (takers net l.frames)) refl r)
    net.next.list (takers net l.frames) net refl h

up_rest : (net : Net) (l : LiveList) (to : Target) (keeps : Bool) → Rest net none net → Leaves net net (up_rows net l to keeps)
up_rest net l (Module (Filter f)) keeps h = up_at_rest net h f (attached f net.modules.filters) refl l keeps
up_rest net l Bindings keeps h =
    by_test (Leaves net net) (phase_is_running net.phase) _ _ (λ _. delivery_rest net l keeps h) (λ _. back_rest net net net.modules l (Binding 0) Paused h)
up_rest net l (Module Miniport) keeps h = h
up_rest net l (Module (Binding b)) keeps h = h

-- a list on its way home
no_more : (net next : Net) (n : ℕ) → list_of n (lists next.things) ≡ None → Rest net (only n) next → Rest net none next
no_more net next n f h = record { numbered = h.numbered; each = each_of (lists next.things) (find_none n (lists next.things) f) h.each; free = h.free }
  where
    closed : (l : LiveList) → (l.list.0 == n) ≡ false → Fine net (only n) (has_clone next) l → Fine net none (has_clone next) l
    closed l e (inl o) = cc
    closed l e (inr r) = inr r

    each_of : (ls : List LiveList) → is_live n ls ≡ false → Each (Fine net (only n) (has_clone next)) ls → Each (Fine net none (has_clone next)) ls
    each_of [] e k = tt
    each_of (x ∷ ls) e k = let s = or_none (x.list.0 == n) (is_live n ls) e in (closed x s.0 k.0, each_of ls s.1 k.1)

module _ (net : Net) (l : LiveList) (status : ListStatus) (found : Found net l) (h : Rest net none net) where
  released_rest : (o : ListNo) (x : Option LiveList) → list_of o.0 (lists net.things) ≡ x → Rest net (only o.0) (after net (row.Home l.list l.owner status)) → Leaves net (after net (row.Home l.list l.owner status)) (released_list net l.owner status x)
  released_rest o None e r = no_more net (after net (row.Home l.list l.owner status)) o.0 (absent (list_of o.0 (lists (after net (row.Home l.list l.owner status)).things)) refl) r
    where
      dead : (a b : Bool) → b ≡ false → (a && b) ≡ false
      dead true b e = e
      dead false b e = refl

      none_live : is_live o.0 (lists (after net (row.Home l.list l.owner status)).things) ≡ false
      none_live =
          ap (is_live o.0) (lists-without l.list.0 net.things) ∙ is_live-others o.0 l.list.0 (lists net.things) ∙ dead (not (l.list.0 == o.0)) (is_live o.0 (lists net.things)) (find_none o.0 (lists net.things) e)

      absent : (x : Option LiveList) → list_of o.0 (lists (after net (row.Home l.list l.owner status)).things) ≡ x → x ≡ None
      absent None f = refl
      absent (Some k) f = let live = (find_is o.0 (lists (after net (row.Home l.list l.owner status)).things) k f).1 in cc (live, none_live)
  released_rest o (Some k) e r =
      homeward_rest net (after net (row.Home l.list l.owner status)) (only o.0) none net.modules k.list k.owner k.direction (position net.modules.order l.owner) status
      (λ n t u. absurd (clash n o.0 k.list.0 (find_is o.0 (lists net.things) k e).0 t u)) r
    where
      clash : (n m k : ℕ) → k ≡ m → (n == m) ≡ true → (n == k) ≡ false → ⊥
      clash n m k e t u = grind (arith, nat_tests)

  home_rows_rest : (by : Origin) → l.origin ≡ by → Leaves net net (row.Home l.list l.owner status ∷ released net l.owner by status)
  home_rows_rest origin.Root e = home_rest net net none none l l.owner status found (closes_none l.list.0) (λ o f. absurd (cc)) h
  home_rows_rest (origin.Copy c) e = home_rest net net none none l l.owner status found (closes_none l.list.0) (λ o f. absurd (cc)) h
  home_rows_rest (origin.Clone o) e =
      released_rest o (list_of o.0 (lists net.things)) refl
      (home_rest net net none (only o.0) l l.owner status found (λ n t u. cc) (λ p f. same o p (sym e ∙ f)) h)
    where
      same : (o p : ListNo) → origin.Clone o ≡ origin.Clone p → (p.0 == o.0) ≡ true
      same o p g = let one : o ≡ p = cc in let number : p.0 ≡ o.0 = ap (λ (q : ListNo). q.0) (sym one) in grind (arith, nat_tests)

  homeward_rows_rest : (m : ModuleId) → Leaves net net (homeward_rows net l m status)
  homeward_rows_rest m =
      by_test (Leaves net net) (same_module m l.owner) _ _
      (λ _. home_rows_rest l.origin refl)
      (λ _. homeward_rest net (after net (row.Give l.list m (completed_by l.direction))) none none net.modules l.list l.owner l.direction (position net.modules.order m) status (closes_none l.list.0)
      (plain_rest net net none (row.Give l.list m (completed_by l.direction)) refl h))

-- a pump
moved_rest : (net : Net) (l : LiveList) (s : Stand) (keeps : Bool) → Found net l → Rest net none net → Leaves net net (moved_rows net l s keeps)
moved_rest net l stand.Unplaced keeps f h = h
moved_rest net l (stand.Kept m) keeps f h = h
moved_rest net l (stand.Passed way.Down (Module m)) keeps f h = down_rest net h l m keeps
moved_rest net l (stand.Passed way.Down Bindings) keeps f h = h
moved_rest net l (stand.Passed way.Up to) keeps f h = up_rest net l to keeps h
moved_rest net l (stand.Passed (way.Done status) (Module m)) keeps f h = homeward_rows_rest net l status f h m
moved_rest net l (stand.Passed (way.Done status) Bindings) keeps f h = h
moved_rest net l (stand.Passed (way.Back status) (Module m)) keeps f h = homeward_rows_rest net l status f h m
moved_rest net l (stand.Passed (way.Back status) Bindings) keeps f h = h

abbrev ArePlain : List Row → Type 0
ArePlain [] = Unit {0}
ArePlain (r ∷ rows) = (is_plain_row r ≡ true) × ArePlain rows

plain_rows : (net next : Net) (rows : List Row) → ArePlain rows → Rest net none next → Leaves net next rows
plain_rows net next [] p h = h
plain_rows net next (r ∷ rows) p h = plain_rows net (after next r) rows p.1 (plain_rest net next none r p.0 h)

plain_seen : (number : StatusNo) (b : ℕ) (ss : List ModuleState) → ArePlain (seen_by_all number b ss)
plain_seen number b [] = tt
plain_seen number b (s ∷ ss) = (refl, plain_seen number (b + 1) ss)

plain_status : (net : Net) (number : StatusNo) (name : StatusName) (to : Target) → ArePlain (status_rows net number name to)
plain_status net number name (Module m) = (refl, (refl, tt))
plain_status net number name Bindings = plain_seen number 0 net.modules.bindings

plain_given : (net : Net) (g : Giving) (m : ModuleId) → ArePlain (given_rows_by net g.request m)
plain_given net g Miniport = (refl, tt)
plain_given net g (Filter f) = (refl, tt)
plain_given net g (Binding b) = tt

thing_rest : (net : Net) (t : Thing) (keeps : Bool) → OfThing (Found net) t → Rest net none net → Leaves net net (thing_rows net t keeps)
thing_rest net (thing.List l) keeps f h = moved_rest net l l.stand keeps f h
thing_rest net (thing.Status s) keeps f h = plain_rows net net _ (plain_status net s.number s.name s.to) h
thing_rest net (thing.Answer a) keeps f h = plain_rows net net (answer_rows a.parent a.status a.value) (refl, tt) h

request_rest : (net : Net) (o : Option Giving) → Rest net none net → Leaves net net (request_pump net o).rows
request_rest net None h = h
request_rest net (Some g) h = plain_rows net net (giving_rows net g) (refl, plain_given net g g.module_id) h

pump_of_rest : (net : Net) (keeps : Bool) (o : Option Thing) → find is_away net.things ≡ o → Rest net none net → Leaves net net (pump_of net keeps o).rows
pump_of_rest net keeps None e h = request_rest net (next_giving net) h
pump_of_rest net keeps (Some t) e h = thing_rest net t keeps (thing_found (Found net) is_away net.things t (all_found net h.numbered.apart) e) h

pub pump_rest : (net : Net) (keeps : Bool) → Rest net none net → Leaves net net (pump_outcome net keeps).rows
pump_rest net keeps h = pump_of_rest net keeps (agenda_first net) refl h

-- a drain
keeps_map : (net : Net) (pass : LiveList → Row) → ((l : LiveList) (next : Net) → Rest net none next → Rest net none (after next (pass l))) → (ls : List LiveList) → KeepsRest net (map pass ls)
keeps_map net pass f [] next h = h
keeps_map net pass f (l ∷ ls) next h = keeps_map net pass f ls (after next (pass l)) (f l next h)

keeps_flat : {X : Type 0} (net : Net) (rows : X → List Row) → ((x : X) → KeepsRest net (rows x)) → (xs : List X) → KeepsRest net (flat_map rows xs)
keeps_flat net rows f [] next h = h
keeps_flat net rows f (x ∷ xs) next h = subst (Rest net none) (sym (after_rows-append next (rows x) (flat_map rows xs))) (keeps_flat net rows f xs (after_rows next (rows x)) (f x next h))

module _ (net : Net) (h : Rest net none net) where
  returns_rest : (b : ℕ) → Leaves net net (returns_all net b)
  returns_rest b =
      by_test (Leaves net net) (is_retain (kind_of_binding net.head b)) _ _
      (λ _. keeps_map net (returned_by net) (λ l next r. homeward_rest net next none none net.modules l.list l.owner l.direction 0 Success (closes_none l.list.0) r) (ready_lists net (Binding b)) net h)
      (λ _. h)

  passes_rest : (f : ℕ) → Leaves net net (passes_all net f)
  passes_rest f =
      by_test (Leaves net net) (is_hold_filter net.modules f) _ _
      (λ _. keeps_map net (passed_by net f) (λ l next r. onward_rest net next none none net.modules l.list l.direction (position net.modules.order (Filter f)) (closes_none l.list.0) r) (ready_lists net (Filter f)) net h)
      (λ _. h)

  pub transmitted_rest : (l : LiveList) → Leaves net net (transmitted net l)
  transmitted_rest l =
      let wired : Net = after net (row.Wire l.list l.frames) in
      let first : Rest net none wired = plain_rest net net none (row.Wire l.list l.frames) refl h in
      let last : (next : Net) → Rest net none next → Rest net none (after next (homeward net.modules l (position net.modules.order Miniport) Success)) =
      λ next r. homeward_rest net next none none net.modules l.list l.owner l.direction (position net.modules.order Miniport) Success (closes_none l.list.0) r in
      by_test (λ rows. Rest net none (after_rows wired (rows ++ homeward net.modules l (position net.modules.order Miniport) Success ∷ []))) (loops net) _ _
      (λ _. last _ (issue_on net wired none net.modules (list_no net.next.list) Miniport (config_no net.modules.config) direction.Up None origin.Root l.frames (position net.modules.order Miniport) refl first))
      (λ _. last wired first)

  empties_rest : (o : Option LiveList) → Leaves net net (empties net o)
  empties_rest None = h
  empties_rest (Some l) =
      by_test (Leaves net net) (is_virtual net.head.kind) _ _
      (λ _. by_test (Leaves net net) (phase_is_running net.phase) _ _ (λ _. h) (λ _. back_rest net net net.modules l Miniport Paused h))
      (λ _. transmitted_rest l)

  drain_rows_rest : Leaves net net (drain_rows net)
  drain_rows_rest =
      first_of_all (Leaves net net) h (map (returns_all net) (binding_numbers net.head) ++ (map (passes_all net) net.modules.order ++ empties_ring net ∷ []))
      (All-append (Leaves net net) (map (returns_all net) (binding_numbers net.head)) _ (All-map (Leaves net net) (returns_all net) (binding_numbers net.head) returns_rest)
      (All-append (Leaves net net) (map (passes_all net) net.modules.order) _ (All-map (Leaves net net) (passes_all net) net.modules.order passes_rest) (empties_rest (first_of (ready_lists net Miniport)), tt)))

  drained_rest : (rows : List Row) → Leaves net net rows → Leaves net net (drained rows).rows
  drained_rest [] r = r
  drained_rest (x ∷ rows) r = r

  pub drain_rest : (keeps : Bool) → Leaves net net (drain_outcome net keeps).rows
  drain_rest keeps =
      by_test (λ (o : Outcome). Leaves net net o.rows) (is_pump_moving net) _ _ (λ _. pump_rest net keeps h) (λ _. drained_rest (drain_rows net) drain_rows_rest)

  -- a cancel
  pub cancel_rest : (id : ℕ) → Leaves net net (flat_map (cancel_rows_at net id) (queues net.modules))
  cancel_rest id =
      keeps_flat net (cancel_rows_at net id) (λ m. keeps_flat net (aborted net m) (λ l next r. back_rest net next net.modules l m Aborted r) (cancelled_at net id m)) (queues net.modules) net h
