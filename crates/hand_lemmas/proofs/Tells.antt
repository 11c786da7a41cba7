-- What the hands tell of the state, and what is left in hand as a list is taken from where it is.
use Rattle.std.proofs.Common.{◌≡◌, ℕ, ◌+◌, ◌==◌, not, Bool, true, false, cond, List, [], ◌∷◌, ◌++◌, Some, None, map, filter, find, length, count_by, refl, sym, ap, ◌∙◌, subst, All, arith, eq-eqb}
use Rattle.std.proofs.lemmas.Bool.{cond-false}
use Rattle.std.proofs.lemmas.List.{length-map}
use Rattle.std.proofs.lemmas.List.Sums.{length-filter}
use Rattle.std.proofs.lemmas.List.Elements.{All-head, All-tail}
use Rattle.ndis_base.specs.declared.ModuleId.{ModuleId}
use Rattle.buffer_pools.specs.Views.{ListView, PoolView, live_count}
use Rattle.journal_types.specs.declared.PassWay.{PassWay}
use Rattle.journal_types.specs.declared.Target.{Target}
use Rattle.stack_rules.specs.declared.Stand.{Stand}
use Rattle.stack_rules.specs.declared.Stand.TheVariants as stand
use Rattle.stack_rules.specs.declared.LiveList.{LiveList}
use Rattle.stack_rules.specs.declared.StatusAway.{StatusAway}
use Rattle.stack_rules.specs.declared.Answered.{Answered}
use Rattle.stack_rules.specs.declared.Thing.{Thing}
use Rattle.stack_rules.specs.declared.Thing.TheVariants as thing
use Rattle.stack_rules.specs.Net.{Net, lists, list_of, without}
use Rattle.stack_rules.specs.Places.{is_away, is_passed, is_kept_by, agenda, agenda_first, kept_lists, pool_of, is_full, owned}
use Rattle.rule_basics.specs.Live.{IsApart, others}
use Rattle.rule_basics.proofs.Lists.{lists-without}
use Rattle.rule_basics.proofs.Counts.{one_if, count_by-others}
use Rattle.agenda_items.specs.declared.Carried.{Carried}
use Rattle.hand_lemmas.specs.Hands.{Common, in_hand, in_state, carried, seen, is_loose, Hands, IsHoused, IsCarriedHome, Agrees, IsMine, out, carries, taken}
use Rattle.agenda_items.specs.declared.Carried.TheVariants.{List as a_list, Status as a_status, Answer as an_answer}
use Rattle.hand_lemmas.specs.Hands.Seen.{see_list, see_status, see_answer}
use Rattle.hand_lemmas.proofs.Shows.{placed, shows_taken, passed_not_loose, passed_not_kept}
use Rattle.hand_lemmas.proofs.Rows.{shows_of}
use Rattle.hand_lemmas.proofs.Finds.{filter_whole, first_live, placed_live, count_things}

-- What is first in the queue is first on the agenda.

-- the first on both sides
record IsFirst (ts : List Thing) (c : Carried) : Type 0 where
  pub t : Thing
  pub rest : List Thing
  pub is : ts ≡ t ∷ rest
  pub same : seen t ≡ carried c

first_in : (ts : List Thing) (c : Carried) (queue : List Carried) → map carried (c ∷ queue) ≡ map seen ts → IsFirst ts c
first_in [] c queue e = cc
first_in (t ∷ ts) c queue e = let same : seen t ≡ carried c = cc in record { t = t; rest = ts; is = refl; same = same }

find_more : {X : Type 0} (p : X → Bool) (y : X) (ys : List X) (x : X) (rest : List X) (b : Bool)
    → cond b (y ∷ filter p ys) (filter p ys) ≡ x ∷ rest → (filter p ys ≡ x ∷ rest → find p ys ≡ Some x) → cond b (Some y) (find p ys) ≡ Some x
find_more p y ys x rest true e more = cc
find_more p y ys x rest false e more = more e

pub find_first : {X : Type 0} (p : X → Bool) (xs : List X) (x : X) (rest : List X) → filter p xs ≡ x ∷ rest → find p xs ≡ Some x
find_first p [] x rest e = cc
find_first p (y ∷ ys) x rest e = find_more p y ys x rest (p y) e (find_first p ys x rest)

find_no_more : {X : Type 0} (p : X → Bool) (y : X) (ys : List X) (b : Bool)
    → cond b (y ∷ filter p ys) (filter p ys) ≡ [] → (filter p ys ≡ [] → find p ys ≡ None) → cond b (Some y) (find p ys) ≡ None
find_no_more p y ys true e more = cc
find_no_more p y ys false e more = more e

pub find_none : {X : Type 0} (p : X → Bool) (xs : List X) → filter p xs ≡ [] → find p xs ≡ None
find_none p [] e = refl
find_none p (y ∷ ys) e = find_no_more p y ys (p y) e (find_none p ys)

none_in : (ts : List Thing) → map carried [] ≡ map seen ts → ts ≡ []
none_in [] e = refl
none_in (t ∷ ts) e = cc

pub none_away : (net : Net) (h : Hands) → Agrees net h → h.queue ≡ [] → agenda_first net ≡ None
none_away net h a none = find_none is_away net.things (none_in (agenda net) (ap (map carried) (sym none) ∙ a.queue_is))

-- a list in front: it is on its way, the first of all things, and live by its number
pub record IsNext (net : Net) (h : Hands) (l : ListView) (way : PassWay) (to : Target) : Type 0 where
  pub x : LiveList
  pub rest : List Thing
  pub first : agenda_first net ≡ Some (thing.List x)
  pub agenda_is : agenda net ≡ thing.List x ∷ rest
  pub stand : x.stand ≡ stand.Passed way to
  pub passed : is_passed x.stand ≡ true
  pub mine : IsMine net h l
  pub is : mine.x ≡ x

list_seen : (t : Thing) (l : ListView) (s : Stand) → seen t ≡ see_list (in_hand l) s → (x : LiveList) × (t ≡ thing.List x) × (in_state x ≡ in_hand l) × (x.stand ≡ s)
list_seen (thing.List x) l s e = let same : in_state x ≡ in_hand l = cc in let at : x.stand ≡ s = cc in (x, refl, same, at)
list_seen (thing.Status t) l s e = cc
list_seen (thing.Answer a) l s e = cc

status_seen : (t : Thing) (s : StatusAway) → seen t ≡ see_status s → t ≡ thing.Status s
status_seen (thing.List x) s e = cc
status_seen (thing.Status s') s e = let same : s' ≡ s = cc in ap thing.Status same
status_seen (thing.Answer a) s e = cc

answer_seen : (t : Thing) (a : Answered) → seen t ≡ see_answer a → t ≡ thing.Answer a
answer_seen (thing.List x) a e = cc
answer_seen (thing.Status s) a e = cc
answer_seen (thing.Answer a') a e = let same : a' ≡ a = cc in ap thing.Answer same

pub next_list : (net : Net) (h : Hands) (l : ListView) (way : PassWay) (to : Target) (queue : List Carried) → Agrees net h → h.queue ≡ a_list l way to ∷ queue → IsNext net h l way to
next_list net h l way to queue a e =
    let f = first_in (agenda net) (a_list l way to) queue (ap (map carried) (sym e) ∙ a.queue_is) in
    let s = list_seen f.t l (stand.Passed way to) f.same in
    let is : agenda net ≡ thing.List s.0 ∷ f.rest = f.is ∙ ap (λ t. t ∷ f.rest) s.1 in
    let same : in_state s.0 ≡ in_hand l = s.2 in
    let number : s.0.list.0 ≡ l.label.number.0 = ap (λ (c : Common). c.list.0) same in
    let live : list_of s.0.list.0 (lists net.things) ≡ Some s.0 = first_live net.things s.0 f.rest a.numbered.apart is in
    let housed : All (IsCarriedHome h.pools) (a_list l way to ∷ queue) = subst (All (IsCarriedHome h.pools)) e a.queue_housed in
    record {
      x = s.0;
      rest = f.rest;
      first = find_first is_away net.things (thing.List s.0) f.rest is;
      agenda_is = is;
      stand = s.3;
      passed = ap is_passed s.3;
      mine = record { x = s.0; live = ap (λ n. list_of n (lists net.things)) (sym number) ∙ live; same = same; housed = All-head (IsCarriedHome h.pools) (a_list l way to) queue housed };
      is = refl;
    }

pub next_status : (net : Net) (h : Hands) (s : StatusAway) (queue : List Carried) → Agrees net h → h.queue ≡ a_status s ∷ queue → agenda_first net ≡ Some (thing.Status s)
next_status net h s queue a e =
    let f = first_in (agenda net) (a_status s) queue (ap (map carried) (sym e) ∙ a.queue_is) in
    find_first is_away net.things (thing.Status s) f.rest (f.is ∙ ap (λ t. t ∷ f.rest) (status_seen f.t s f.same))

pub next_answer : (net : Net) (h : Hands) (x : Answered) (queue : List Carried) → Agrees net h → h.queue ≡ an_answer x ∷ queue → agenda_first net ≡ Some (thing.Answer x)
next_answer net h x queue a e =
    let f = first_in (agenda net) (an_answer x) queue (ap (map carried) (sym e) ∙ a.queue_is) in
    find_first is_away net.things (thing.Answer x) f.rest (f.is ∙ ap (λ t. t ∷ f.rest) (answer_seen f.t x f.same))

-- A list anywhere among those that a module keeps is the state's list at the same place.

-- a list in hand, among those before and after it
record IsAmong (ls : List LiveList) (l : ListView) (front back : List ListView) : Type 0 where
  pub before : List LiveList
  pub x : LiveList
  pub after : List LiveList
  pub is : ls ≡ before ++ x ∷ after
  pub same : in_state x ≡ in_hand l
  pub front_is : map in_hand front ≡ map in_state before
  pub back_is : map in_hand back ≡ map in_state after

among : (front : List ListView) (l : ListView) (back : List ListView) (ls : List LiveList) → map in_hand (front ++ l ∷ back) ≡ map in_state ls → IsAmong ls l front back
among [] l back [] e = cc
among [] l back (x ∷ xs) e =
    let same : in_state x ≡ in_hand l = cc in
    let more : map in_hand back ≡ map in_state xs = cc in
    record { before = []; x = x; after = xs; is = refl; same = same; front_is = refl; back_is = more }
among (o ∷ front) l back [] e = cc
among (o ∷ front) l back (y ∷ ys) e =
    let head : in_hand o ≡ in_state y = cc in
    let more : map in_hand (front ++ l ∷ back) ≡ map in_state ys = cc in
    let r = among front l back ys more in
    record { before = y ∷ r.before; x = r.x; after = r.after; is = after_first y r.is; same = r.same; front_is = cons_same head r.front_is; back_is = r.back_is }
  where
    after_first : {X : Type 0} {us vs : List X} (y : X) → us ≡ vs → y ∷ us ≡ y ∷ vs
    after_first y e = ap (λ zs. y ∷ zs) e

    cons_same : {X : Type 0} {a b : X} {us vs : List X} → a ≡ b → us ≡ vs → a ∷ us ≡ b ∷ vs
    cons_same {X} {a} {b} {us} {vs} e f = ap (λ z. z ∷ us) e ∙ ap (λ zs. b ∷ zs) f

housed_in : (pools : ModuleId → PoolView) (front : List ListView) (l : ListView) (back : List ListView) → All (IsHoused pools) (front ++ l ∷ back) → IsHoused pools l
housed_in pools [] l back h = All-head (IsHoused pools) l back h
housed_in pools (o ∷ front) l back h = housed_in pools front l back (All-tail (IsHoused pools) o (front ++ l ∷ back) h)

-- a list that a module keeps
pub record IsKeptThere (net : Net) (h : Hands) (m : ModuleId) (l : ListView) (front back : List ListView) : Type 0 where
  pub before : List LiveList
  pub after : List LiveList
  pub mine : IsMine net h l
  pub is : kept_lists net m ≡ before ++ mine.x ∷ after
  pub front_is : map in_hand front ≡ map in_state before
  pub back_is : map in_hand back ≡ map in_state after

pub kept_there : (net : Net) (h : Hands) (m : ModuleId) (front : List ListView) (l : ListView) (back : List ListView) → Agrees net h → h.kept m ≡ front ++ l ∷ back → IsKeptThere net h m l front back
kept_there net h m front l back a e =
    let r = among front l back (kept_lists net m) (ap (map in_hand) (sym e) ∙ a.kept_is m) in
    let live : list_of r.x.list.0 (lists net.things) ≡ Some r.x = placed_live (is_kept_by m) net.things r.before r.x r.after a.numbered.apart r.is in
    let number : r.x.list.0 ≡ l.label.number.0 = ap (λ (c : Common). c.list.0) r.same in
    let housed : All (IsHoused h.pools) (front ++ l ∷ back) = subst (All (IsHoused h.pools)) e (a.kept_housed m) in
    record {
      before = r.before;
      after = r.after;
      mine = record { x = r.x; live = ap (λ n. list_of n (lists net.things)) (sym number) ∙ live; same = r.same; housed = housed_in h.pools front l back housed };
      is = r.is;
      front_is = r.front_is;
      back_is = r.back_is;
    }

-- a list that was issued in this turn
pub record IsLooseThere (net : Net) (h : Hands) (l : ListView) : Type 0 where
  pub before : List LiveList
  pub after : List LiveList
  pub mine : IsMine net h l
  pub is : placed is_loose net.things ≡ before ++ mine.x ∷ after

pub loose_there : (net : Net) (h : Hands) (front : List ListView) (l : ListView) (back : List ListView) → Agrees net h → h.loose ≡ front ++ l ∷ back → IsLooseThere net h l
loose_there net h front l back a e =
    let r = among front l back (placed is_loose net.things) (ap (map in_hand) (sym e) ∙ a.loose_is) in
    let live : list_of r.x.list.0 (lists net.things) ≡ Some r.x = placed_live is_loose net.things r.before r.x r.after a.numbered.apart r.is in
    let number : r.x.list.0 ≡ l.label.number.0 = ap (λ (c : Common). c.list.0) r.same in
    let housed : All (IsHoused h.pools) (front ++ l ∷ back) = subst (All (IsHoused h.pools)) e a.loose_housed in
    record {
      before = r.before;
      after = r.after;
      mine = record { x = r.x; live = ap (λ n. list_of n (lists net.things)) (sym number) ∙ live; same = r.same; housed = housed_in h.pools front l back housed };
      is = r.is;
    }

-- What is left in hand as a list is taken.

pub shown_length : {X Y S : Type 0} (f : X → S) (g : Y → S) (xs : List X) (ys : List Y) → map g ys ≡ map f xs → length ys ≡ length xs
shown_length f g xs ys e = sym (length-map ys g) ∙ ap length e ∙ length-map xs f

-- from where the list isn't, nothing is taken
pub out_same : (q : Stand → Bool) (n : ℕ) (ts : List Thing) (x : LiveList) (ls : List ListView) → IsApart (lists ts) → list_of n (lists ts) ≡ Some x → q x.stand ≡ false
    → map in_hand ls ≡ map in_state (placed q ts) → map in_hand (out n ls) ≡ map in_state (placed q (without n ts)) → out n ls ≡ ls
out_same q n ts x ls apart live fails before after =
    let p : LiveList → Bool = λ l. q l.stand in
    let count = count_by-others p n (lists ts) x apart live in
    let none : one_if (p x) ≡ 0 = ap one_if fails in
    let left : length (out n ls) ≡ length (placed q (without n ts)) = shown_length in_state in_hand (placed q (without n ts)) (out n ls) after in
    let all : length ls ≡ length (placed q ts) = shown_length in_state in_hand (placed q ts) ls before in
    let left_count : length (placed q (without n ts)) ≡ count_by p (others n (lists ts)) = length-filter p (lists (without n ts)) ∙ ap (count_by p) (lists-without n ts) in
    let all_count : length (placed q ts) ≡ count_by p (lists ts) = length-filter p (lists ts) in
    filter_whole (λ l. not (l.label.number.0 == n)) ls (omega (arith, count, none, left, all, left_count, all_count))

-- what is left where the first on its way is taken
pub record IsTakenFirst (h : Hands) (l : ListView) (queue : List Carried) : Type 0 where
  pub queue_is : (taken l.label.number.0 h).queue ≡ queue
  pub loose_is : out l.label.number.0 h.loose ≡ h.loose
  pub kept_is : (m : ModuleId) → out l.label.number.0 (h.kept m) ≡ h.kept m

pub taken_first : (net : Net) (h : Hands) (l : ListView) (way : PassWay) (to : Target) (queue : List Carried) → Agrees net h → h.queue ≡ a_list l way to ∷ queue → IsTakenFirst h l queue
taken_first net h l way to queue a e =
    let n : ℕ = l.label.number.0 in
    let next = next_list net h l way to queue a e in
    let x : LiveList = next.mine.x in
    let s = shows_taken n net.things h (shows_of a) in
    let stands : is_passed x.stand ≡ true = ap (λ (y : LiveList). is_passed y.stand) next.is ∙ next.passed in
    let apart : IsApart (lists net.things) = a.numbered.apart in
    let kept : Carried → Bool = λ c. not (carries n c) in
    let skipped : filter kept (a_list l way to ∷ queue) ≡ filter kept queue =
    cond-false (not (l.label.number.0 == n)) (a_list l way to ∷ filter kept queue) (filter kept queue) (ap not (eq-eqb l.label.number.0 n refl)) in
    let left : length (filter kept h.queue) ≡ length (filter is_away (without n net.things)) = shown_length seen carried (filter is_away (without n net.things)) (filter kept h.queue) s.queue_is in
    let left_is : length (filter kept h.queue) ≡ length (filter kept queue) = ap length (ap (filter kept) e ∙ skipped) in
    let all : length h.queue ≡ length (agenda net) = shown_length seen carried (agenda net) h.queue a.queue_is in
    let all_is : length h.queue ≡ length queue + 1 = ap length e ∙ one_more queue in
    let count = count_things is_away n net.things x apart next.mine.live in
    let one : one_if (is_away (thing.List x)) ≡ 1 = ap one_if stands in
    let left_count : length (filter is_away (without n net.things)) ≡ count_by is_away (without n net.things) = length-filter is_away (without n net.things) in
    let all_count : length (agenda net) ≡ count_by is_away net.things = length-filter is_away net.things in
    record {
      queue_is = ap (filter kept) e ∙ skipped ∙ filter_whole kept queue (omega (arith, left, left_is, all, all_is, count, one, left_count, all_count));
      loose_is = out_same is_loose n net.things x h.loose apart next.mine.live (passed_not_loose x.stand stands) a.loose_is s.loose_is;
      kept_is = λ m. out_same (is_kept_by m) n net.things x (h.kept m) apart next.mine.live (passed_not_kept m x.stand stands) (a.kept_is m) (s.kept_is m);
    }
  where
    one_more : (queue : List Carried) → length (a_list l way to ∷ queue) ≡ length queue + 1
    one_more queue = omega arith

-- a pool is full where its module owns as many lists as it has
pub full_is : (net : Net) (h : Hands) (m : ModuleId) → Agrees net h → pool_of net m ≡ (h.pools m).size → is_full net m ≡ (live_count (h.pools m) == (h.pools m).size)
full_is net h m a size = ap (λ n. n == pool_of net m) (sym (a.counts m)) ∙ ap (λ n. live_count (h.pools m) == n) size

-- a module owns as many lists at another moment of a turn where its pool is the same
pub owned_same : (net now : Net) (h k : Hands) (m : ModuleId) → Agrees net h → Agrees now k → h.pools m ≡ k.pools m → owned now m ≡ owned net m
owned_same net now h k m a c same = sym (c.counts m) ∙ ap live_count (sym same) ∙ a.counts m

pub full_same : (net now : Net) (h k : Hands) (m : ModuleId) → Agrees net h → Agrees now k → h.pools m ≡ k.pools m → pool_of now m ≡ pool_of net m → is_full now m ≡ is_full net m
full_same net now h k m a c same pool = ap (λ n. n == pool_of now m) (owned_same net now h k m a c same) ∙ ap (λ n. owned net m == n) pool
