-- What is in hand shows what the state has: what stays true as a list is taken out, goes to another place, is
-- issued or is home. Nothing here depends on an event.
use Rattle.std.proofs.Common.{◌≡◌, ℕ, ◌==◌, not, Bool, true, false, cond, List, [], ◌∷◌, ◌++◌, map, filter, refl, sym, ap, ◌∙◌, All}
use Rattle.std.proofs.lemmas.List.{map-append, append-nil}
use Rattle.std.proofs.lemmas.List.Elements.{All-push, All-filter}
use Rattle.ndis_base.specs.declared.ModuleId.{ModuleId}
use Rattle.buffer_pools.specs.Views.{ListView}
use Rattle.journal_types.specs.declared.PassWay.{PassWay}
use Rattle.journal_types.specs.declared.Target.{Target}
use Rattle.stack_rules.specs.declared.Stand.{Stand}
use Rattle.stack_rules.specs.declared.Stand.TheVariants as stand
use Rattle.stack_rules.specs.declared.LiveList.{LiveList}
use Rattle.stack_rules.specs.declared.StatusAway.{StatusAway}
use Rattle.stack_rules.specs.declared.Answered.{Answered}
use Rattle.stack_rules.specs.declared.Thing.{Thing}
use Rattle.stack_rules.specs.declared.Thing.TheVariants as thing
use Rattle.stack_rules.specs.Tests.{same_module}
use Rattle.stack_rules.specs.Net.{lists, without, after_change, with_list, is_list, is_status, is_answer_to}
use Rattle.stack_rules.specs.Places.{is_away, is_passed, is_kept_by}
use Rattle.rule_basics.specs.Live.{touched, retouched}
use Rattle.rule_basics.proofs.Lists.{lists-append, lists-without, lists-changed}
use Rattle.agenda_items.specs.declared.Carried.{Carried}
use Rattle.agenda_items.specs.Views.{carries_status, carries_answer}
use Rattle.hand_lemmas.specs.Hands.{Common, in_hand, in_state, Seen, carried, seen, is_loose, Hands, IsHoused, IsCarriedHome, out, carries, taken, queued, loosed, kept_at, without_status, without_answer}
use Rattle.agenda_items.specs.declared.Carried.TheVariants.{List as a_list, Status as a_status, Answer as an_answer}
use Rattle.hand_lemmas.specs.Hands.Seen.{see_list, see_status, see_answer}
use Rattle.hand_lemmas.proofs.Filters.{filters_swap, filters_match, push_yes, push_no}
use Rattle.hand_lemmas.proofs.Modules.{same_self, same_is, at_each}

-- the live lists of things that stand in one kind of place
abbrev pub placed : (Stand → Bool) → List Thing → List LiveList
placed q ts = filter (λ l. q l.stand) (lists ts)

-- what is in hand shows these things, and each list is of its owner's pool
pub record Shows (ts : List Thing) (h : Hands) : Type 0 where
  pub queue_is : map carried h.queue ≡ map seen (filter is_away ts)
  pub loose_is : map in_hand h.loose ≡ map in_state (placed is_loose ts)
  pub kept_is : (m : ModuleId) → map in_hand (h.kept m) ≡ map in_state (placed (is_kept_by m) ts)
  pub queue_housed : All (IsCarriedHome h.pools) h.queue
  pub loose_housed : All (IsHoused h.pools) h.loose
  pub kept_housed : (m : ModuleId) → All (IsHoused h.pools) (h.kept m)

-- A list is taken out.

-- a list of this number
abbrev shows_list : ℕ → Seen → Bool
shows_list n (see_list c at) = c.list.0 == n
shows_list n (see_status s) = false
shows_list n (see_answer a) = false

list_in_state : (n : ℕ) (t : Thing) → not (is_list n t) ≡ not (shows_list n (seen t))
list_in_state n (thing.List l) = refl
list_in_state n (thing.Status s) = refl
list_in_state n (thing.Answer a) = refl

list_in_hand : (n : ℕ) (c : Carried) → not (carries n c) ≡ not (shows_list n (carried c))
list_in_hand n (a_list l way to) = refl
list_in_hand n (a_status s) = refl
list_in_hand n (an_answer a) = refl

queue_taken : (n : ℕ) (ts : List Thing) (queue : List Carried) → map carried queue ≡ map seen (filter is_away ts)
    → map carried (filter (λ c. not (carries n c)) queue) ≡ map seen (filter is_away (without n ts))
queue_taken n ts queue e =
    filters_match seen carried (λ s. not (shows_list n s)) (λ t. not (is_list n t)) (λ c. not (carries n c)) (list_in_state n) (list_in_hand n) (filter is_away ts) queue e
    ∙ ap (map seen) (filters_swap (λ t. not (is_list n t)) is_away ts)

placed_taken : (q : Stand → Bool) (n : ℕ) (ts : List Thing) (ls : List ListView) → map in_hand ls ≡ map in_state (placed q ts)
    → map in_hand (out n ls) ≡ map in_state (placed q (without n ts))
placed_taken q n ts ls e =
    filters_match in_state in_hand (λ (c : Common). not (c.list.0 == n)) (λ l. not (l.list.0 == n)) (λ l. not (l.label.number.0 == n)) (λ l. refl) (λ l. refl) (placed q ts) ls e
    ∙ ap (map in_state) (filters_swap (λ l. not (l.list.0 == n)) (λ l. q l.stand) (lists ts) ∙ ap (filter (λ l. q l.stand)) (sym (lists-without n ts)))

pub shows_taken : (n : ℕ) (ts : List Thing) (h : Hands) → Shows ts h → Shows (without n ts) (taken n h)
shows_taken n ts h s = record {
  queue_is = queue_taken n ts h.queue s.queue_is;
  loose_is = placed_taken is_loose n ts h.loose s.loose_is;
  kept_is = λ m. placed_taken (is_kept_by m) n ts (h.kept m) (s.kept_is m);
  queue_housed = All-filter (λ c. not (carries n c)) (IsCarriedHome h.pools) h.queue s.queue_housed;
  loose_housed = All-filter (λ l. not (l.label.number.0 == n)) (IsHoused h.pools) h.loose s.loose_housed;
  kept_housed = λ m. All-filter (λ l. not (l.label.number.0 == n)) (IsHoused h.pools) (h.kept m) (s.kept_housed m);
}

-- A list is put at the end.

placed_no : (q : Stand → Bool) (ts : List Thing) (y : LiveList) → q y.stand ≡ false → placed q (ts ++ thing.List y ∷ []) ≡ placed q ts
placed_no q ts y fails = ap (filter (λ l. q l.stand)) (lists-append ts (thing.List y ∷ [])) ∙ push_no (λ l. q l.stand) (lists ts) y fails

placed_yes : (q : Stand → Bool) (ts : List Thing) (y : LiveList) → q y.stand ≡ true → placed q (ts ++ thing.List y ∷ []) ≡ placed q ts ++ y ∷ []
placed_yes q ts y passes = ap (filter (λ l. q l.stand)) (lists-append ts (thing.List y ∷ [])) ∙ push_yes (λ l. q l.stand) (lists ts) y passes

pushed_match : {X Y S : Type 0} (f : X → S) (g : Y → S) (xs : List X) (ys : List Y) (x : X) (y : Y) → map g ys ≡ map f xs → g y ≡ f x
    → map g (ys ++ y ∷ []) ≡ map f (xs ++ x ∷ [])
pushed_match f g xs ys x y e same =
    map-append g ys (y ∷ [])
    ∙ ap (λ zs. zs ++ g y ∷ []) e
    ∙ ap (λ z. map f xs ++ z ∷ []) same
    ∙ sym (map-append f xs (x ∷ []))

pub passed_not_loose : (s : Stand) → is_passed s ≡ true → is_loose s ≡ false
passed_not_loose stand.Unplaced e = cc
passed_not_loose (stand.Kept m) e = refl
passed_not_loose (stand.Passed way to) e = refl

pub passed_not_kept : (m : ModuleId) (s : Stand) → is_passed s ≡ true → is_kept_by m s ≡ false
passed_not_kept m stand.Unplaced e = refl
passed_not_kept m (stand.Kept k) e = cc
passed_not_kept m (stand.Passed way to) e = refl

-- it is on its way
pub shows_queued : (ts : List Thing) (h : Hands) (y : LiveList) (l : ListView) (way : PassWay) (to : Target) → Shows ts h → y.stand ≡ stand.Passed way to → in_state y ≡ in_hand l → IsHoused h.pools l
    → Shows (ts ++ thing.List y ∷ []) (queued (a_list l way to) h)
shows_queued ts h y l way to s is same housed =
    let passes : is_passed y.stand ≡ true = ap is_passed is in
    record {
      queue_is =
          pushed_match seen carried (filter is_away ts) h.queue (thing.List y) (a_list l way to) s.queue_is (ap (λ c. see_list c (stand.Passed way to)) (sym same) ∙ ap (see_list (in_state y)) (sym is))
          ∙ ap (map seen) (sym (push_yes is_away ts (thing.List y) passes));
      loose_is = s.loose_is ∙ ap (map in_state) (sym (placed_no is_loose ts y (passed_not_loose y.stand passes)));
      kept_is = λ m. s.kept_is m ∙ ap (map in_state) (sym (placed_no (is_kept_by m) ts y (passed_not_kept m y.stand passes)));
      queue_housed = All-push (IsCarriedHome h.pools) h.queue (a_list l way to) s.queue_housed housed;
      loose_housed = s.loose_housed;
      kept_housed = s.kept_housed;
    }

-- a module keeps it
pub kept_elsewhere : (m k : ModuleId) → same_module k m ≡ false → same_module m k ≡ false
kept_elsewhere m k other = by_case m k (same_module m k) refl other
  where
    by_case : (m k : ModuleId) (b : Bool) → same_module m k ≡ b → same_module k m ≡ false → b ≡ false
    by_case m k false e other = refl
    by_case m k true e other = let there : same_module k m ≡ true = ap (λ j. same_module k j) (same_is m k e) ∙ same_self k in cc

pub shows_kept : (ts : List Thing) (h : Hands) (y : LiveList) (m : ModuleId) (l : ListView) → Shows ts h → y.stand ≡ stand.Kept m → in_state y ≡ in_hand l → IsHoused h.pools l
    → Shows (ts ++ thing.List y ∷ []) (kept_at m l h)
shows_kept ts h y m l s is same housed =
    let away : is_away (thing.List y) ≡ false = ap is_passed is in
    let loose : is_loose y.stand ≡ false = ap is_loose is in
    let here : is_kept_by m y.stand ≡ true = ap (is_kept_by m) is ∙ same_self m in
    record {
      queue_is = s.queue_is ∙ ap (map seen) (sym (push_no is_away ts (thing.List y) away));
      loose_is = s.loose_is ∙ ap (map in_state) (sym (placed_no is_loose ts y loose));
      kept_is = at_each (λ k ls. map in_hand ls ≡ map in_state (placed (is_kept_by k) (ts ++ thing.List y ∷ []))) m (h.kept m ++ l ∷ []) h.kept
          (pushed_match in_state in_hand (placed (is_kept_by m) ts) (h.kept m) y l (s.kept_is m) (sym same) ∙ ap (map in_state) (sym (placed_yes (is_kept_by m) ts y here)))
          (λ k other. s.kept_is k ∙ ap (map in_state) (sym (placed_no (is_kept_by k) ts y (ap (is_kept_by k) is ∙ kept_elsewhere m k other))));
      queue_housed = s.queue_housed;
      loose_housed = s.loose_housed;
      kept_housed = at_each (λ k ls. All (IsHoused h.pools) ls) m (h.kept m ++ l ∷ []) h.kept
          (All-push (IsHoused h.pools) (h.kept m) l (s.kept_housed m) housed)
          (λ k other. s.kept_housed k);
    }

-- it is issued and stands nowhere yet
pub shows_loosed : (ts : List Thing) (h : Hands) (y : LiveList) (l : ListView) → Shows ts h → y.stand ≡ stand.Unplaced → in_state y ≡ in_hand l → IsHoused h.pools l
    → Shows (ts ++ thing.List y ∷ []) (loosed l h)
shows_loosed ts h y l s is same housed = record {
  queue_is = s.queue_is ∙ ap (map seen) (sym (push_no is_away ts (thing.List y) (ap is_passed is)));
  loose_is =
      pushed_match in_state in_hand (placed is_loose ts) h.loose y l s.loose_is (sym same)
      ∙ ap (map in_state) (sym (placed_yes is_loose ts y (ap is_loose is)));
  kept_is = λ m. s.kept_is m ∙ ap (map in_state) (sym (placed_no (is_kept_by m) ts y (ap (is_kept_by m) is)));
  queue_housed = s.queue_housed;
  loose_housed = All-push (IsHoused h.pools) h.loose l s.loose_housed housed;
  kept_housed = s.kept_housed;
}

-- A list changes in its place, and nothing of the change is seen in hand.

-- a change of a live list that shows nothing in hand
pub record IsQuiet (f : LiveList → LiveList) : Type 0 where
  pub same : (l : LiveList) → in_state (f l) ≡ in_state l
  pub stand : (l : LiveList) → (f l).stand ≡ l.stand

shown_cond : {X S : Type 0} (g : X → S) (b : Bool) (x y : X) (xs ys : List X) → g x ≡ g y → map g xs ≡ map g ys → map g (cond b (x ∷ xs) xs) ≡ map g (cond b (y ∷ ys) ys)
shown_cond g true x y xs ys e more = cc
shown_cond g false x y xs ys e more = more

quiet_away : (n : ℕ) (f : LiveList → LiveList) → IsQuiet f → (t : Thing) → is_away (with_list n f t) ≡ is_away t
quiet_away n f quiet (thing.List l) =
    elim (l.list.0 == n) as (λ b. is_away (cond b (thing.List (f l)) (thing.List l)) ≡ is_passed l.stand) [ true ↦ ap is_passed (quiet.stand l) | false ↦ refl ]
quiet_away n f quiet (thing.Status s) = refl
quiet_away n f quiet (thing.Answer a) = refl

quiet_seen : (n : ℕ) (f : LiveList → LiveList) → IsQuiet f → (t : Thing) → seen (with_list n f t) ≡ seen t
quiet_seen n f quiet (thing.List l) =
    elim (l.list.0 == n) as (λ b. seen (cond b (thing.List (f l)) (thing.List l)) ≡ see_list (in_state l) l.stand) [
      | true ↦ ap (λ c. see_list c (f l).stand) (quiet.same l) ∙ ap (see_list (in_state l)) (quiet.stand l)
      | false ↦ refl
    ]
quiet_seen n f quiet (thing.Status s) = refl
quiet_seen n f quiet (thing.Answer a) = refl

quiet_agenda : (n : ℕ) (f : LiveList → LiveList) → IsQuiet f → (ts : List Thing) → map seen (filter is_away (after_change n f ts)) ≡ map seen (filter is_away ts)
quiet_agenda n f quiet [] = refl
quiet_agenda n f quiet (t ∷ ts) =
    ap (λ b. map seen (cond b (with_list n f t ∷ filter is_away (after_change n f ts)) (filter is_away (after_change n f ts)))) (quiet_away n f quiet t)
    ∙ shown_cond seen (is_away t) (with_list n f t) t (filter is_away (after_change n f ts)) (filter is_away ts) (quiet_seen n f quiet t) (quiet_agenda n f quiet ts)

touched_same : (n : ℕ) (f : LiveList → LiveList) → IsQuiet f → (l : LiveList) → in_state (touched n f l) ≡ in_state l
touched_same n f quiet l = elim (l.list.0 == n) as (λ b. in_state (cond b (f l) l) ≡ in_state l) [ true ↦ quiet.same l | false ↦ refl ]

touched_stand : (n : ℕ) (f : LiveList → LiveList) → IsQuiet f → (l : LiveList) → (touched n f l).stand ≡ l.stand
touched_stand n f quiet l = elim (l.list.0 == n) as (λ b. (cond b (f l) l).stand ≡ l.stand) [ true ↦ quiet.stand l | false ↦ refl ]

quiet_lists : (q : Stand → Bool) (n : ℕ) (f : LiveList → LiveList) → IsQuiet f → (ls : List LiveList)
    → map in_state (filter (λ l. q l.stand) (retouched n f ls)) ≡ map in_state (filter (λ l. q l.stand) ls)
quiet_lists q n f quiet [] = refl
quiet_lists q n f quiet (l ∷ ls) =
    let rest : List LiveList = filter (λ k. q k.stand) (retouched n f ls) in
    ap (λ s. map in_state (cond (q s) (touched n f l ∷ rest) rest)) (touched_stand n f quiet l)
    ∙ shown_cond in_state (q l.stand) (touched n f l) l rest (filter (λ k. q k.stand) ls) (touched_same n f quiet l) (quiet_lists q n f quiet ls)

quiet_placed : (q : Stand → Bool) (n : ℕ) (f : LiveList → LiveList) → IsQuiet f → (ts : List Thing) → map in_state (placed q (after_change n f ts)) ≡ map in_state (placed q ts)
quiet_placed q n f quiet ts = ap (λ ls. map in_state (filter (λ l. q l.stand) ls)) (lists-changed n f ts) ∙ quiet_lists q n f quiet (lists ts)

pub shows_changed : (n : ℕ) (f : LiveList → LiveList) → IsQuiet f → (ts : List Thing) (h : Hands) → Shows ts h → Shows (after_change n f ts) h
shows_changed n f quiet ts h s = record {
  queue_is = s.queue_is ∙ sym (quiet_agenda n f quiet ts);
  loose_is = s.loose_is ∙ sym (quiet_placed is_loose n f quiet ts);
  kept_is = λ m. s.kept_is m ∙ sym (quiet_placed (is_kept_by m) n f quiet ts);
  queue_housed = s.queue_housed;
  loose_housed = s.loose_housed;
  kept_housed = s.kept_housed;
}

-- Statuses and answers: the lists stay.

-- a status of this number
abbrev shows_status : ℕ → Seen → Bool
shows_status n (see_status s) = s.number.0 == n
shows_status n (see_list c at) = false
shows_status n (see_answer a) = false

-- an answer to this request
abbrev shows_answer : ℕ → Seen → Bool
shows_answer parent (see_answer a) = a.parent.0 == parent
shows_answer parent (see_list c at) = false
shows_answer parent (see_status s) = false

status_in_state : (n : ℕ) (t : Thing) → not (is_status n t) ≡ not (shows_status n (seen t))
status_in_state n (thing.List l) = refl
status_in_state n (thing.Status s) = refl
status_in_state n (thing.Answer a) = refl

status_in_hand : (n : ℕ) (c : Carried) → not (carries_status n c) ≡ not (shows_status n (carried c))
status_in_hand n (a_list l way to) = refl
status_in_hand n (a_status s) = refl
status_in_hand n (an_answer a) = refl

answer_in_state : (n : ℕ) (t : Thing) → not (is_answer_to n t) ≡ not (shows_answer n (seen t))
answer_in_state n (thing.List l) = refl
answer_in_state n (thing.Status s) = refl
answer_in_state n (thing.Answer a) = refl

answer_in_hand : (n : ℕ) (c : Carried) → not (carries_answer n c) ≡ not (shows_answer n (carried c))
answer_in_hand n (a_list l way to) = refl
answer_in_hand n (a_status s) = refl
answer_in_hand n (an_answer a) = refl

-- the same lists, and another queue that shows the same as the things
shows_with : (ts us : List Thing) (h : Hands) (queue : List Carried) → Shows ts h → lists us ≡ lists ts
    → map carried queue ≡ map seen (filter is_away us) → All (IsCarriedHome h.pools) queue → Shows us (record h { queue = queue })
shows_with ts us h queue s same e housed = record {
  queue_is = e;
  loose_is = s.loose_is ∙ ap (λ ls. map in_state (filter (λ l. is_loose l.stand) ls)) (sym same);
  kept_is = λ m. s.kept_is m ∙ ap (λ ls. map in_state (filter (λ l. is_kept_by m l.stand) ls)) (sym same);
  queue_housed = housed;
  loose_housed = s.loose_housed;
  kept_housed = s.kept_housed;
}

pub shows_unstatused : (n : ℕ) (ts : List Thing) (h : Hands) → Shows ts h → lists (filter (λ t. not (is_status n t)) ts) ≡ lists ts
    → Shows (filter (λ t. not (is_status n t)) ts) (without_status n h)
shows_unstatused n ts h s same =
    shows_with ts (filter (λ t. not (is_status n t)) ts) h (filter (λ c. not (carries_status n c)) h.queue) s same
    (filters_match seen carried (λ x. not (shows_status n x)) (λ t. not (is_status n t)) (λ c. not (carries_status n c)) (status_in_state n) (status_in_hand n) (filter is_away ts) h.queue s.queue_is
    ∙ ap (map seen) (filters_swap (λ t. not (is_status n t)) is_away ts))
    (All-filter (λ c. not (carries_status n c)) (IsCarriedHome h.pools) h.queue s.queue_housed)

pub shows_unanswered : (n : ℕ) (ts : List Thing) (h : Hands) → Shows ts h → lists (filter (λ t. not (is_answer_to n t)) ts) ≡ lists ts
    → Shows (filter (λ t. not (is_answer_to n t)) ts) (without_answer n h)
shows_unanswered n ts h s same =
    shows_with ts (filter (λ t. not (is_answer_to n t)) ts) h (filter (λ c. not (carries_answer n c)) h.queue) s same
    (filters_match seen carried (λ x. not (shows_answer n x)) (λ t. not (is_answer_to n t)) (λ c. not (carries_answer n c)) (answer_in_state n) (answer_in_hand n) (filter is_away ts) h.queue s.queue_is
    ∙ ap (map seen) (filters_swap (λ t. not (is_answer_to n t)) is_away ts))
    (All-filter (λ c. not (carries_answer n c)) (IsCarriedHome h.pools) h.queue s.queue_housed)

no_list_more : (ts : List Thing) (t : Thing) → lists (t ∷ []) ≡ [] → lists (ts ++ t ∷ []) ≡ lists ts
no_list_more ts t none = lists-append ts (t ∷ []) ∙ ap (λ ls. lists ts ++ ls) none ∙ append-nil (lists ts)

pub shows_status_pushed : (ts : List Thing) (h : Hands) (x : StatusAway) → Shows ts h → Shows (ts ++ thing.Status x ∷ []) (queued (a_status x) h)
shows_status_pushed ts h x s =
    shows_with ts (ts ++ thing.Status x ∷ []) h (h.queue ++ a_status x ∷ []) s (no_list_more ts (thing.Status x) refl)
    (pushed_match seen carried (filter is_away ts) h.queue (thing.Status x) (a_status x) s.queue_is refl ∙ ap (map seen) (sym (push_yes is_away ts (thing.Status x) refl)))
    (All-push (IsCarriedHome h.pools) h.queue (a_status x) s.queue_housed tt)

pub shows_answer_pushed : (ts : List Thing) (h : Hands) (x : Answered) → Shows ts h → Shows (ts ++ thing.Answer x ∷ []) (queued (an_answer x) h)
shows_answer_pushed ts h x s =
    shows_with ts (ts ++ thing.Answer x ∷ []) h (h.queue ++ an_answer x ∷ []) s (no_list_more ts (thing.Answer x) refl)
    (pushed_match seen carried (filter is_away ts) h.queue (thing.Answer x) (an_answer x) s.queue_is refl ∙ ap (map seen) (sym (push_yes is_away ts (thing.Answer x) refl)))
    (All-push (IsCarriedHome h.pools) h.queue (an_answer x) s.queue_housed tt)
