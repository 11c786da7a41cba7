-- What a list on its way leaves to do after it is worked: it is passed on, kept, turned back or cloned.
use Rattle.std.proofs.Common.{◌≡◌, ℕ, ◌+◌, ◌≤◌, ◌==◌, ◌||◌, ◌&&◌, not, Bool, true, false, cond, List, [], ◌∷◌, Option, Some, None, refl, arith, ap, subst, ◌∙◌, sum_by}
use Rattle.std.proofs.lemmas.Bool.Decides.{nat_tests}
use Rattle.std.proofs.lemmas.List.Sums.{sum_by-cons, sum_by-le-sum_by}
use Rattle.ndis_base.specs.declared.ModuleId.{ModuleId}
use Rattle.ndis_base.specs.declared.ListNo.{ListNo}
use Rattle.ndis_base.specs.declared.ListStatus.{ListStatus}
use Rattle.ndis_base.specs.declared.ConfigNo.{ConfigNo}
use Rattle.ndis_base.specs.declared.Direction.{Direction}
use Rattle.ndis_base.specs.declared.Origin.TheVariants as origin
use Rattle.journal_types.specs.declared.Handler.{Handler}
use Rattle.journal_types.specs.declared.PassWay.{PassWay}
use Rattle.journal_types.specs.declared.Target.{Target}
use Rattle.journal_types.specs.declared.Row.{Row}
use Rattle.journal_types.specs.declared.Row.TheVariants as row
use Rattle.stack_rules.specs.declared.LiveList.{LiveList}
use Rattle.stack_rules.specs.declared.Stand.TheVariants as stand
use Rattle.stack_rules.specs.declared.Thing.{Thing}
use Rattle.stack_rules.specs.declared.Thing.TheVariants as thing
use Rattle.stack_rules.specs.Tests.{is_down}
use Rattle.stack_rules.specs.Net.{Net, after, after_rows, lists, list_of, without, had_by, as_kept, as_passed}
use Rattle.stack_rules.specs.Places.{has_clone, is_waiting, is_crossed, is_clone_of}
use Rattle.stack_rules.specs.Work.{list_work, kept_work, work}
use Rattle.rule_basics.specs.Numbers.{IsNumbered}
use Rattle.rule_basics.proofs.Numbered.{numbered_after}
use Rattle.work_laws.proofs.Sums.{sum_taken, sum_without, sum_at_end}
use Rattle.work_laws.proofs.Weights.{Stay, weight, load, work_least, work_after, load_pass, load_moved, load_keep, load_issue, load_give, load_back, load_gone, passed_work, passed_weighs, weight_less}
use Rattle.work_laws.proofs.Clones.{any_clone, taken_any, clones_after, clones_rows}
use Rattle.std.proofs.lemmas.List.Folds.{list_any-append}
use Rattle.rule_basics.specs.Live.{others}
use Rattle.rule_basics.proofs.Lives.{find_is}
use Rattle.rule_basics.proofs.Lists.{lists-append, lists-without}
use Rattle.stack_rules.specs.Outcome.{list_no}
use Rattle.work_laws.proofs.Hands.{Found, found_give, found_back}

-- a list that weighed so much weighs this much after the rows
abbrev pub Trades : Net → ℕ → ℕ → List Row → Type 0
Trades net old new rows = work (after_rows net rows) + old ≤ work net + new

-- a live list that doesn't wait
pub record IsFree (net : Net) (l : LiveList) : Type 0 where
  pub numbered : IsNumbered net
  pub found : Found net l
  pub free : is_waiting net l ≡ false

weighs : (b : Bool) (k : ℕ) → b ≡ false → k ≤ cond b 0 k
weighs true k e = cc
weighs false k e = omega arith

pub full_weight : (net : Net) (l : LiveList) → is_waiting net l ≡ false → list_work net l l.stand ≤ weight net (has_clone net) (thing.List l)
full_weight net l e = weighs (is_waiting net l) (list_work net l l.stand) e

pub pass_trades : (net : Net) (l : LiveList) (way : PassWay) (to : Target) → IsFree net l → Trades net (list_work net l l.stand) (passed_work net way to) (row.Pass l.list way to ∷ [])
pass_trades net l way to h =
    let rows : List Row = row.Pass l.list way to ∷ [] in
    let stay : Stay (has_clone net) (has_clone (after_rows net rows)) = clones_rows net rows h.numbered (tt, tt) (refl, tt) in
    let moved = load_moved net (has_clone net) l.list way to l h.found in
    let most = work_after (after_rows net rows) (has_clone net) stay in
    let least = work_least net in
    let full = full_weight net l h.free in
    omega (arith, moved, most, least, full)

pub back_trades : (net : Net) (l : LiveList) (m : ModuleId) (status : ListStatus) (way : PassWay) (to : Target) → IsFree net l → Trades net (list_work net l l.stand) (passed_work net way to) (row.TurnBack l.list m status ∷ row.Pass l.list way to ∷ [])
back_trades net l m status way to h =
    let rows : List Row = row.TurnBack l.list m status ∷ row.Pass l.list way to ∷ [] in
    let next : Net = after net (row.TurnBack l.list m status) in
    let stay : Stay (has_clone net) (has_clone (after_rows net rows)) = clones_rows net rows h.numbered (tt, (tt, tt)) (refl, (refl, tt)) in
    let back = load_back net (has_clone net) l.list m status in
    let moved : load (after_rows net rows) (has_clone net) + weight net (has_clone net) (thing.List l) ≤ load next (has_clone net) + passed_work net way to = load_moved next (has_clone net) l.list way to (had_by m l) (found_back net l m status h.found) in
    let most = work_after (after_rows net rows) (has_clone net) stay in
    let least = work_least net in
    let full = full_weight net l h.free in
    omega (arith, back, moved, most, least, full)

pub give_trades : (net : Net) (l : LiveList) (m : ModuleId) (handler : Handler) (way : PassWay) (to : Target) → IsFree net l → Trades net (list_work net l l.stand) (passed_work net way to) (row.Give l.list m handler ∷ row.Pass l.list way to ∷ [])
give_trades net l m handler way to h =
    let rows : List Row = row.Give l.list m handler ∷ row.Pass l.list way to ∷ [] in
    let next : Net = after net (row.Give l.list m handler) in
    let stay : Stay (has_clone net) (has_clone (after_rows net rows)) = clones_rows net rows h.numbered (tt, (tt, tt)) (refl, (refl, tt)) in
    let give = load_give net (has_clone net) l.list m handler in
    let moved : load (after_rows net rows) (has_clone net) + weight net (has_clone net) (thing.List l) ≤ load next (has_clone net) + passed_work net way to = load_moved next (has_clone net) l.list way to (had_by m l) (found_give net l m handler h.found) in
    let most = work_after (after_rows net rows) (has_clone net) stay in
    let least = work_least net in
    let full = full_weight net l h.free in
    omega (arith, give, moved, most, least, full)

pub give_back_trades : (net : Net) (l : LiveList) (m : ModuleId) (handler : Handler) (by : ModuleId) (status : ListStatus) (way : PassWay) (to : Target) → IsFree net l →
    Trades net (list_work net l l.stand) (passed_work net way to) (row.Give l.list m handler ∷ row.TurnBack l.list by status ∷ row.Pass l.list way to ∷ [])
give_back_trades net l m handler by status way to h =
    let rows : List Row = row.Give l.list m handler ∷ row.TurnBack l.list by status ∷ row.Pass l.list way to ∷ [] in
    let given : Net = after net (row.Give l.list m handler) in
    let next : Net = after given (row.TurnBack l.list by status) in
    let stay : Stay (has_clone net) (has_clone (after_rows net rows)) = clones_rows net rows h.numbered (tt, (tt, (tt, tt))) (refl, (refl, (refl, tt))) in
    let give = load_give net (has_clone net) l.list m handler in
    let back = load_back given (has_clone net) l.list by status in
    let found : Found next (had_by by (had_by m l)) = found_back given (had_by m l) by status (found_give net l m handler h.found) in
    let moved : load (after_rows net rows) (has_clone net) + weight net (has_clone net) (thing.List l) ≤ load next (has_clone net) + passed_work net way to = load_moved next (has_clone net) l.list way to (had_by by (had_by m l)) found in
    let most = work_after (after_rows net rows) (has_clone net) stay in
    let least = work_least net in
    let full = full_weight net l h.free in
    omega (arith, give, back, moved, most, least, full)

pub keep_trades : (net : Net) (l : LiveList) (m : ModuleId) (handler : Handler) (by : ModuleId) → IsFree net l →
    Trades net (list_work net l l.stand) (kept_work net (is_down l.direction) by) (row.Give l.list m handler ∷ row.Keep l.list by ∷ [])
keep_trades net l m handler by h =
    let rows : List Row = row.Give l.list m handler ∷ row.Keep l.list by ∷ [] in
    let next : Net = after net (row.Give l.list m handler) in
    let stay : Stay (has_clone net) (has_clone (after_rows net rows)) = clones_rows net rows h.numbered (tt, (tt, tt)) (refl, (refl, tt)) in
    let give = load_give net (has_clone net) l.list m handler in
    let moved : load (after_rows net rows) (has_clone net) + weight net (has_clone net) (thing.List l) ≤ load next (has_clone net) + kept_work net (is_down l.direction) by = load_keep next (has_clone net) l.list by (had_by m l) (found_give net l m handler h.found) in
    let most = work_after (after_rows net rows) (has_clone net) stay in
    let least = work_least net in
    let full = full_weight net l h.free in
    omega (arith, give, moved, most, least, full)

-- a list that waits weighs nothing: all of its number are as if they were out
waiting_out : (net : Net) (cloned : ℕ → Bool) (n : ℕ) → cloned n ≡ true → (ts : List Thing) → sum_by (weight net cloned) ts ≤ sum_by (weight net cloned) (without n ts)
waiting_out net cloned n e [] = omega arith
waiting_out net cloned n e (thing.List x ∷ ts) =
    let rest = waiting_out net cloned n e ts in
    let whole = sum_by-cons (weight net cloned) (thing.List x) ts in
    let cases : (b : Bool) → (x.list.0 == n) ≡ b → sum_by (weight net cloned) (thing.List x ∷ ts) ≤ sum_by (weight net cloned) (cond (not b) (thing.List x ∷ without n ts) (without n ts)) = elim [
      | true ↦ λ t.
          let same : x.list.0 ≡ n = grind (arith, nat_tests) in
          let is_waiting : cloned x.list.0 ≡ true = ap cloned same ∙ e in
          let none : weight net cloned (thing.List x) ≤ 0 = nothing (is_crossed x.crossed) (cloned x.list.0) (list_work net x x.stand) is_waiting in
          omega (arith, rest, whole, none)
      | false ↦ λ t. let part = sum_by-cons (weight net cloned) (thing.List x) (without n ts) in omega (arith, rest, whole, part)
    ] in
    cases (x.list.0 == n) refl
  where
    nothing : (a b : Bool) (k : ℕ) → b ≡ true → cond (a || b) 0 k ≤ 0
    nothing true b k e = omega arith
    nothing false true k e = omega arith
    nothing false false k e = cc
waiting_out net cloned n e (thing.Status s ∷ ts) =
    let rest = waiting_out net cloned n e ts in
    let whole = sum_by-cons (weight net cloned) (thing.Status s) ts in
    let part = sum_by-cons (weight net cloned) (thing.Status s) (without n ts) in
    omega (arith, rest, whole, part)
waiting_out net cloned n e (thing.Answer a ∷ ts) =
    let rest = waiting_out net cloned n e ts in
    let whole = sum_by-cons (weight net cloned) (thing.Answer a) ts in
    let part = sum_by-cons (weight net cloned) (thing.Answer a) (without n ts) in
    omega (arith, rest, whole, part)

-- where a list has a clone now that had none, it weighs nothing any more
now_waits : (net : Net) (cloned more : ℕ → Bool) (l : LiveList) → Stay cloned more → more l.list.0 ≡ true → Found net l → load net more + weight net cloned (thing.List l) ≤ load net cloned
now_waits net cloned more l s e f =
    let out = waiting_out net more l.list.0 e net.things in
    let less = sum_by-le-sum_by (weight net more) (weight net cloned) (without l.list.0 net.things) (weight_less net cloned more s) in
    let taken = sum_taken (weight net cloned) l.list.0 net.things l f in
    omega (arith, out, less, taken)

load_waiting : (net : Net) (cloned : ℕ → Bool) (list : ListNo) (m : ModuleId) → cloned list.0 ≡ true → load (after net (row.Keep list m)) cloned ≤ load net cloned
load_waiting net cloned list m e =
    let out = sum_without (weight net cloned) list.0 net.things in
    let back = sum_at_end (weight net cloned) (without list.0 net.things) 0 (as_kept m (list_of list.0 (lists net.things))) (none (list_of list.0 (lists net.things)) refl) in
    omega (arith, out, back)
  where
    nothing : (a b : Bool) (k : ℕ) → b ≡ true → cond (a || b) 0 k ≤ 0
    nothing true b k e = omega arith
    nothing false true k e = omega arith
    nothing false false k e = cc

    same : (x l : LiveList) → Some x ≡ Some l → x ≡ l
    same x l f = cc

    none : (o : Option LiveList) → list_of list.0 (lists net.things) ≡ o → (l : LiveList) → as_kept m o ≡ Some l → weight net cloned (thing.List l) ≤ 0
    none None f l g = cc
    none (Some x) f l g =
        let number : x.list.0 ≡ list.0 = (find_is list.0 (lists net.things) x f).0 in
        let is_waiting : cloned x.list.0 ≡ true = ap cloned number ∙ e in
        subst (λ (k : LiveList). weight net cloned (thing.List k) ≤ 0) (same (record x { last = m; stand = stand.Kept m }) l g)
        (nothing (is_crossed x.crossed) (cloned x.list.0) (kept_work net (is_down x.direction) m) is_waiting)

is_itself : (n : ℕ) → (n == n) ≡ true
is_itself n = grind (arith, nat_tests)

-- a clone goes on in the list's place
pub clone_trades : (net : Net) (l : LiveList) (m : ModuleId) (handler : Handler) (owner : ModuleId) (config : ConfigNo) (direction : Direction) (cancel : Option ℕ) (frames : List (List ℕ)) (by : ModuleId) (way : PassWay) (to : Target) → IsFree net l →
    Trades net (list_work net l l.stand) (passed_work net way to)
    (row.Give l.list m handler ∷ row.Issue (list_no net.next.list) owner config direction cancel (origin.Clone l.list) frames ∷ row.Keep l.list by ∷ row.Pass (list_no net.next.list) way to ∷ [])
clone_trades net l m handler owner config direction cancel frames by way to h =
    let issue : Row = row.Issue (list_no net.next.list) owner config direction cancel (origin.Clone l.list) frames in
    let new : LiveList = record { list = list_no net.next.list; owner = owner; direction = direction; cancel = cancel; origin = origin.Clone l.list; frames = frames; last = owner; stand = stand.Unplaced; crossed = None } in
    let given : Net = after net (row.Give l.list m handler) in
    let two : Net = after given issue in
    let three : Net = after two (row.Keep l.list by) in
    let four : Net = after three (row.Pass (list_no net.next.list) way to) in
    let cloned : ℕ → Bool = has_clone net in
    let more : ℕ → Bool = has_clone two in
    let numbered : IsNumbered two = numbered_after given issue refl (numbered_after net (row.Give l.list m handler) tt h.numbered) in
    let stay : Stay cloned more = clones_rows net (row.Give l.list m handler ∷ issue ∷ []) h.numbered (tt, (refl, tt)) (refl, (refl, tt)) in
    let on : Stay more (has_clone four) = clones_rows two (row.Keep l.list by ∷ row.Pass (list_no net.next.list) way to ∷ []) numbered (tt, (tt, tt)) (refl, (refl, tt)) in
    let there : more l.list.0 ≡ true =
    ap (any_clone l.list.0) (lists-append given.things (thing.List new ∷ [])) ∙ list_any-append (λ x. is_clone_of l.list.0 x.origin) (lists given.things) (new ∷ []) ∙ last (any_clone l.list.0 (lists given.things)) (l.list.0 == l.list.0) (is_itself l.list.0) in
    let is_waiting = now_waits net cloned more l stay there h.found in
    let give = load_give net more l.list m handler in
    let issued = load_issue given more (list_no net.next.list) owner config direction cancel (origin.Clone l.list) frames in
    let keep = load_waiting two more l.list by there in
    let pass : load four more ≤ load three more + passed_work net way to = load_pass three more (list_no net.next.list) way to in
    let most = work_after four more on in
    let least = work_least net in
    let full = full_weight net l h.free in
    omega (arith, is_waiting, give, issued, keep, pass, most, least, full)
  where
    last : (a b : Bool) → b ≡ true → (a || (b || false)) ≡ true
    last true b e = refl
    last false true e = refl
    last false false e = cc

-- a list that is home releases the list that it was made of
abbrev but : (ℕ → Bool) → ℕ → ℕ → Bool
but cloned o n = cloned n && not (n == o)

but_other : (cloned : ℕ → Bool) (o n : ℕ) → but cloned o n ≡ true → (cloned n ≡ true) × ((n == o) ≡ false)
but_other cloned o n h = parts (cloned n) (n == o) h
  where
    parts : (a b : Bool) → (a && not b) ≡ true → (a ≡ true) × (b ≡ false)
    parts true true h = cc
    parts true false h = (refl, refl)
    parts false b h = cc

more_light : (a b c : Bool) (k : ℕ) → c ≡ b → cond (a || c) 0 k ≤ cond (a || b) 0 k
more_light a b c k e = rw e (omega arith)

but_same : (a b : Bool) → b ≡ false → (a && not b) ≡ a
but_same true b e = rw e refl
but_same false b e = refl

-- but for the list of one number all weigh the same
others_weigh : (net : Net) (cloned : ℕ → Bool) (o : ℕ) (ts : List Thing) → sum_by (weight net (but cloned o)) (without o ts) ≤ sum_by (weight net cloned) ts
others_weigh net cloned o [] = omega arith
others_weigh net cloned o (thing.List x ∷ ts) =
    let rest = others_weigh net cloned o ts in
    let whole = sum_by-cons (weight net cloned) (thing.List x) ts in
    let cases : (b : Bool) → (x.list.0 == o) ≡ b → sum_by (weight net (but cloned o)) (cond (not b) (thing.List x ∷ without o ts) (without o ts)) ≤ sum_by (weight net cloned) (thing.List x ∷ ts) = elim [
      | true ↦ λ t. omega (arith, rest, whole)
      | false ↦ λ t.
          let part = sum_by-cons (weight net (but cloned o)) (thing.List x) (without o ts) in
          let here : weight net (but cloned o) (thing.List x) ≤ weight net cloned (thing.List x) = more_light (is_crossed x.crossed) (cloned x.list.0) (but cloned o x.list.0) (list_work net x x.stand) (but_same (cloned x.list.0) (x.list.0 == o) t) in
          omega (arith, rest, whole, part, here)
    ] in
    cases (x.list.0 == o) refl
others_weigh net cloned o (thing.Status s ∷ ts) =
    let rest = others_weigh net cloned o ts in
    let whole = sum_by-cons (weight net cloned) (thing.Status s) ts in
    let part = sum_by-cons (weight net (but cloned o)) (thing.Status s) (without o ts) in
    omega (arith, rest, whole, part)
others_weigh net cloned o (thing.Answer a ∷ ts) =
    let rest = others_weigh net cloned o ts in
    let whole = sum_by-cons (weight net cloned) (thing.Answer a) ts in
    let part = sum_by-cons (weight net (but cloned o)) (thing.Answer a) (without o ts) in
    omega (arith, rest, whole, part)

none_without : (n : ℕ) (ts : List Thing) → list_of n (lists ts) ≡ None → without n ts ≡ ts
none_without n [] h = refl
none_without n (thing.List x ∷ ts) h =
    let cases : (b : Bool) → cond b (Some x) (list_of n (lists ts)) ≡ None → cond (not b) (thing.List x ∷ without n ts) (without n ts) ≡ thing.List x ∷ ts = elim [
      | true ↦ λ f. cc
      | false ↦ λ f. ap (λ ys. thing.List x ∷ ys) (none_without n ts f)
    ] in
    cases (x.list.0 == n) h
none_without n (thing.Status s ∷ ts) h = ap (λ ys. thing.Status s ∷ ys) (none_without n ts h)
none_without n (thing.Answer a ∷ ts) h = ap (λ ys. thing.Answer a ∷ ys) (none_without n ts h)

or_first : (a b : Bool) → b ≡ false → (a || b) ≡ true → a ≡ true
or_first true b e h = refl
or_first false b e h = cc

-- which lists still have a clone
pub stay_home : (net : Net) (l : LiveList) (owner : ModuleId) (status : ListStatus) (cloned : ℕ → Bool) → IsNumbered net → Found net l → ((n : ℕ) → cloned n ≡ true → (has_clone net n ≡ true) × (is_clone_of n l.origin ≡ false)) →
    Stay cloned (has_clone (after net (row.Home l.list owner status)))
stay_home net l owner status cloned h g f n t =
    ap (any_clone n) (lists-without l.list.0 net.things)
    ∙ or_first (any_clone n (others l.list.0 (lists net.things))) (is_clone_of n l.origin) (f n t).1 (taken_any n l.list.0 (lists net.things) l h.apart g (f n t).0)

pub home_only : (net : Net) (l : LiveList) (owner : ModuleId) (status : ListStatus) → IsFree net l → ((n : ℕ) → is_clone_of n l.origin ≡ false) → Trades net (list_work net l l.stand) 0 (row.Home l.list owner status ∷ [])
home_only net l owner status h none =
    let stay : Stay (has_clone net) (has_clone (after net (row.Home l.list owner status))) = stay_home net l owner status (has_clone net) h.numbered h.found (λ n t. (t, none n)) in
    let gone = load_gone net (has_clone net) l.list owner status l h.found in
    let most = work_after (after net (row.Home l.list owner status)) (has_clone net) stay in
    let least = work_least net in
    let full = full_weight net l h.free in
    omega (arith, gone, most, least, full)

swapped : (a b : ℕ) → (a == b) ≡ false → (b == a) ≡ false
swapped a b h = grind (arith, nat_tests)

clone_stays : (net : Net) (l : LiveList) (o : ListNo) → l.origin ≡ origin.Clone o → (n : ℕ) → but (has_clone net) o.0 n ≡ true → (has_clone net n ≡ true) × (is_clone_of n l.origin ≡ false)
clone_stays net l o e n t =
    let parts = but_other (has_clone net) o.0 n t in
    (parts.0, ap (is_clone_of n) e ∙ swapped n o.0 parts.1)

none_others : (n m : ℕ) (ls : List LiveList) → list_of n ls ≡ None → list_of n (others m ls) ≡ None
none_others n m [] h = refl
none_others n m (x ∷ ls) h =
    let cases : (b c : Bool) → (x.list.0 == n) ≡ b → cond b (Some x) (list_of n ls) ≡ None → list_of n (cond (not c) (x ∷ others m ls) (others m ls)) ≡ None = elim [
      | true ↦ λ c t f. cc
      | false ↦ elim [
        | true ↦ λ t f. none_others n m ls f
        | false ↦ λ t f. rw t (none_others n m ls f)
      ]
    ] in
    cases (x.list.0 == n) (x.list.0 == m) refl h

pub home_alone : (net : Net) (l : LiveList) (owner : ModuleId) (status : ListStatus) (o : ListNo) → IsFree net l → l.origin ≡ origin.Clone o → list_of o.0 (lists net.things) ≡ None → Trades net (list_work net l l.stand) 0 (row.Home l.list owner status ∷ [])
home_alone net l owner status o h e none =
    let next : Net = after net (row.Home l.list owner status) in
    let stay : Stay (but (has_clone net) o.0) (has_clone next) = stay_home net l owner status (but (has_clone net) o.0) h.numbered h.found (clone_stays net l o e) in
    let out : list_of o.0 (lists next.things) ≡ None = ap (list_of o.0) (lists-without l.list.0 net.things) ∙ none_others o.0 l.list.0 (lists net.things) none in
    let same : sum_by (weight next (but (has_clone net) o.0)) (without o.0 next.things) ≡ sum_by (weight next (but (has_clone net) o.0)) next.things = ap (sum_by (weight next (but (has_clone net) o.0))) (none_without o.0 next.things out) in
    let less : sum_by (weight next (but (has_clone net) o.0)) (without o.0 next.things) ≤ sum_by (weight next (has_clone net)) next.things = others_weigh next (has_clone net) o.0 next.things in
    let gone = load_gone net (has_clone net) l.list owner status l h.found in
    let most = work_after next (but (has_clone net) o.0) stay in
    let least = work_least net in
    let full = full_weight net l h.free in
    omega (arith, same, less, gone, most, least, full)

-- the original is on its way home
pub home_releases : (net : Net) (l : LiveList) (owner : ModuleId) (status : ListStatus) (o list : ListNo) (way : PassWay) (to : Target) → IsFree net l → l.origin ≡ origin.Clone o → list.0 ≡ o.0 →
    Trades net (list_work net l l.stand) (passed_work net way to) (row.Home l.list owner status ∷ row.Pass list way to ∷ [])
home_releases net l owner status o list way to h e same =
    let cloned : ℕ → Bool = but (has_clone net) o.0 in
    let next : Net = after net (row.Home l.list owner status) in
    let last : Net = after next (row.Pass list way to) in
    let numbered : IsNumbered next = numbered_after net (row.Home l.list owner status) tt h.numbered in
    let first : Stay cloned (has_clone next) = stay_home net l owner status cloned h.numbered h.found (clone_stays net l o e) in
    let second : Stay (has_clone next) (has_clone last) = clones_after next (row.Pass list way to) numbered refl in
    let most = work_after last cloned (λ n t. second n (first n t)) in
    let back : sum_by (weight next cloned) last.things ≤ sum_by (weight next cloned) (without list.0 next.things) + passed_work net way to =
    sum_at_end (weight next cloned) (without list.0 next.things) (passed_work net way to) (as_passed way to (list_of list.0 (lists next.things))) (passed_weighs next cloned way to (list_of list.0 (lists next.things))) in
    let less : sum_by (weight next cloned) (without o.0 next.things) ≤ sum_by (weight next (has_clone net)) next.things = others_weigh next (has_clone net) o.0 next.things in
    let there : sum_by (weight next cloned) (without list.0 next.things) ≡ sum_by (weight next cloned) (without o.0 next.things) = ap (λ i. sum_by (weight next cloned) (without i next.things)) same in
    let gone = load_gone net (has_clone net) l.list owner status l h.found in
    let least = work_least net in
    let full = full_weight net l h.free in
    omega (arith, back, less, there, gone, most, least, full)
