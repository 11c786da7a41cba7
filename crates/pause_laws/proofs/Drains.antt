-- Cancels and drains: several lists move in one turn.
use Rattle.std.proofs.Common.{◌≡◌, ℕ, ◌≤◌, ◌==◌, Bool, true, false, cond, List, [], ◌∷◌, ◌++◌, Option, Some, None, map, refl, arith, ap, sym, subst, ◌∙◌}
use Rattle.std.specs.List.{flat_map}
use Rattle.std.proofs.lemmas.Bool.Decides.{nat_tests}
use Rattle.ndis_base.specs.declared.ModuleId.{ModuleId}
use Rattle.ndis_base.specs.declared.ModuleId.TheVariants.{Miniport, Filter, Binding}
use Rattle.ndis_base.specs.declared.ListNo.{ListNo}
use Rattle.ndis_base.specs.declared.ListStatus.{ListStatus}
use Rattle.ndis_base.specs.declared.ListStatus.TheVariants.{Success, Paused, Aborted}
use Rattle.ndis_base.specs.declared.Direction.{Direction}
use Rattle.ndis_base.specs.declared.Direction.TheVariants as direction
use Rattle.journal_types.specs.declared.PassWay.{PassWay}
use Rattle.journal_types.specs.declared.Target.{Target}
use Rattle.journal_types.specs.declared.Row.{Row}
use Rattle.journal_types.specs.declared.Row.TheVariants as row
use Rattle.stack_rules.specs.declared.LiveList.{LiveList}
use Rattle.stack_rules.specs.declared.Stand.TheVariants as stand
use Rattle.stack_rules.specs.Tests.{is_down, is_retain, is_virtual, phase_is_running}
use Rattle.stack_rules.specs.Heads.{kind_of_binding, binding_numbers}
use Rattle.stack_rules.specs.Net.{Net, Modules, after, after_rows, lists, list_of, had_by, as_passed}
use Rattle.stack_rules.specs.Places.{position, ready_lists}
use Rattle.stack_rules.specs.Targets.{onward, homeward, homeward_by, turned_back}
use Rattle.stack_rules.specs.Sends.{first_of}
use Rattle.stack_rules.specs.Cancels.{cancel_outcome, cancel_rows_at, cancelled_at, aborted, queues, is_named, is_hold_filter}
use Rattle.stack_rules.specs.Drains.{returned_by, returns_all, passed_by, passes_all, empties, empties_ring, drain_rows, drained}
use Rattle.rule_basics.specs.Live.{is_live, Each, others, retouched, with_last, KeepsNumber}
use Rattle.rule_basics.proofs.Lists.{lists-changed, lists-passed}
use Rattle.rule_basics.proofs.Lives.{find_is, is_live-others}
use Rattle.state_laws.proofs.Rows.{by_test, after_rows-append}
use Rattle.state_laws.proofs.Calm.{All-append, All-map, first_of_all}
use Rattle.pause_laws.specs.Clear.{IsClear, AreClear}
use Rattle.pause_laws.proofs.Lists.{same_found, hand_take, clear_touched, clear_found, found-touched, none-touched, found-last, gone}
use Rattle.pause_laws.proofs.Hands.{Clear, pass_none}
use Rattle.pause_laws.proofs.Routes.{go_home_from, home_none, go_on, go_back_from}
use Rattle.pause_laws.proofs.Works.{Facts, IsWorked, found_pass, each_first}
use Rattle.pause_laws.proofs.Keepers.{IsKeptAt, ready_all, each_of}
use Rattle.pause_laws.proofs.Sends.{Leaves, transmitted_clear}

-- a list as it was, of the same owner and direction
pub record IsLike (x y : LiveList) : Type 0 where
  pub owner : x.owner ≡ y.owner
  pub direction : x.direction ≡ y.direction

-- and last with the same module
record IsLikeLast (x y : LiveList) : Type 0 where
  like : IsLike x y
  last : x.last ≡ y.last

-- each list of this number that is live now was live then, and was alike
record WasThere (P : LiveList → LiveList → Type 0) (ls : List LiveList) (m : ℕ) (x : LiveList) : Type 0 where
  was : LiveList
  found : list_of m ls ≡ Some was
  alike : P x was

abbrev Descends : (LiveList → LiveList → Type 0) → Net → Net → Type 0
Descends P net next = (m : ℕ) (x : LiveList) → list_of m (lists next.things) ≡ Some x → WasThere P (lists net.things) m x

-- a change that the likeness doesn't see
descend : (P : LiveList → LiveList → Type 0) (g : LiveList → LiveList) → ((x y : LiveList) → P x y → P (g x) y) → (ls : List LiveList) (m : ℕ) (y x : LiveList) → g y ≡ x → WasThere P ls m y → WasThere P ls m x
descend P g k ls m y x e w = subst (WasThere P ls m) e record { was = w.was; found = w.found; alike = k y w.was w.alike }

by_number : (n m : ℕ) (P : Type 0) → ((n == m) ≡ false → P) → (n ≡ m → P) → P
by_number n m P f g =
    let cases : (b : Bool) → (n == m) ≡ b → P = elim [ true ↦ λ t. g (grind (arith, nat_tests)) | false ↦ λ t. f t ] in
    cases (n == m) refl

abbrev passing : PassWay → Target → LiveList → LiveList
passing way to y = record y { stand = stand.Passed way to; crossed = None }

-- a list is passed on
descends_pass : (P : LiveList → LiveList → Type 0) (net next : Net) (list : ListNo) (way : PassWay) (to : Target) → ((x y : LiveList) → P x y → P (record x { stand = stand.Passed way to; crossed = None }) y) → Descends P net next → Descends P net (after next (row.Pass list way to))
descends_pass P net next list way to k d m x f =
    by_number list.0 m (WasThere P (lists net.things) m x)
    (λ other. d m x (sym (found_pass next list way to m other) ∙ f))
    (λ same. at (list_of list.0 (lists next.things)) refl same)
  where
    absent : (n : ℕ) (ls : List LiveList) → is_live n (others n ls) ≡ false
    absent n ls = is_live-others n n ls ∙ grind (arith, nat_tests)

    now : (y : LiveList) → list_of list.0 (lists next.things) ≡ Some y → list_of list.0 (lists (after next (row.Pass list way to)).things) ≡ Some (passing way to y)
    now y e =
        ap (list_of list.0) (lists-passed list.0 way to next.things ∙ ap (λ o. with_last (others list.0 (lists next.things)) (as_passed way to o)) e)
        ∙ found-last list.0 (others list.0 (lists next.things)) _ (find_is list.0 (lists next.things) y e).0 (absent list.0 (lists next.things))

    none : list_of list.0 (lists next.things) ≡ None → list_of list.0 (lists (after next (row.Pass list way to)).things) ≡ None
    none e = ap (list_of list.0) (lists-passed list.0 way to next.things ∙ ap (λ o. with_last (others list.0 (lists next.things)) (as_passed way to o)) e) ∙ gone list.0 (lists next.things)

    at : (o : Option LiveList) → list_of list.0 (lists next.things) ≡ o → list.0 ≡ m → WasThere P (lists net.things) m x
    at None e same = absurd (cc (subst (λ n. list_of n (lists (after next (row.Pass list way to)).things) ≡ Some x) (sym same) f, none e))
    at (Some y) e same =
        descend P (passing way to) k (lists net.things) m y x
        (same_found (list_of list.0 (lists (after next (row.Pass list way to)).things)) (passing way to y) x (now y e) (subst (λ n. list_of n (lists (after next (row.Pass list way to)).things) ≡ Some x) (sym same) f))
        (subst (λ n. WasThere P (lists net.things) n y) same (d list.0 y e))

found-other : (n m : ℕ) (g : LiveList → LiveList) → KeepsNumber g → (ls : List LiveList) → (n == m) ≡ false → list_of m (retouched n g ls) ≡ list_of m ls
found-other n m g k [] h = refl
found-other n m g k (x ∷ ls) h =
    let rest : list_of m (retouched n g ls) ≡ list_of m ls = found-other n m g k ls h in
    let cases : (b : Bool) → (x.list.0 == n) ≡ b → list_of m (cond b (g x) x ∷ retouched n g ls) ≡ cond (x.list.0 == m) (Some x) (list_of m ls) = elim [
      | true ↦ λ t.
          let here : (x.list.0 == m) ≡ false = apart x.list.0 n m t h in
          let there : ((g x).list.0 == m) ≡ false = ap (λ i. i == m) (k x) ∙ here in
          rw (there, here) rest
      | false ↦ λ t. rw rest refl
    ] in
    cases (x.list.0 == n) refl
  where
    apart : (x n m : ℕ) → (x == n) ≡ true → (n == m) ≡ false → (x == m) ≡ false
    apart x n m t h = grind (arith, nat_tests)

-- a list is turned back
descends_back : (P : LiveList → LiveList → Type 0) (net next : Net) (list : ListNo) (by : ModuleId) (status : ListStatus) → ((x y : LiveList) → P x y → P (had_by by x) y) → Descends P net next → Descends P net (after next (row.TurnBack list by status))
descends_back P net next list by status k d m x f =
    by_number list.0 m (WasThere P (lists net.things) m x)
    (λ other. d m x (sym (found-other list.0 m (had_by by) (λ y. refl) (lists next.things) other) ∙ now))
    (λ same. at (list_of list.0 (lists next.things)) refl same)
  where
    now : list_of m (retouched list.0 (had_by by) (lists next.things)) ≡ Some x
    now = ap (list_of m) (sym (lists-changed list.0 (had_by by) next.things)) ∙ f

    at : (o : Option LiveList) → list_of list.0 (lists next.things) ≡ o → list.0 ≡ m → WasThere P (lists net.things) m x
    at None e same = absurd (cc (subst (λ n. list_of n (retouched list.0 (had_by by) (lists next.things)) ≡ Some x) (sym same) now, none-touched list.0 (had_by by) (λ y. refl) (lists next.things) e))
    at (Some y) e same =
        descend P (had_by by) k (lists net.things) m y x
        (same_found (list_of list.0 (retouched list.0 (had_by by) (lists next.things))) (had_by by y) x (found-touched list.0 (had_by by) (λ z. refl) (lists next.things) y e) (subst (λ n. list_of n (retouched list.0 (had_by by) (lists next.things)) ≡ Some x) (sym same) now))
        (subst (λ n. WasThere P (lists net.things) n y) same (d list.0 y e))

descends_home : (P : LiveList → LiveList → Type 0) (ms : Modules) (net next : Net) (list : ListNo) (owner : ModuleId) (way_of : Direction) (i : ℕ) (status : ListStatus) → ((way : PassWay) (to : Target) (x y : LiveList) → P x y → P (record x { stand = stand.Passed way to; crossed = None }) y) → Descends P net next →
    Descends P net (after next (homeward_by ms list owner way_of i status))
descends_home P ms net next list owner direction.Down i status k d = descends_pass P net next list _ _ (k _ _) d
descends_home P ms net next list owner direction.Up i status k d = descends_pass P net next list _ _ (k _ _) d
descends_home P ms net next list owner direction.Lent i status k d = descends_pass P net next list _ _ (k _ _) d

descends_on : (P : LiveList → LiveList → Type 0) (ms : Modules) (net next : Net) (list : ListNo) (way_of : Direction) (i : ℕ) → ((way : PassWay) (to : Target) (x y : LiveList) → P x y → P (record x { stand = stand.Passed way to; crossed = None }) y) → Descends P net next →
    Descends P net (after next (onward ms list way_of i))
descends_on P ms net next list direction.Down i k d = descends_pass P net next list _ _ (k _ _) d
descends_on P ms net next list direction.Up i k d = descends_pass P net next list _ _ (k _ _) d
descends_on P ms net next list direction.Lent i k d = descends_pass P net next list _ _ (k _ _) d

like_passed : (way : PassWay) (to : Target) (x y : LiveList) → IsLike x y → IsLike (record x { stand = stand.Passed way to; crossed = None }) y
like_passed way to x y l = record { owner = l.owner; direction = l.direction }

like_had : (m : ModuleId) (x y : LiveList) → IsLike x y → IsLike (had_by m x) y
like_had m x y l = record { owner = l.owner; direction = l.direction }

last_passed : (way : PassWay) (to : Target) (x y : LiveList) → IsLikeLast x y → IsLikeLast (record x { stand = stand.Passed way to; crossed = None }) y
last_passed way to x y l = record { like = record { owner = l.like.owner; direction = l.like.direction }; last = l.last }

-- what the rows written so far leave: clear lists, that are alike those at the turn's begin
record IsMoved (P : LiveList → LiveList → Type 0) (net next : Net) (front : ℕ) : Type 0 where
  clear : Clear net.modules front next
  from : Descends P net next

moved_start : (P : LiveList → LiveList → Type 0) → ((x : LiveList) → P x x) → (net : Net) (front : ℕ) → Clear net.modules front net → IsMoved P net net front
moved_start P same net front k = record { clear = k; from = λ m x f. record { was = x; found = f; alike = same x } }

like_same : (x : LiveList) → IsLike x x
like_same x = record { owner = refl; direction = refl }

last_same : (x : LiveList) → IsLikeLast x x
last_same x = record { like = like_same x; last = refl }

-- a list that is worked now is alike the one at the turn's begin
alike_now : (P : LiveList → LiveList → Type 0) (net next : Net) (front : ℕ) (l x : LiveList) → IsMoved P net next front → IsWorked net front l → list_of l.list.0 (lists next.things) ≡ Some x → P x l
alike_now P net next front l x h w f =
    let was : WasThere P (lists net.things) l.list.0 x = h.from l.list.0 x f in
    subst (P x) (same_found (list_of l.list.0 (lists net.things)) was.was l was.found w.found) was.alike

-- one goes homewards from the module that kept it
home_step : (net next : Net) (front : ℕ) → Facts net front → (m : ModuleId) (l : LiveList) (i : ℕ) (status : ListStatus) → front ≤ i → IsKeptAt net front m l → IsMoved IsLike net next front → IsMoved IsLike net (after next (homeward net.modules l i status)) front
home_step net next front facts m l i status a kept_l h = record {
  clear = at (list_of l.list.0 (lists next.things)) refl;
  from = descends_home IsLike net.modules net next l.list l.owner l.direction i status like_passed h.from;
}
  where
    at : (o : Option LiveList) → list_of l.list.0 (lists next.things) ≡ o → Clear net.modules front (after next (homeward net.modules l i status))
    at None e = home_none net.modules front facts.distinct next l.list l.owner l.direction i status e h.clear
    at (Some x) e =
        let c : IsClear net.modules front x = clear_found net.modules front l.list.0 (lists next.things) next.next.list x h.clear e in
        let like : IsLike x l = alike_now IsLike net next front l x h kept_l.worked e in
        go_home_from net.modules front facts.distinct next l.list l.owner l.direction i status x (hand_take net.modules front l.list.0 x (lists next.things) next.next.list h.clear e) (sym like.owner) (sym like.direction) record { owner = c.owner; down = c.down } a

-- one is turned back by the module that kept it
back_step : (net next : Net) (front : ℕ) → Facts net front → (m : ModuleId) (l : LiveList) (status : ListStatus) → IsKeptAt net front m l → IsMoved IsLike net next front → IsMoved IsLike net (after_rows next (turned_back net.modules l m status)) front
back_step net next front facts m l status kept_l h = record {
  clear = at (list_of l.list.0 (lists next.things)) refl;
  from = descends_home IsLike net.modules net (after next (row.TurnBack l.list m status)) l.list l.owner l.direction (position net.modules.order m) status like_passed (descends_back IsLike net next l.list m status (like_had m) h.from);
}
  where
    at : (o : Option LiveList) → list_of l.list.0 (lists next.things) ≡ o → Clear net.modules front (after_rows next (turned_back net.modules l m status))
    at None e =
        let back : Net = after next (row.TurnBack l.list m status) in
        let same = lists-changed l.list.0 (had_by m) next.things in
        let clear : Clear net.modules front back = subst (λ ls. AreClear net.modules front ls next.next.list) (sym same) (clear_touched net.modules front l.list.0 (had_by m) (λ y. refl) (lists next.things) next.next.list (λ x f. absurd (cc)) h.clear) in
        home_none net.modules front facts.distinct back l.list l.owner l.direction (position net.modules.order m) status (ap (list_of l.list.0) same ∙ none-touched l.list.0 (had_by m) (λ y. refl) (lists next.things) e) clear
    at (Some x) e =
        let c : IsClear net.modules front x = clear_found net.modules front l.list.0 (lists next.things) next.next.list x h.clear e in
        let like : IsLike x l = alike_now IsLike net next front l x h kept_l.worked e in
        go_back_from net.modules front facts.distinct next l m status x (hand_take net.modules front l.list.0 x (lists next.things) next.next.list h.clear e) (sym like.owner) (sym like.direction) c.owner
        (λ d. subst (λ k. position net.modules.order k ≤ position net.modules.order m) (sym like.owner) (kept_l.below (ap is_down (sym like.direction) ∙ d))) kept_l.at

on_none : (ms : Modules) (front : ℕ) (next : Net) (list : ListNo) (way_of : Direction) (i : ℕ) → list_of list.0 (lists next.things) ≡ None → Clear ms front next → Clear ms front (after next (onward ms list way_of i))
on_none ms front next list direction.Down i e k = pass_none ms front next list _ _ e k
on_none ms front next list direction.Up i e k = pass_none ms front next list _ _ e k
on_none ms front next list direction.Lent i e k = pass_none ms front next list _ _ e k

-- one goes on from the module that kept it
on_step : (net next : Net) (front : ℕ) → Facts net front → (m : ModuleId) (l : LiveList) → IsKeptAt net front m l → IsMoved IsLikeLast net next front → IsMoved IsLikeLast net (after next (onward net.modules l.list l.direction (position net.modules.order m))) front
on_step net next front facts m l kept_l h = record {
  clear = at (list_of l.list.0 (lists next.things)) refl;
  from = descends_on IsLikeLast net.modules net next l.list l.direction (position net.modules.order m) last_passed h.from;
}
  where
    at : (o : Option LiveList) → list_of l.list.0 (lists next.things) ≡ o → Clear net.modules front (after next (onward net.modules l.list l.direction (position net.modules.order m)))
    at None e = on_none net.modules front next l.list l.direction (position net.modules.order m) e h.clear
    at (Some x) e =
        let c : IsClear net.modules front x = clear_found net.modules front l.list.0 (lists next.things) next.next.list x h.clear e in
        let alike : IsLikeLast x l = alike_now IsLikeLast net next front l x h kept_l.worked e in
        go_on net.modules front facts.distinct next l.list l.direction (position net.modules.order m) x (hand_take net.modules front l.list.0 x (lists next.things) next.next.list h.clear e) (sym alike.like.direction) record { owner = c.owner; down = c.down }
        (ap (position net.modules.order) (sym (alike.last ∙ kept_l.last))) kept_l.at

-- the lists one after the other
steps_map : (Q : Net → Type 0) (R : LiveList → Type 0) (row_of : LiveList → Row) → ((next : Net) (l : LiveList) → R l → Q next → Q (after next (row_of l))) → (ls : List LiveList) (next : Net) → Each R ls → Q next → Q (after_rows next (map row_of ls))
steps_map Q R row_of step [] next h q = q
steps_map Q R row_of step (l ∷ ls) next h q = steps_map Q R row_of step ls (after next (row_of l)) h.1 (step next l h.0 q)

steps_lists : (Q : Net → Type 0) (R : LiveList → Type 0) (rows_of : LiveList → List Row) → ((next : Net) (l : LiveList) → R l → Q next → Q (after_rows next (rows_of l))) → (ls : List LiveList) (next : Net) → Each R ls → Q next → Q (after_rows next (flat_map rows_of ls))
steps_lists Q R rows_of step [] next h q = q
steps_lists Q R rows_of step (l ∷ ls) next h q =
    subst Q (sym (after_rows-append next (rows_of l) (flat_map rows_of ls))) (steps_lists Q R rows_of step ls (after_rows next (rows_of l)) h.1 (step next l h.0 q))

steps_modules : (Q : Net → Type 0) (rows_of : ModuleId → List Row) → ((next : Net) (m : ModuleId) → Q next → Q (after_rows next (rows_of m))) → (ms : List ModuleId) (next : Net) → Q next → Q (after_rows next (flat_map rows_of ms))
steps_modules Q rows_of step [] next q = q
steps_modules Q rows_of step (m ∷ ms) next q =
    subst Q (sym (after_rows-append next (rows_of m) (flat_map rows_of ms))) (steps_modules Q rows_of step ms (after_rows next (rows_of m)) (step next m q))

-- a cancel
pub cancel_clear : (net : Net) (front : ℕ) → Facts net front → (id : ℕ) → Clear net.modules front net → Leaves net front (cancel_outcome net id).rows
cancel_clear net front facts id k =
    let Q : Net → Type 0 = λ next. IsMoved IsLike net next front in
    let all : Q (after_rows net (flat_map (cancel_rows_at net id) (queues net.modules))) =
    steps_modules Q (cancel_rows_at net id)
    (λ next m q. steps_lists Q (IsKeptAt net front m) (aborted net m) (λ then_net l r p. back_step net then_net front facts m l Aborted r p) (cancelled_at net id m) next (each_of (IsKeptAt net front m) (is_named id) (ready_lists net m) (ready_all net front m k)) q)
    (queues net.modules) net (moved_start IsLike like_same net front k) in
    all.clear

-- drains
returns_clear : (net : Net) (front : ℕ) → Facts net front → Clear net.modules front net → (b : ℕ) → Leaves net front (returns_all net b)
returns_clear net front facts k b =
    by_test (Leaves net front) (is_retain (kind_of_binding net.head b)) _ _
    (λ _.
    let all : IsMoved IsLike net (after_rows net (map (returned_by net) (ready_lists net (Binding b)))) front =
    steps_map (λ next. IsMoved IsLike net next front) (IsKeptAt net front (Binding b)) (returned_by net) (λ next l r p. home_step net next front facts (Binding b) l 0 Success r.at r p) (ready_lists net (Binding b)) net (ready_all net front (Binding b) k) (moved_start IsLike like_same net front k) in
    all.clear)
    (λ _. k)

passes_clear : (net : Net) (front : ℕ) → Facts net front → Clear net.modules front net → (f : ℕ) → Leaves net front (passes_all net f)
passes_clear net front facts k f =
    by_test (Leaves net front) (is_hold_filter net.modules f) _ _
    (λ _.
    let all : IsMoved IsLikeLast net (after_rows net (map (passed_by net f) (ready_lists net (Filter f)))) front =
    steps_map (λ next. IsMoved IsLikeLast net next front) (IsKeptAt net front (Filter f)) (passed_by net f) (λ next l r p. on_step net next front facts (Filter f) l r p) (ready_lists net (Filter f)) net (ready_all net front (Filter f) k) (moved_start IsLikeLast last_same net front k) in
    all.clear)
    (λ _. k)

empties_clear : (net : Net) (front : ℕ) → Facts net front → Clear net.modules front net → (o : Option LiveList) → ((l : LiveList) → o ≡ Some l → IsKeptAt net front Miniport l) → Leaves net front (empties net o)
empties_clear net front facts k None w = k
empties_clear net front facts k (Some l) w =
    by_test (Leaves net front) (is_virtual net.head.kind) _ _
    (λ _. by_test (Leaves net front) (phase_is_running net.phase) _ _ (λ _. k)
    (λ _. (back_step net net front facts Miniport l Paused (w l refl) (moved_start IsLike like_same net front k)).clear))
    (λ _. transmitted_clear net front facts l k (w l refl).worked)

pub drain_clear : (net : Net) (front : ℕ) → Facts net front → Clear net.modules front net → Leaves net front (drained (drain_rows net)).rows
drain_clear net front facts k =
    moved (drain_rows net)
    (first_of_all (Leaves net front) k (map (returns_all net) (binding_numbers net.head) ++ (map (passes_all net) net.modules.order ++ empties_ring net ∷ []))
    (All-append (Leaves net front) (map (returns_all net) (binding_numbers net.head)) _ (All-map (Leaves net front) (returns_all net) (binding_numbers net.head) (returns_clear net front facts k))
    (All-append (Leaves net front) (map (passes_all net) net.modules.order) _ (All-map (Leaves net front) (passes_all net) net.modules.order (passes_clear net front facts k))
    (empties_clear net front facts k (first_of (ready_lists net Miniport)) (λ l e. each_first (IsKeptAt net front Miniport) (ready_lists net Miniport) l (ready_all net front Miniport k) e), tt))))
  where
    moved : (rows : List Row) → Leaves net front rows → Leaves net front (drained rows).rows
    moved [] h = h
    moved (r ∷ rows) h = h
