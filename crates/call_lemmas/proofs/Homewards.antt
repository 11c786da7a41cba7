-- What a filter does with a list on its way home: it passes one of another owner on; an own clone is home, and its
-- original goes homewards; an own list of which no original is kept is home alone. The rows are those of the rules.
use Rattle.std.proofs.Common.{◌≡◌, ◌≢◌, ℕ, ◌==◌, Bool, true, false, cond, List, [], ◌∷◌, ◌++◌, Option, Some, None, map, filter, find, refl, sym, ap, ◌∙◌, subst, eqb-true}
use Rattle.std.proofs.lemmas.Bool.{cond-true, cond-false}
use Rattle.ndis_base.specs.declared.ModuleId.{ModuleId}
use Rattle.ndis_base.specs.declared.ModuleId.TheVariants.{Filter}
use Rattle.ndis_base.specs.declared.ListNo.{ListNo}
use Rattle.ndis_base.specs.declared.ListStatus.{ListStatus}
use Rattle.ndis_base.specs.declared.Origin.{Origin}
use Rattle.ndis_base.specs.declared.Origin.TheVariants as origin
use Rattle.journal_types.specs.declared.PassWay.{PassWay}
use Rattle.journal_types.specs.declared.Row.{Row}
use Rattle.journal_types.specs.declared.Row.TheVariants as row
use Rattle.journal_types.specs.declared.Target.{Target}
use Rattle.buffer_pools.specs.Views.{ListView, PoolView, Frees}
use Rattle.stack_rules.specs.declared.LiveList.{LiveList}
use Rattle.stack_rules.specs.declared.Stand.TheVariants as stand
use Rattle.stack_rules.specs.Dones.{released, home_rows, completed_by, homeward_rows}
use Rattle.stack_rules.specs.Net.{Net, lists, list_of}
use Rattle.stack_rules.specs.Places.{is_kept_by, kept_lists, position}
use Rattle.stack_rules.specs.Tests.{same_module}
use Rattle.promise_rules.specs.declared.Call.{Call}
use Rattle.promise_rules.specs.Calls.{call, called_by, home_call}
use Rattle.agenda_items.specs.declared.Carried.TheVariants.{List as a_list}
use Rattle.hand_lemmas.specs.Hands.{Common, Hands, Agrees, in_state, in_hand}
use Rattle.hand_lemmas.proofs.Modules.{same_self, same_is, put_here}
use Rattle.hand_lemmas.proofs.Tells.{IsKeptThere, kept_there}
use Rattle.driver_views.specs.States.{FilterState}
use Rattle.driver_tray.specs.Tray as tray
use Rattle.driver_tray.specs.Tray.{TrayView}
use Rattle.driver_calls.specs.Filters.{original_of, without_first, Completes}
use Rattle.driver_calls.specs.Filters.Completes.{passes_back, releases, homes}
use Rattle.call_lemmas.specs.InCall.{Beside, hands_in, InCall}
use Rattle.call_lemmas.proofs.Filters.{in_homeward}
use Rattle.call_lemmas.proofs.Miniports.{home_row, homeward_in, released_none}
use Rattle.call_lemmas.proofs.Steps.{in_given, in_spent, in_passed_kept, homeward_is}

-- The original of a clone, among the lists that its owner keeps.

-- the kept lists before and behind one of a number
pub record IsAmongKept (kept : List ListView) (n : ℕ) (o : ListView) : Type 0 where
  pub front : List ListView
  pub back : List ListView
  pub is : kept ≡ front ++ o ∷ back
  pub left : without_first o.label.number.0 kept ≡ front ++ back
  pub number : o.label.number.0 ≡ n

some_is : (x y : ListView) → Some x ≡ Some y → x ≡ y
some_is x y e = cc

among_kept : (kept : List ListView) (n : ℕ) (o : ListView) → find (λ k. k.label.number.0 == n) kept ≡ Some o → IsAmongKept kept n o
among_kept [] n o e = absurd cc
among_kept (k ∷ kept) n o e = by_case (k.label.number.0 == n) refl e (among_kept kept n o)
  where
    by_case : (b : Bool) → (k.label.number.0 == n) ≡ b → cond b (Some k) (find (λ k. k.label.number.0 == n) kept) ≡ Some o → (find (λ k. k.label.number.0 == n) kept ≡ Some o → IsAmongKept kept n o) → IsAmongKept (k ∷ kept) n o
    by_case true t f more =
        let same : k ≡ o = some_is k o f in
        let number : o.label.number.0 ≡ n = ap (λ (l : ListView). l.label.number.0) (sym same) ∙ eqb-true k.label.number.0 n t in
        record {
          front = [];
          back = kept;
          is = ap (λ l. l ∷ kept) same;
          left = cond-true (k.label.number.0 == o.label.number.0) kept (k ∷ without_first o.label.number.0 kept) (ap (λ j. k.label.number.0 == j) number ∙ t);
          number = number;
        }
    by_case false t f more =
        let r = more f in
        record {
          front = k ∷ r.front;
          back = r.back;
          is = ap (λ ls. k ∷ ls) r.is;
          left = cond-false (k.label.number.0 == o.label.number.0) kept (k ∷ without_first o.label.number.0 kept) (ap (λ j. k.label.number.0 == j) r.number ∙ t) ∙ ap (λ ls. k ∷ ls) r.left;
          number = r.number;
        }

pub original_is : (from : Origin) (kept : List ListView) (o : ListView) → original_of from kept ≡ Some o → (n : ListNo) × (from ≡ origin.Clone n) × (find (λ k. k.label.number.0 == n.0) kept ≡ Some o)
original_is origin.Root kept o e = absurd cc
original_is (origin.Clone n) kept o e = (n, refl, e)
original_is (origin.Copy n) kept o e = absurd cc

-- a live list that a module keeps is among those that it has in hand
kept_found : (p : LiveList → Bool) (n : ℕ) (ls : List LiveList) (y : LiveList) → list_of n ls ≡ Some y → p y ≡ true → list_of n (filter p ls) ≡ Some y
kept_found p n [] y e k = absurd cc
kept_found p n (l ∷ ls) y e k = by_case (l.list.0 == n) (p l) refl refl e (λ f. kept_found p n ls y f k)
  where
    some_same : (x y : LiveList) → Some x ≡ Some y → x ≡ y
    some_same x y e = cc

    clash : (b : Bool) → b ≡ true → b ≡ false → ⊥
    clash b e f = cc

    by_case : (c b : Bool) → (l.list.0 == n) ≡ c → p l ≡ b → cond c (Some l) (list_of n ls) ≡ Some y → (list_of n ls ≡ Some y → list_of n (filter p ls) ≡ Some y) → list_of n (cond b (l ∷ filter p ls) (filter p ls)) ≡ Some y
    by_case true true t q f more = cond-true (l.list.0 == n) (Some l) (list_of n (filter p ls)) t ∙ f
    by_case true false t q f more = absurd (clash (p l) (ap p (some_same l y f) ∙ k) q)
    by_case false true t q f more = cond-false (l.list.0 == n) (Some l) (list_of n (filter p ls)) t ∙ more f
    by_case false false t q f more = more f

none_in_hand : (n : ℕ) (ls : List ListView) (ys : List LiveList) → map in_hand ls ≡ map in_state ys → find (λ k. k.label.number.0 == n) ls ≡ None → list_of n ys ≡ None
none_in_hand n [] [] e none = refl
none_in_hand n [] (y ∷ ys) e none = absurd cc
none_in_hand n (l ∷ ls) [] e none = absurd cc
none_in_hand n (l ∷ ls) (y ∷ ys) e none =
    let same : in_hand l ≡ in_state y = cc in
    let more : map in_hand ls ≡ map in_state ys = cc in
    by_case (l.label.number.0 == n) refl (ap (λ (c : Common). c.list.0) same) none (none_in_hand n ls ys more)
  where
    by_case : (b : Bool) → (l.label.number.0 == n) ≡ b → l.label.number.0 ≡ y.list.0 → cond b (Some l) (find (λ k. k.label.number.0 == n) ls) ≡ None → (find (λ k. k.label.number.0 == n) ls ≡ None → list_of n ys ≡ None) → cond (y.list.0 == n) (Some y) (list_of n ys) ≡ None
    by_case true t number f more = absurd cc
    by_case false t number f more = cond-false (y.list.0 == n) (Some y) (list_of n ys) (ap (λ j. j == n) (sym number) ∙ t) ∙ more f

none_clash : (o : Option LiveList) (y : LiveList) → o ≡ None → o ≡ Some y → ⊥
none_clash o y e f = cc

-- where a module keeps no list of this number, no such live list is kept by it
pub not_kept : (net : Net) (h : Hands) (m : ModuleId) (kept : List ListView) (n : ℕ) (y : LiveList) → Agrees net h → h.kept m ≡ kept → find (λ k. k.label.number.0 == n) kept ≡ None
    → list_of n (lists net.things) ≡ Some y → y.stand ≡ stand.Kept m → ⊥
not_kept net h m kept n y a is none live stands =
    none_clash (list_of n (kept_lists net m)) y (none_in_hand n kept (kept_lists net m) (ap (map in_hand) (sym is) ∙ a.kept_is m) none)
    (kept_found (λ l. is_kept_by m l.stand) n (lists net.things) y live (ap (is_kept_by m) stands ∙ same_self m))

-- What the rules say.

-- the original of a clone is kept by the clone's owner, where it is live
abbrev pub KeepsOriginal : Net → LiveList → Type 0
KeepsOriginal net x = (o : ListNo) (y : LiveList) → x.origin ≡ origin.Clone o → list_of o.0 (lists net.things) ≡ Some y → y.stand ≡ stand.Kept x.owner

not_same : (m k : ModuleId) → (m ≡ k → ⊥) → same_module m k ≡ false
not_same m k other = by_case (same_module m k) refl
  where
    by_case : (b : Bool) → same_module m k ≡ b → same_module m k ≡ false
    by_case true e = absurd (other (same_is m k e))
    by_case false e = e

-- a list of another owner
pub passing_rows : (net : Net) (x : LiveList) (l : ListView) (m : ModuleId) (status : ListStatus) → in_state x ≡ in_hand l → (l.label.owner ≡ m → ⊥)
    → row.Give l.label.number m (completed_by l.label.direction) ∷ home_row net.modules m (in_hand l) status ∷ [] ≡ homeward_rows net x m status
passing_rows net x l m status same other =
    ap (λ (c : Common). row.Give c.list m (completed_by c.direction) ∷ home_row net.modules m c status ∷ []) (sym same)
    ∙ sym (cond-false (same_module m x.owner) _ _ (not_same m x.owner (λ e. other (sym (e ∙ ap (λ (c : Common). c.owner) same)))))

own_rows : (net : Net) (x : LiveList) (l : ListView) (m : ModuleId) (status : ListStatus) → in_state x ≡ in_hand l → l.label.owner ≡ m → home_rows net x status ≡ homeward_rows net x m status
own_rows net x l m status same own =
    sym (cond-true (same_module m x.owner) (home_rows net x status) _ (ap (same_module m) (ap (λ (c : Common). c.owner) same ∙ own) ∙ same_self m))

-- an own clone whose original is kept
pub releasing_rows : (net : Net) (x y : LiveList) (l o : ListView) (m : ModuleId) (n : ListNo) (status : ListStatus) → in_state x ≡ in_hand l → l.label.owner ≡ m → l.label.origin ≡ origin.Clone n
    → list_of n.0 (lists net.things) ≡ Some y → in_state y ≡ in_hand o → row.Home l.label.number l.label.owner status ∷ home_row net.modules m (in_hand o) status ∷ [] ≡ homeward_rows net x m status
releasing_rows net x y l o m n status same own clone live also =
    let from : x.origin ≡ origin.Clone n = ap (λ (c : Common). c.origin) same ∙ clone in
    let more : released net x.owner x.origin status ≡ home_row net.modules x.owner (in_state y) status ∷ [] = rw (from, live) refl in
    ap (λ (c : Common). row.Home l.label.number l.label.owner status ∷ home_row net.modules m c status ∷ []) (sym also)
    ∙ ap (λ k. row.Home l.label.number l.label.owner status ∷ home_row net.modules k (in_state y) status ∷ []) (sym own)
    ∙ ap (λ (c : Common). row.Home c.list c.owner status ∷ home_row net.modules c.owner (in_state y) status ∷ []) (sym same)
    ∙ ap (λ rs. row.Home x.list x.owner status ∷ rs) (sym more)
    ∙ own_rows net x l m status same own

-- an own list of which no original is kept
pub homing_rows : (net : Net) (x : LiveList) (l : ListView) (m : ModuleId) (status : ListStatus) → in_state x ≡ in_hand l → l.label.owner ≡ m
    → ((o : ListNo) (y : LiveList) → x.origin ≡ origin.Clone o → list_of o.0 (lists net.things) ≡ Some y → ⊥) → row.Home l.label.number l.label.owner status ∷ [] ≡ homeward_rows net x m status
homing_rows net x l m status same own none =
    ap (λ (c : Common). row.Home c.list c.owner status ∷ []) (sym same)
    ∙ ap (λ rs. row.Home x.list x.owner status ∷ rs) (sym (released_none net x.owner x.origin status none))
    ∙ own_rows net x l m status same own

-- What the filter does.

in_result : {b : TrayView} {h : Hands} {m : ModuleId} {calls : List Call} {loose kept' : List ListView} {t' : TrayView} {rows' : List Row} (rows : List Row) (kept : List ListView) (q : TrayView) → rows ≡ rows' → kept' ≡ kept → t' ≡ q
    → InCall b h m rows calls [] q (record { front = []; loose = loose; kept = kept }) → InCall b h m rows' calls [] t' (record { front = []; loose = loose; kept = kept' })
in_result {b} {h} {m} {calls} {loose} {kept'} {t'} rows kept q are kept_is tray_is i =
    subst (λ rs. InCall b h m rs calls [] t' (record { front = []; loose = loose; kept = kept' })) are
    (subst (λ ls. InCall b h m rows calls [] t' (record { front = []; loose = loose; kept = ls })) (sym kept_is)
    (subst (λ (y : TrayView). InCall b h m rows calls [] y (record { front = []; loose = loose; kept = kept })) (sym tray_is) i))

pub in_passed_home : {b : TrayView} {h : Hands} {f : ℕ} {t' : TrayView} {loose kept' : List ListView} (l : ListView) (was : PassWay) (at : Target) (status : ListStatus) (s : FilterState) (x : LiveList)
    → InCall b h (Filter f) [] [] [] b (record { front = a_list l was at ∷ []; loose = loose; kept = s.kept }) → in_state x ≡ in_hand l → (l.label.owner ≡ Filter f → ⊥)
    → Completes s l status (tray.given b l.label.number (completed_by l.label.direction)) kept' t'
    → InCall b h (Filter f) (homeward_rows b.net x (Filter f) status) (call (Filter f) (called_by (completed_by l.label.direction))) [] t' (record { front = []; loose = loose; kept = kept' })
in_passed_home {b} {h} {f} {t'} {loose} {kept'} l was at status s x i same other (passes_back foreign kept tray_is) =
    let given = in_given l.label.number (completed_by l.label.direction) i in
    in_result _ _ _ (passing_rows b.net x l (Filter f) status same other) kept tray_is (in_homeward l was at status given)
in_passed_home l was at status s x i same other (releases o pool own from frees kept tray_is) = absurd (other (own ∙ i.caller))
in_passed_home l was at status s x i same other (homes pool own from frees kept tray_is) = absurd (other (own ∙ i.caller))

pub in_completed : {b : TrayView} {h : Hands} {f : ℕ} {t' : TrayView} {loose kept' : List ListView} (l : ListView) (was : PassWay) (at : Target) (status : ListStatus) (s : FilterState) (x : LiveList)
    → InCall b h (Filter f) [] [] [] b (record { front = a_list l was at ∷ []; loose = loose; kept = s.kept }) → in_state x ≡ in_hand l → l.label.owner ≡ Filter f → KeepsOriginal b.net x
    → Completes s l status b kept' t'
    → InCall b h (Filter f) (homeward_rows b.net x (Filter f) status) (home_call l.label.owner l.label.direction) [] t' (record { front = []; loose = loose; kept = kept' })
in_completed l was at status s x i same own keeps (passes_back foreign kept tray_is) = absurd (foreign (own ∙ sym i.caller))
in_completed {b} {h} {f} {t'} {loose} {kept'} l was at status s x i same own keeps (releases o pool mine from frees kept tray_is) =
    let clone = original_is l.label.origin s.kept o from in
    let among = among_kept s.kept clone.0.0 o clone.2 in
    let there = kept_there b.net (hands_in h (Filter f) b (record { front = a_list l was at ∷ []; loose = loose; kept = s.kept })) (Filter f) among.front o among.back i.agrees (put_here (Filter f) s.kept h.kept ∙ among.is) in
    let spent = in_spent l was at status pool i own frees in
    let split = subst (λ ls. InCall b h (Filter f) (row.Home l.label.number l.label.owner status ∷ []) (home_call l.label.owner l.label.direction) [] (tray.spent b l status pool) (record { front = []; loose = loose; kept = ls })) among.is spent in
    let t1 : TrayView = tray.spent b l status pool in
    let passed = in_passed_kept among.front among.back o (tray.homeward_row t1 o status) split (homeward_is t1 o status) in
    in_result _ _ _
    (ap (λ r. row.Home l.label.number l.label.owner status ∷ r ∷ []) (homeward_in o status spent)
    ∙ releasing_rows b.net x there.mine.x l o (Filter f) clone.0 status same own clone.1 (ap (λ n. list_of n (lists b.net.things)) (sym among.number) ∙ there.mine.live) there.mine.same)
    (kept ∙ among.left) tray_is passed
in_completed {b} {h} {f} {t'} {loose} {kept'} l was at status s x i same own keeps (homes pool mine from frees kept tray_is) =
    in_result _ _ _ (homing_rows b.net x l (Filter f) status same own none) kept tray_is (in_spent l was at status pool i own frees)
  where
    none : (o : ListNo) (y : LiveList) → x.origin ≡ origin.Clone o → list_of o.0 (lists b.net.things) ≡ Some y → ⊥
    none o y clone live =
        let stands : y.stand ≡ stand.Kept (Filter f) = keeps o y clone live ∙ ap stand.Kept (ap (λ (c : Common). c.owner) same ∙ own) in
        let lacks : find (λ k. k.label.number.0 == o.0) s.kept ≡ None = ap (λ g. original_of g s.kept) (sym clone ∙ ap (λ (c : Common). c.origin) same) ∙ from in
        not_kept b.net (hands_in h (Filter f) b (record { front = a_list l was at ∷ []; loose = loose; kept = s.kept })) (Filter f) s.kept o.0 y i.agrees (put_here (Filter f) s.kept h.kept) lacks live stands
