-- How each row leaves the live lists on their way or kept by a module that may, but for some that are just worked.
use Rattle.std.proofs.Common.{◌≡◌, ℕ, ◌==◌, ◌||◌, not, Bool, true, false, cond, List, [], ◌∷◌, Option, Some, None, refl, arith, ap, sym, subst, ◌∙◌, ◌⊎◌, inl, inr}
use Rattle.std.proofs.lemmas.Bool.Decides.{nat_tests}
use Rattle.ndis_base.specs.declared.CrossNo.{CrossNo}
use Rattle.ndis_base.specs.declared.ListNo.{ListNo}
use Rattle.ndis_base.specs.declared.ListStatus.{ListStatus}
use Rattle.ndis_base.specs.declared.ConfigNo.{ConfigNo}
use Rattle.ndis_base.specs.declared.Direction.{Direction}
use Rattle.ndis_base.specs.declared.Direction.TheVariants as direction
use Rattle.ndis_base.specs.declared.ModuleId.{ModuleId}
use Rattle.ndis_base.specs.declared.ModuleId.TheVariants.{Miniport, Filter, Binding}
use Rattle.ndis_base.specs.declared.Origin.{Origin}
use Rattle.ndis_base.specs.declared.Origin.TheVariants as origin
use Rattle.journal_types.specs.declared.OutWay.TheVariants as out
use Rattle.journal_types.specs.declared.PassWay.{PassWay}
use Rattle.journal_types.specs.declared.Target.{Target}
use Rattle.journal_types.specs.declared.Row.{Row}
use Rattle.journal_types.specs.declared.Row.TheVariants as row
use Rattle.stack_rules.specs.declared.LiveList.{LiveList}
use Rattle.stack_rules.specs.declared.Stand.{Stand}
use Rattle.stack_rules.specs.declared.Stand.TheVariants as stand
use Rattle.stack_rules.specs.Net.{Net, Modules, after, after_rows, lists, list_of, had_by, taken_by, as_kept, as_passed, request_of}
use Rattle.stack_rules.specs.Places.{position, has_clone, is_clone_of, is_crossed}
use Rattle.stack_rules.specs.Targets.{onward, homeward_by, turned_back}
use Rattle.rule_basics.specs.Live.{IsApart, Each, others, retouched, with_last}
use Rattle.rule_basics.specs.Numbers.{IsNumbered}
use Rattle.rule_basics.proofs.Each.{Each-append, Each-found, Each-implies, Each-others, Each-retouched}
use Rattle.rule_basics.proofs.Lists.{lists-append, lists-without, lists-changed, lists-kept, lists-passed}
use Rattle.rule_basics.proofs.Lives.{find_is}
use Rattle.rule_basics.proofs.Numbered.{numbered_after, lists-without_status, lists-status, lists-things_done}
use Rattle.work_laws.proofs.Weights.{Stay}
use Rattle.work_laws.proofs.Clones.{any_clone, clones_after, taken_any}
use Rattle.drain_laws.specs.Drains.{NoneCrossed}
use Rattle.drain_laws.specs.Resting.{MayKeep, Rests}
use Rattle.drain_laws.proofs.Tests.{itself, or_first, or_left, or_right}

-- a clone that is new changes nothing
may_more : (base : Net) (b c : Bool) (m : ModuleId) → (b ≡ true → c ≡ true) → MayKeep base b m → MayKeep base c m
may_more base b c Miniport f h = tt
may_more base b c (Filter g) f (inl h) = inl h
may_more base b c (Filter g) f (inr e) = inr (f e)
may_more base b c (Binding n) f h = h

rests_more : (base : Net) (b c : Bool) (s : Stand) → (b ≡ true → c ≡ true) → Rests base b s → Rests base c s
rests_more base b c stand.Unplaced f h = h
rests_more base b c (stand.Kept m) f h = may_more base b c m f h
rests_more base b c (stand.Passed way to) f h = tt

-- some lists are loose: they are just worked
abbrev pub Fine : Net → (ℕ → Bool) → (ℕ → Bool) → LiveList → Type 0
Fine base loose cloned l = (loose l.list.0 ≡ true) ⊎ Rests base (cloned l.list.0) l.stand

fine_more : (base : Net) (loose looser cloned more : ℕ → Bool) (l : LiveList) → (loose l.list.0 ≡ true → looser l.list.0 ≡ true) → Stay cloned more → Fine base loose cloned l → Fine base looser more l
fine_more base loose looser cloned more l f s (inl o) = inl (f o)
fine_more base loose looser cloned more l f s (inr r) = inr (rests_more base (cloned l.list.0) (more l.list.0) l.stand (s l.list.0) r)

-- each live list of the state rests, or is loose; and where none had crossed, none has
pub record Rest (base : Net) (loose : ℕ → Bool) (next : Net) : Type 0 where
  pub numbered : IsNumbered next
  pub each : Each (Fine base loose (has_clone next)) (lists next.things)
  pub free : NoneCrossed base → NoneCrossed next

abbrev IsFree : LiveList → Type 0
IsFree l = is_crossed l.crossed ≡ false

-- no list is loose, or only one
abbrev pub none : ℕ → Bool
none n = false

abbrev pub only : ℕ → ℕ → Bool
only k n = n == k

-- one more is loose, or one less
abbrev pub Opens : ℕ → (ℕ → Bool) → (ℕ → Bool) → Type 0
Opens k loose looser = (looser k ≡ true) × ((n : ℕ) → loose n ≡ true → looser n ≡ true)

abbrev pub Closes : ℕ → (ℕ → Bool) → (ℕ → Bool) → Type 0
Closes k loose closed = (n : ℕ) → loose n ≡ true → (n == k) ≡ false → closed n ≡ true

pub closes_none : (k : ℕ) → Closes k none none
closes_none k n o e = o

pub closes_only : (k : ℕ) → Closes k (only k) none
closes_only k n o e = cc

-- a list is issued
pub issue_rest : (base next : Net) (loose looser : ℕ → Bool) (list : ListNo) (owner : ModuleId) (config : ConfigNo) (direction : Direction) (cancel : Option ℕ) (origin : Origin) (frames : List (List ℕ)) → list.0 ≡ next.next.list → Opens list.0 loose looser →
    Rest base loose next → Rest base looser (after next (row.Issue list owner config direction cancel origin frames))
issue_rest base next loose looser list owner config direction cancel origin frames e o h =
    let r : Row = row.Issue list owner config direction cancel origin frames in
    let new : LiveList = record { list = list; owner = owner; direction = direction; cancel = cancel; origin = origin; frames = frames; last = owner; stand = stand.Unplaced; crossed = None } in
    let old : Each (Fine base looser (has_clone (after next r))) (lists next.things) =
    Each-implies _ _ (λ l f. fine_more base loose looser (has_clone next) (has_clone (after next r)) l (o.1 l.list.0) (clones_after next r h.numbered refl) f) (lists next.things) h.each in
    record {
      numbered = numbered_after next r e h.numbered;
      each = subst (Each (Fine base looser (has_clone (after next r)))) (sym (lists-append next.things _)) (Each-append _ (lists next.things) new old (inl o.0));
      free = λ f. subst (Each IsFree) (sym (lists-append next.things _)) (Each-append IsFree (lists next.things) new (h.free f) refl);
    }

-- the lists but one
others_each : (P Q : LiveList → Type 0) (n : ℕ) → ((l : LiveList) → (l.list.0 == n) ≡ false → P l → Q l) → (ls : List LiveList) → Each P ls → Each Q (others n ls)
others_each P Q n f [] h = tt
others_each P Q n f (x ∷ ls) h =
    let rest = others_each P Q n f ls h.1 in
    let cases : (b : Bool) → (x.list.0 == n) ≡ b → Each Q (cond (not b) (x ∷ others n ls) (others n ls)) = elim [
      | true ↦ λ t. rest
      | false ↦ λ t. (f x t h.0, rest)
    ] in
    cases (x.list.0 == n) refl

last_each : (P : LiveList → Type 0) (ls : List LiveList) (o : Option LiveList) → Each P ls → ((l : LiveList) → o ≡ Some l → P l) → Each P (with_last ls o)
last_each P ls None h f = h
last_each P ls (Some l) h f = Each-append P ls l h (f l refl)

some_same : (x l : LiveList) → Some x ≡ Some l → x ≡ l
some_same x l f = cc

-- a list is passed on
pub pass_rest : (base next : Net) (loose closed : ℕ → Bool) (list : ListNo) (way : PassWay) (to : Target) → Closes list.0 loose closed → Rest base loose next → Rest base closed (after next (row.Pass list way to))
pass_rest base next loose closed list way to c h =
    let r : Row = row.Pass list way to in
    let ls : List LiveList = lists next.things in
    let P : LiveList → Type 0 = Fine base closed (has_clone (after next r)) in
    let old : Each P (others list.0 ls) =
    others_each (Fine base loose (has_clone next)) P list.0
    (λ l t f. fine_more base loose closed (has_clone next) (has_clone (after next r)) l (λ o. c l.list.0 o t) (clones_after next r h.numbered refl) f) ls h.each in
    let new : (l : LiveList) → as_passed way to (list_of list.0 ls) ≡ Some l → P l = λ l e. is_passed P (list_of list.0 ls) l (λ x. inr tt) e in
    record {
      numbered = numbered_after next r tt h.numbered;
      each = subst (Each P) (sym (lists-passed list.0 way to next.things)) (last_each P (others list.0 ls) (as_passed way to (list_of list.0 ls)) old new);
      free = λ f. subst (Each IsFree) (sym (lists-passed list.0 way to next.things)) (last_each IsFree (others list.0 ls) (as_passed way to (list_of list.0 ls)) (Each-others IsFree list.0 ls (h.free f)) (λ l e. is_passed IsFree (list_of list.0 ls) l (λ x. refl) e));
    }
  where
    is_passed : (P : LiveList → Type 0) (o : Option LiveList) (l : LiveList) → ((x : LiveList) → P (record x { stand = stand.Passed way to; crossed = None })) → as_passed way to o ≡ Some l → P l
    is_passed P None l f e = cc
    is_passed P (Some x) l f e = subst P (some_same (record x { stand = stand.Passed way to; crossed = None }) l e) (f x)

-- a list is kept
pub keep_rest : (base next : Net) (loose closed : ℕ → Bool) (list : ListNo) (m : ModuleId) → Closes list.0 loose closed → MayKeep base (has_clone next list.0) m → Rest base loose next → Rest base closed (after next (row.Keep list m))
keep_rest base next loose closed list m c may h =
    let r : Row = row.Keep list m in
    let ls : List LiveList = lists next.things in
    let more : Stay (has_clone next) (has_clone (after next r)) = clones_after next r h.numbered refl in
    let P : LiveList → Type 0 = Fine base closed (has_clone (after next r)) in
    let old : Each P (others list.0 ls) =
    others_each (Fine base loose (has_clone next)) P list.0
    (λ l t f. fine_more base loose closed (has_clone next) (has_clone (after next r)) l (λ o. c l.list.0 o t) more f) ls h.each in
    let kept : MayKeep base (has_clone (after next r) list.0) m = may_more base (has_clone next list.0) (has_clone (after next r) list.0) m (more list.0) may in
    let new : (l : LiveList) → as_kept m (list_of list.0 ls) ≡ Some l → P l = λ l e. is_kept P (list_of list.0 ls) refl l (λ x i. inr (subst (λ n. MayKeep base (has_clone (after next r) n) m) (sym i) kept)) e in
    record {
      numbered = numbered_after next r tt h.numbered;
      each = subst (Each P) (sym (lists-kept list.0 m next.things)) (last_each P (others list.0 ls) (as_kept m (list_of list.0 ls)) old new);
      free = λ f. subst (Each IsFree) (sym (lists-kept list.0 m next.things)) (last_each IsFree (others list.0 ls) (as_kept m (list_of list.0 ls)) (Each-others IsFree list.0 ls (h.free f)) (λ l e. was_free (list_of list.0 ls) refl l (h.free f) e));
    }
  where
    is_kept : (P : LiveList → Type 0) (o : Option LiveList) → list_of list.0 (lists next.things) ≡ o → (l : LiveList) → ((x : LiveList) → x.list.0 ≡ list.0 → P (record x { last = m; stand = stand.Kept m })) → as_kept m o ≡ Some l → P l
    is_kept P None i l f e = cc
    is_kept P (Some x) i l f e = subst P (some_same (record x { last = m; stand = stand.Kept m }) l e) (f x (find_is list.0 (lists next.things) x i).0)

    was_free : (o : Option LiveList) → list_of list.0 (lists next.things) ≡ o → (l : LiveList) → NoneCrossed next → as_kept m o ≡ Some l → IsFree l
    was_free None i l f e = cc
    was_free (Some x) i l f e = subst IsFree (some_same (record x { last = m; stand = stand.Kept m }) l e) (Each-found IsFree list.0 (lists next.things) x f i)

-- a list is home: what it was a clone of may have no clone any more
pub home_rest : (base next : Net) (loose closed : ℕ → Bool) (l : LiveList) (owner : ModuleId) (status : ListStatus) → list_of l.list.0 (lists next.things) ≡ Some l → Closes l.list.0 loose closed → ((o : ListNo) → l.origin ≡ origin.Clone o → closed o.0 ≡ true) →
    Rest base loose next → Rest base closed (after next (row.Home l.list owner status))
home_rest base next loose closed l owner status found c opens h =
    let r : Row = row.Home l.list owner status in
    let ls : List LiveList = lists next.things in
    let P : LiveList → Type 0 = Fine base closed (has_clone (after next r)) in
    let old : Each P (others l.list.0 ls) = others_each (Fine base loose (has_clone next)) P l.list.0 (λ k t f. one k t f) ls h.each in
    let left : lists (after next r).things ≡ others l.list.0 ls = lists-without l.list.0 next.things in
    record {
      numbered = numbered_after next r tt h.numbered;
      each = subst (Each P) (sym left) old;
      free = λ f. subst (Each IsFree) (sym left) (Each-others IsFree l.list.0 ls (h.free f));
    }
  where
    still : (n : ℕ) → is_clone_of n l.origin ≡ false → has_clone next n ≡ true → has_clone (after next (row.Home l.list owner status)) n ≡ true
    still n e t = ap (any_clone n) (lists-without l.list.0 next.things) ∙ or_first (any_clone n (others l.list.0 (lists next.things))) (is_clone_of n l.origin) e (taken_any n l.list.0 (lists next.things) l h.numbered.apart found t)

    clone_is : (n : ℕ) (by : Origin) → is_clone_of n by ≡ true → (o : ListNo) × (by ≡ origin.Clone o) × (n ≡ o.0)
    clone_is n origin.Root t = cc
    clone_is n (origin.Copy o) t = cc
    clone_is n (origin.Clone o) t = (o, refl, grind (arith, nat_tests))

    loosened : (n : ℕ) → (o : ListNo) × (l.origin ≡ origin.Clone o) × (n ≡ o.0) → closed n ≡ true
    loosened n o = ap closed o.2 ∙ opens o.0 o.1

    one : (k : LiveList) → (k.list.0 == l.list.0) ≡ false → Fine base loose (has_clone next) k → Fine base closed (has_clone (after next (row.Home l.list owner status))) k
    one k t (inl o) = inl (c k.list.0 o t)
    one k t (inr r) = by (is_clone_of k.list.0 l.origin) refl
      where
        by : (b : Bool) → is_clone_of k.list.0 l.origin ≡ b → Fine base closed (has_clone (after next (row.Home l.list owner status))) k
        by true e = inl (loosened k.list.0 (clone_is k.list.0 l.origin e))
        by false e = inr (rests_more base (has_clone next k.list.0) _ k.stand (still k.list.0 e) r)

-- rows that leave each list where it is
abbrev pub is_plain_row : Row → Bool
is_plain_row (row.Give list m handler) = true
is_plain_row (row.TurnBack list m status) = true
is_plain_row (row.Wire list frames) = true
is_plain_row (row.Deliver list binding how frames) = true
is_plain_row (row.OidIssue request parent binding kind code value) = true
is_plain_row (row.OidGive request m) = true
is_plain_row (row.OidDone request status value) = true
is_plain_row (row.Status number name to) = true
is_plain_row (row.Seen number m) = true
is_plain_row (row.CrossOut message out.Up frames) = true
is_plain_row (row.CrossIn stack message way frames) = true
is_plain_row _ = false

-- lists that are the same, or touched without a change of their numbers and stands
by_lists : (base next other : Net) (loose : ℕ → Bool) → IsNumbered other → Stay (has_clone next) (has_clone other) → ((P : LiveList → Type 0) → ((l : LiveList) (m : ModuleId) → P l → P (had_by m l)) → Each P (lists next.things) → Each P (lists other.things)) → Rest base loose next → Rest base loose other
by_lists base next other loose n s f h = record {
  numbered = n;
  each = Each-implies _ _ (λ l r. fine_more base loose loose (has_clone next) (has_clone other) l (λ o. o) s r) (lists other.things) (f (Fine base loose (has_clone next)) (λ l m r. r) h.each);
  free = λ g. f IsFree (λ l m r. r) (h.free g);
}

touched_each : (P : LiveList → Type 0) (n : ℕ) (g : LiveList → LiveList) (ls : List LiveList) → ((l : LiveList) → P l → P (g l)) → IsApart ls → Each P ls → Each P (retouched n g ls)
touched_each P n g ls f a h = Each-retouched P n g ls a h (λ l e. f l (Each-found P n ls l h e))

pub plain_rest : (base next : Net) (loose : ℕ → Bool) (r : Row) → is_plain_row r ≡ true → Rest base loose next → Rest base loose (after next r)
plain_rest base next loose (row.Give list m handler) p h =
    let r : Row = row.Give list m handler in
    by_lists base next (after next r) loose (numbered_after next r tt h.numbered) (clones_after next r h.numbered refl)
    (λ P f e. subst (Each P) (sym (lists-changed list.0 (had_by m) next.things)) (touched_each P list.0 (had_by m) (lists next.things) (λ l p. f l m p) h.numbered.apart e)) h
plain_rest base next loose (row.TurnBack list m status) p h =
    let r : Row = row.TurnBack list m status in
    by_lists base next (after next r) loose (numbered_after next r tt h.numbered) (clones_after next r h.numbered refl)
    (λ P f e. subst (Each P) (sym (lists-changed list.0 (had_by m) next.things)) (touched_each P list.0 (had_by m) (lists next.things) (λ l p. f l m p) h.numbered.apart e)) h
plain_rest base next loose (row.CrossOut message (out.Down list) frames) p h = cc
plain_rest base next loose (row.CrossOut message out.Up frames) p h = record { numbered = record { apart = h.numbered.apart; below = h.numbered.below }; each = h.each; free = h.free }
plain_rest base next loose (row.CrossIn stack message way frames) p h = h
plain_rest base next loose (row.Wire list frames) p h = record { numbered = record { apart = h.numbered.apart; below = h.numbered.below }; each = h.each; free = h.free }
plain_rest base next loose (row.Deliver list binding how frames) p h = record { numbered = record { apart = h.numbered.apart; below = h.numbered.below }; each = h.each; free = h.free }
plain_rest base next loose (row.OidIssue request parent binding kind code value) p h = record { numbered = record { apart = h.numbered.apart; below = h.numbered.below }; each = h.each; free = h.free }
plain_rest base next loose (row.OidGive request m) p h = record { numbered = record { apart = h.numbered.apart; below = h.numbered.below }; each = h.each; free = h.free }
plain_rest base next loose (row.OidDone request status value) p h =
    let r : Row = row.OidDone request status value in
    by_lists base next (after next r) loose (numbered_after next r tt h.numbered) (clones_after next r h.numbered refl)
    (λ P f e. subst (Each P) (sym (lists-things_done (request_of request.0 next.requests) request status value next.things)) e) h
plain_rest base next loose (row.Status number name to) p h =
    let r : Row = row.Status number name to in
    by_lists base next (after next r) loose (numbered_after next r tt h.numbered) (clones_after next r h.numbered refl)
    (λ P f e. subst (Each P) (sym (lists-status number.0 next.things _ refl)) e) h
plain_rest base next loose (row.Seen number m) p h =
    let r : Row = row.Seen number m in
    by_lists base next (after next r) loose (numbered_after next r tt h.numbered) (clones_after next r h.numbered refl)
    (λ P f e. subst (Each P) (sym (lists-without_status number.0 next.things)) e) h
plain_rest base next loose _ p h = cc

-- onwards and homewards
pub onward_rest : (base next : Net) (loose closed : ℕ → Bool) (ms : Modules) (list : ListNo) (d : Direction) (i : ℕ) → Closes list.0 loose closed → Rest base loose next → Rest base closed (after next (onward ms list d i))
onward_rest base next loose closed ms list direction.Down i c h = pass_rest base next loose closed list _ _ c h
onward_rest base next loose closed ms list direction.Up i c h = pass_rest base next loose closed list _ _ c h
onward_rest base next loose closed ms list direction.Lent i c h = pass_rest base next loose closed list _ _ c h

pub homeward_rest : (base next : Net) (loose closed : ℕ → Bool) (ms : Modules) (list : ListNo) (owner : ModuleId) (d : Direction) (i : ℕ) (status : ListStatus) → Closes list.0 loose closed → Rest base loose next → Rest base closed (after next (homeward_by ms list owner d i status))
homeward_rest base next loose closed ms list owner direction.Down i status c h = pass_rest base next loose closed list _ _ c h
homeward_rest base next loose closed ms list owner direction.Up i status c h = pass_rest base next loose closed list _ _ c h
homeward_rest base next loose closed ms list owner direction.Lent i status c h = pass_rest base next loose closed list _ _ c h

-- a list is issued and goes on
pub issue_on : (base next : Net) (loose : ℕ → Bool) (ms : Modules) (list : ListNo) (owner : ModuleId) (config : ConfigNo) (direction : Direction) (cancel : Option ℕ) (origin : Origin) (frames : List (List ℕ)) (i : ℕ) → list.0 ≡ next.next.list →
    Rest base loose next → Rest base loose (after (after next (row.Issue list owner config direction cancel origin frames)) (onward ms list direction i))
issue_on base next loose ms list owner config direction cancel origin frames i e h =
    onward_rest base (after next (row.Issue list owner config direction cancel origin frames)) (λ n. loose n || (n == list.0)) loose ms list direction i (λ n o t. or_first (loose n) (n == list.0) t o)
    (issue_rest base next loose (λ n. loose n || (n == list.0)) list owner config direction cancel origin frames e (or_right (loose list.0) (list.0 == list.0) (itself list.0), λ n o. or_left (loose n) (n == list.0) o) h)

-- rows that leave all lists resting, whatever came before
abbrev pub KeepsRest : Net → List Row → Type 0
KeepsRest base rows = (next : Net) → Rest base none next → Rest base none (after_rows next rows)

pub back_rest : (base next : Net) (ms : Modules) (l : LiveList) (m : ModuleId) (status : ListStatus) → Rest base none next → Rest base none (after_rows next (turned_back ms l m status))
back_rest base next ms l m status h =
    homeward_rest base (after next (row.TurnBack l.list m status)) none none ms l.list l.owner l.direction (position ms.order m) status (closes_none l.list.0)
    (plain_rest base next none (row.TurnBack l.list m status) refl h)

-- a list is taken to another stack
pub cross_rest : (base : Net) (list : ListNo) (message : CrossNo) (frames : List (List ℕ)) → Rest base none base → Rest (after base (row.CrossOut message (out.Down list) frames)) none (after base (row.CrossOut message (out.Down list) frames))
cross_rest base list message frames h =
    let r : Row = row.CrossOut message (out.Down list) frames in
    let all : Each (Fine base none (has_clone base)) (lists (after base r).things) =
    subst (Each (Fine base none (has_clone base))) (sym (lists-changed list.0 (taken_by message.0) base.things)) (touched_each _ list.0 (taken_by message.0) (lists base.things) (λ l f. f) h.numbered.apart h.each) in
    record {
      numbered = numbered_after base r tt h.numbered;
      each = Each-implies _ _ (λ l f. crossed l f) (lists (after base r).things) all;
      free = λ f. f;
    }
  where
    may : (m : ModuleId) (b : Bool) → MayKeep base b m → MayKeep (after base (row.CrossOut message (out.Down list) frames)) b m
    may Miniport b h = tt
    may (Filter f) b h = h
    may (Binding n) b h = h

    rests : (s : Stand) (b : Bool) → Rests base b s → Rests (after base (row.CrossOut message (out.Down list) frames)) b s
    rests stand.Unplaced b h = h
    rests (stand.Kept m) b h = may m b h
    rests (stand.Passed way to) b h = tt

    crossed : (l : LiveList) → Fine base none (has_clone base) l → Fine (after base (row.CrossOut message (out.Down list) frames)) none (has_clone (after base (row.CrossOut message (out.Down list) frames))) l
    crossed l (inl o) = inl o
    crossed l (inr r) = inr (rests l.stand _ (rests_more base (has_clone base l.list.0) _ l.stand (clones_after base (row.CrossOut message (out.Down list) frames) h.numbered refl l.list.0) r))
