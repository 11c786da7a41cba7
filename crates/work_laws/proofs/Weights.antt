-- What each thing weighs where the lists of certain numbers have clones, and how each row changes the load.
use Rattle.std.proofs.Common.{◌≡◌, ℕ, ◌+◌, ◌-◌, ◌*◌, ◌≤◌, ◌||◌, Bool, true, false, cond, List, Option, Some, None, refl, arith, subst, sum_by}
use Rattle.std.proofs.lemmas.List.Sums.{sum_by-le-sum_by}
use Rattle.ndis_base.specs.declared.ModuleId.{ModuleId}
use Rattle.ndis_base.specs.declared.ListNo.{ListNo}
use Rattle.ndis_base.specs.declared.ListStatus.{ListStatus}
use Rattle.ndis_base.specs.declared.ConfigNo.{ConfigNo}
use Rattle.ndis_base.specs.declared.Direction.{Direction}
use Rattle.ndis_base.specs.declared.Origin.{Origin}
use Rattle.journal_types.specs.declared.Handler.{Handler}
use Rattle.journal_types.specs.declared.PassWay.{PassWay}
use Rattle.journal_types.specs.declared.PassWay.TheVariants as way
use Rattle.journal_types.specs.declared.Target.{Target}
use Rattle.journal_types.specs.declared.Row.TheVariants as row
use Rattle.stack_rules.specs.declared.LiveList.{LiveList}
use Rattle.stack_rules.specs.declared.Stand.TheVariants as stand
use Rattle.stack_rules.specs.declared.Thing.{Thing}
use Rattle.stack_rules.specs.declared.Thing.TheVariants as thing
use Rattle.stack_rules.specs.Tests.{is_down}
use Rattle.stack_rules.specs.Net.{Net, after, lists, list_of, without, had_by, as_kept, as_passed, request_of}
use Rattle.stack_rules.specs.Places.{position_of_target, is_crossed, has_clone}
use Rattle.stack_rules.specs.Work.{bottom, up_work, kept_work, list_work, holder_position, request_work, thing_work, work}
use Rattle.work_laws.proofs.Sums.{sum_without, sum_taken, sum_changed, sum_last, sum_at_end}

-- what a list on its way weighs
abbrev pub passed_work : Net → PassWay → Target → ℕ
passed_work net way.Down to = 2 * (bottom net - position_of_target net.modules.order to) + bottom net + 2
passed_work net (way.Done status) to = position_of_target net.modules.order to + 1
passed_work net way.Up to = up_work net (position_of_target net.modules.order to) + 1
passed_work net (way.Back status) to = bottom net - position_of_target net.modules.order to + 1

pub passed_same : (net : Net) (l : LiveList) (way : PassWay) (to : Target) → list_work net l (stand.Passed way to) ≡ passed_work net way to
passed_same net l way.Down to = refl
passed_same net l (way.Done status) to = refl
passed_same net l way.Up to = refl
passed_same net l (way.Back status) to = refl

abbrev pub weight : Net → (ℕ → Bool) → Thing → ℕ
weight net cloned (thing.List l) = cond (is_crossed l.crossed || cloned l.list.0) 0 (list_work net l l.stand)
weight net cloned (thing.Status s) = position_of_target net.modules.order s.to + 1
weight net cloned (thing.Answer a) = holder_position net (request_of a.parent.0 net.requests)

abbrev pub asked_work : Net → ℕ
asked_work net = sum_by (λ r. request_work net r.at) net.requests

abbrev pub load : Net → (ℕ → Bool) → ℕ
load net cloned = sum_by (weight net cloned) net.things + asked_work net

same_weight : (net : Net) (t : Thing) → weight net (has_clone net) t ≡ thing_work net t
same_weight net (thing.List l) = refl
same_weight net (thing.Status s) = refl
same_weight net (thing.Answer a) = refl

-- the work is the load
pub work_most : (net : Net) → work net ≤ load net (has_clone net)
work_most net =
    let most = sum_by-le-sum_by (thing_work net) (weight net (has_clone net)) net.things (λ t. let e = same_weight net t in omega (arith, e)) in
    omega (arith, most)

pub work_least : (net : Net) → load net (has_clone net) ≤ work net
work_least net =
    let most = sum_by-le-sum_by (weight net (has_clone net)) (thing_work net) net.things (λ t. let e = same_weight net t in omega (arith, e)) in
    omega (arith, most)

-- where more lists have clones less is left to do
abbrev pub Stay : (ℕ → Bool) → (ℕ → Bool) → Type 0
Stay cloned more = (n : ℕ) → cloned n ≡ true → more n ≡ true

lighter : (a b c : Bool) (k : ℕ) → (b ≡ true → c ≡ true) → cond (a || c) 0 k ≤ cond (a || b) 0 k
lighter true b c k h = omega arith
lighter false true c k h = rw (h refl) (omega arith)
lighter false false true k h = omega arith
lighter false false false k h = omega arith

pub weight_less : (net : Net) (cloned more : ℕ → Bool) → Stay cloned more → (t : Thing) → weight net more t ≤ weight net cloned t
weight_less net cloned more s (thing.List l) = lighter (is_crossed l.crossed) (cloned l.list.0) (more l.list.0) (list_work net l l.stand) (s l.list.0)
weight_less net cloned more s (thing.Status a) = omega arith
weight_less net cloned more s (thing.Answer a) = omega arith

pub load_less : (net : Net) (cloned more : ℕ → Bool) → Stay cloned more → load net more ≤ load net cloned
load_less net cloned more s =
    let less = sum_by-le-sum_by (weight net more) (weight net cloned) net.things (weight_less net cloned more s) in
    omega (arith, less)

-- what is left to do after some rows
pub work_after : (net : Net) (cloned : ℕ → Bool) → Stay cloned (has_clone net) → work net ≤ load net cloned
work_after net cloned s = let most = work_most net in let less = load_less net cloned (has_clone net) s in omega (arith, most, less)

cond_most : (b : Bool) (k : ℕ) → cond b 0 k ≤ k
cond_most true k = omega arith
cond_most false k = omega arith

cond_none : (b : Bool) → cond b 0 0 ≤ 0
cond_none true = omega arith
cond_none false = omega arith

module _ (net : Net) (cloned : ℕ → Bool) where
  -- a list that was put on its way weighs what its way and its target say; one that is kept what its keeper says
  abbrev pub ChangeWeighs : (Option LiveList → Option LiveList) → ℕ → Type 0
  ChangeWeighs change k = (o : Option LiveList) (l : LiveList) → change o ≡ Some l → weight net cloned (thing.List l) ≤ k

  pub passed_weighs : (way : PassWay) (to : Target) → ChangeWeighs (as_passed way to) (passed_work net way to)
  passed_weighs way to None l e = cc
  passed_weighs way to (Some x) l e =
      let same = passed_same net x way to in
      let most = cond_most (cloned x.list.0) (list_work net x (stand.Passed way to)) in
      subst (λ (k : LiveList). weight net cloned (thing.List k) ≤ passed_work net way to) (some_same (record x { stand = stand.Passed way to; crossed = None }) l e) (omega (arith, same, most))
    where
      some_same : (x l : LiveList) → Some x ≡ Some l → x ≡ l
      some_same x l f = cc

  kept_weighs : (m : ModuleId) (l k : LiveList) → as_kept m (Some l) ≡ Some k → weight net cloned (thing.List k) ≤ kept_work net (is_down l.direction) m
  kept_weighs m l k e =
      let most = cond_most (is_crossed l.crossed || cloned l.list.0) (kept_work net (is_down l.direction) m) in
      subst (λ (k : LiveList). weight net cloned (thing.List k) ≤ kept_work net (is_down l.direction) m) (some_same (record l { last = m; stand = stand.Kept m }) k e) most
    where
      some_same : (x l : LiveList) → Some x ≡ Some l → x ≡ l
      some_same x l f = cc

  pub load_pass : (list : ListNo) (way : PassWay) (to : Target) → load (after net (row.Pass list way to)) cloned ≤ load net cloned + passed_work net way to
  load_pass list way to =
      let out = sum_without (weight net cloned) list.0 net.things in
      let back = sum_at_end (weight net cloned) (without list.0 net.things) (passed_work net way to) (as_passed way to (list_of list.0 (lists net.things))) (passed_weighs way to (list_of list.0 (lists net.things))) in
      omega (arith, out, back)

  pub load_moved : (list : ListNo) (way : PassWay) (to : Target) (l : LiveList) → list_of list.0 (lists net.things) ≡ Some l → load (after net (row.Pass list way to)) cloned + weight net cloned (thing.List l) ≤ load net cloned + passed_work net way to
  load_moved list way to l f =
      let out = sum_taken (weight net cloned) list.0 net.things l f in
      let back = sum_at_end (weight net cloned) (without list.0 net.things) (passed_work net way to) (as_passed way to (list_of list.0 (lists net.things))) (passed_weighs way to (list_of list.0 (lists net.things))) in
      omega (arith, out, back)

  pub load_keep : (list : ListNo) (m : ModuleId) (l : LiveList) → list_of list.0 (lists net.things) ≡ Some l → load (after net (row.Keep list m)) cloned + weight net cloned (thing.List l) ≤ load net cloned + kept_work net (is_down l.direction) m
  load_keep list m l f =
      let out = sum_taken (weight net cloned) list.0 net.things l f in
      let weighs : (k : LiveList) → as_kept m (list_of list.0 (lists net.things)) ≡ Some k → weight net cloned (thing.List k) ≤ kept_work net (is_down l.direction) m = λ k. rw f (kept_weighs m l k) in
      let back = sum_at_end (weight net cloned) (without list.0 net.things) (kept_work net (is_down l.direction) m) (as_kept m (list_of list.0 (lists net.things))) weighs in
      omega (arith, out, back)

  -- a new list weighs nothing yet
  pub load_issue : (list : ListNo) (owner : ModuleId) (config : ConfigNo) (direction : Direction) (cancel : Option ℕ) (origin : Origin) (frames : List (List ℕ)) → load (after net (row.Issue list owner config direction cancel origin frames)) cloned ≤ load net cloned
  load_issue list owner config direction cancel origin frames =
      let new : LiveList = record { list = list; owner = owner; direction = direction; cancel = cancel; origin = origin; frames = frames; last = owner; stand = stand.Unplaced; crossed = None } in
      let last = sum_last (weight net cloned) net.things (thing.List new) in
      let none = cond_none (cloned list.0) in
      omega (arith, last, none)

  -- where a list was last doesn't matter
  pub load_give : (list : ListNo) (m : ModuleId) (handler : Handler) → load (after net (row.Give list m handler)) cloned ≤ load net cloned
  load_give list m handler = let less = sum_changed (weight net cloned) list.0 (had_by m) (λ l. omega arith) net.things in omega (arith, less)

  pub load_back : (list : ListNo) (m : ModuleId) (status : ListStatus) → load (after net (row.TurnBack list m status)) cloned ≤ load net cloned
  load_back list m status = let less = sum_changed (weight net cloned) list.0 (had_by m) (λ l. omega arith) net.things in omega (arith, less)

  pub load_home : (list : ListNo) (owner : ModuleId) (status : ListStatus) → load (after net (row.Home list owner status)) cloned ≤ load net cloned
  load_home list owner status = let out = sum_without (weight net cloned) list.0 net.things in omega (arith, out)

  pub load_gone : (list : ListNo) (owner : ModuleId) (status : ListStatus) (l : LiveList) → list_of list.0 (lists net.things) ≡ Some l → load (after net (row.Home list owner status)) cloned + weight net cloned (thing.List l) ≤ load net cloned
  load_gone list owner status l f = let out = sum_taken (weight net cloned) list.0 net.things l f in omega (arith, out)
