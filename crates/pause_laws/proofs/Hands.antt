-- What each row leaves clear of the paused positions.
use Rattle.std.proofs.Common.{◌≡◌, ℕ, ◌+◌, ◌≤◌, Bool, true, false, List, [], ◌∷◌, ◌++◌, Option, None, refl, arith, ap, sym, subst, ◌∙◌}
use Rattle.ndis_base.specs.declared.ModuleId.{ModuleId}
use Rattle.ndis_base.specs.declared.ListNo.{ListNo}
use Rattle.ndis_base.specs.declared.ListStatus.{ListStatus}
use Rattle.ndis_base.specs.declared.ConfigNo.{ConfigNo}
use Rattle.ndis_base.specs.declared.Direction.{Direction}
use Rattle.ndis_base.specs.declared.Origin.{Origin}
use Rattle.journal_types.specs.declared.Handler.{Handler}
use Rattle.journal_types.specs.declared.PassWay.{PassWay}
use Rattle.journal_types.specs.declared.Target.{Target}
use Rattle.journal_types.specs.declared.OutWay.TheVariants as out
use Rattle.journal_types.specs.declared.Row.{Row}
use Rattle.journal_types.specs.declared.Row.TheVariants as row
use Rattle.stack_rules.specs.declared.LiveList.{LiveList}
use Rattle.stack_rules.specs.declared.Stand.TheVariants as stand
use Rattle.stack_rules.specs.Net.{Net, Modules, after, lists, list_of, had_by, taken_by, as_passed, as_kept, request_of}
use Rattle.stack_rules.specs.Places.{position}
use Rattle.rule_basics.specs.Live.{others, with_last}
use Rattle.rule_basics.proofs.Lists.{lists-append, lists-without, lists-changed, lists-kept, lists-passed}
use Rattle.rule_basics.proofs.Numbered.{lists-things_done, lists-status, lists-without_status}
use Rattle.pause_laws.specs.Clear.{IsClear, AreClear}
use Rattle.pause_laws.proofs.Lists.{clear_gone, clear_new, clear_touched, clear_found, InHand, hand_touch, hand_put, hand_issue, hand_new}

-- all lists of the state are clear; all but one, which is in hand
abbrev pub Clear : Modules → ℕ → Net → Type 0
Clear ms front net = AreClear ms front (lists net.things) net.next.list

abbrev pub Hand : Modules → ℕ → ℕ → LiveList → Net → Type 0
Hand ms front n l net = InHand ms front n l (lists net.things) net.next.list

-- a list that is just issued
abbrev pub issued : ListNo → ModuleId → Direction → Option ℕ → Origin → List (List ℕ) → LiveList
issued list owner direction cancel origin frames = record {
  list = list;
  owner = owner;
  direction = direction;
  cancel = cancel;
  origin = origin;
  frames = frames;
  last = owner;
  stand = stand.Unplaced;
  crossed = None;
}

-- the row moves no list
abbrev pub is_skipped : Row → Bool
is_skipped (row.Home list owner status) = true
is_skipped (row.Wire list frames) = true
is_skipped (row.Deliver list binding how frames) = true
is_skipped (row.OidIssue request parent binding kind code value) = true
is_skipped (row.OidGive request m) = true
is_skipped (row.OidDone request status value) = true
is_skipped (row.Status number name to) = true
is_skipped (row.Seen number m) = true
is_skipped (row.CrossOut message way frames) = true
is_skipped (row.CrossIn stack message way frames) = true
is_skipped _ = false

module _ (ms : Modules) (front : ℕ) where
  clear_by : (next : ℕ) (ls ys : List LiveList) → ys ≡ ls → AreClear ms front ls next → AreClear ms front ys next
  clear_by next ls ys e h = subst (λ zs. AreClear ms front zs next) (sym e) h

  hand_by : (n : ℕ) (l : LiveList) (next : ℕ) (ls ys : List LiveList) → ys ≡ ls → InHand ms front n l ls next → InHand ms front n l ys next
  hand_by n l next ls ys e h = subst (λ zs. InHand ms front n l zs next) (sym e) h

  pub clear_skip : (net : Net) (r : Row) → is_skipped r ≡ true → Clear ms front net → Clear ms front (after net r)
  clear_skip net (row.Home list owner status) q h = clear_by net.next.list _ _ (lists-without list.0 net.things) (clear_gone ms front list.0 (lists net.things) net.next.list h)
  clear_skip net (row.Wire list frames) q h = h
  clear_skip net (row.Deliver list binding how frames) q h = h
  clear_skip net (row.OidIssue request parent binding kind code value) q h = h
  clear_skip net (row.OidGive request m) q h = h
  clear_skip net (row.OidDone request status value) q h = clear_by net.next.list _ _ (lists-things_done (request_of request.0 net.requests) request status value net.things) h
  clear_skip net (row.Status number name to) q h = clear_by net.next.list _ _ (lists-status number.0 net.things _ refl) h
  clear_skip net (row.Seen number m) q h = clear_by net.next.list _ _ (lists-without_status number.0 net.things) h
  clear_skip net (row.CrossOut message (out.Down list) frames) q h =
      clear_by net.next.list _ _ (lists-changed list.0 (taken_by message.0) net.things)
      (clear_touched ms front list.0 (taken_by message.0) (λ l. refl) (lists net.things) net.next.list
      (λ l f. let c = clear_found ms front list.0 (lists net.things) net.next.list l h f in record { owner = c.owner; down = c.down; stands = c.stands }) h)
  clear_skip net (row.CrossOut message out.Up frames) q h = h
  clear_skip net (row.CrossIn stack message way frames) q h = h
  clear_skip net (row.Issue list owner config direction cancel origin frames) q h = cc
  clear_skip net (row.Give list m handler) q h = cc
  clear_skip net (row.Pass list way to) q h = cc
  clear_skip net (row.Keep list m) q h = cc
  clear_skip net (row.TurnBack list m status) q h = cc
  clear_skip net (row.Phase of) q h = cc
  clear_skip net (row.Config config filters) q h = cc

  -- a module has the list
  pub hand_give : (net : Net) (list : ListNo) (m : ModuleId) (handler : Handler) (l : LiveList) → Hand ms front list.0 l net → Hand ms front list.0 (had_by m l) (after net (row.Give list m handler))
  hand_give net list m handler l h = hand_by list.0 _ net.next.list _ _ (lists-changed list.0 (had_by m) net.things) (hand_touch ms front list.0 l (had_by m) (λ x. refl) (lists net.things) net.next.list h)

  pub hand_back : (net : Net) (list : ListNo) (m : ModuleId) (status : ListStatus) (l : LiveList) → Hand ms front list.0 l net → Hand ms front list.0 (had_by m l) (after net (row.TurnBack list m status))
  hand_back net list m status l h = hand_by list.0 _ net.next.list _ _ (lists-changed list.0 (had_by m) net.things) (hand_touch ms front list.0 l (had_by m) (λ x. refl) (lists net.things) net.next.list h)

  -- a list goes from hand to where it may stand
  pub put_pass : (net : Net) (list : ListNo) (way : PassWay) (to : Target) (l : LiveList) → Hand ms front list.0 l net → IsClear ms front (record l { stand = stand.Passed way to; crossed = None }) → Clear ms front (after net (row.Pass list way to))
  put_pass net list way to l h c =
      clear_by net.next.list _ _ (lists-passed list.0 way to net.things ∙ ap (λ o. with_last (others list.0 (lists net.things)) (as_passed way to o)) h.found)
      (hand_put ms front list.0 l (record l { stand = stand.Passed way to; crossed = None }) (lists net.things) net.next.list h h.number c)

  pub put_keep : (net : Net) (list : ListNo) (m : ModuleId) (l : LiveList) → Hand ms front list.0 l net → IsClear ms front (record l { last = m; stand = stand.Kept m }) → Clear ms front (after net (row.Keep list m))
  put_keep net list m l h c =
      clear_by net.next.list _ _ (lists-kept list.0 m net.things ∙ ap (λ o. with_last (others list.0 (lists net.things)) (as_kept m o)) h.found)
      (hand_put ms front list.0 l (record l { last = m; stand = stand.Kept m }) (lists net.things) net.next.list h h.number c)

  -- a list that isn't live is not moved
  pub pass_none : (net : Net) (list : ListNo) (way : PassWay) (to : Target) → list_of list.0 (lists net.things) ≡ None → Clear ms front net → Clear ms front (after net (row.Pass list way to))
  pass_none net list way to e h =
      clear_by net.next.list _ _ (lists-passed list.0 way to net.things ∙ ap (λ o. with_last (others list.0 (lists net.things)) (as_passed way to o)) e)
      (clear_gone ms front list.0 (lists net.things) net.next.list h)

  pub clear_issued : (list : ListNo) (owner : ModuleId) (direction : Direction) (cancel : Option ℕ) (origin : Origin) (frames : List (List ℕ)) → front ≤ position ms.order owner → IsClear ms front (issued list owner direction cancel origin frames)
  clear_issued list owner direction cancel origin frames a = record { owner = a; down = λ _. omega arith; stands = tt }

  -- a new list
  pub clear_issue : (net : Net) (list : ListNo) (owner : ModuleId) (config : ConfigNo) (direction : Direction) (cancel : Option ℕ) (origin : Origin) (frames : List (List ℕ)) → list.0 ≡ net.next.list → front ≤ position ms.order owner → Clear ms front net →
      Clear ms front (after net (row.Issue list owner config direction cancel origin frames))
  clear_issue net list owner config direction cancel origin frames e a h =
      clear_by (net.next.list + 1) _ _ (lists-append net.things _) (clear_new ms front (lists net.things) net.next.list _ e (clear_issued list owner direction cancel origin frames a) h)

  pub issue_new : (net : Net) (list : ListNo) (owner : ModuleId) (config : ConfigNo) (direction : Direction) (cancel : Option ℕ) (origin : Origin) (frames : List (List ℕ)) → list.0 ≡ net.next.list → Clear ms front net →
      Hand ms front list.0 (issued list owner direction cancel origin frames) (after net (row.Issue list owner config direction cancel origin frames))
  issue_new net list owner config direction cancel origin frames e h =
      hand_by list.0 _ (net.next.list + 1) _ _ (lists-append net.things _)
      (subst (λ n. InHand ms front n (issued list owner direction cancel origin frames) (lists net.things ++ issued list owner direction cancel origin frames ∷ []) (net.next.list + 1)) (sym e)
      (hand_new ms front (issued list owner direction cancel origin frames) (lists net.things) net.next.list e h))

  pub issue_beside : (net : Net) (n : ℕ) (l : LiveList) (list : ListNo) (owner : ModuleId) (config : ConfigNo) (direction : Direction) (cancel : Option ℕ) (origin : Origin) (frames : List (List ℕ)) → list.0 ≡ net.next.list → front ≤ position ms.order owner → Hand ms front n l net →
      Hand ms front n l (after net (row.Issue list owner config direction cancel origin frames))
  issue_beside net n l list owner config direction cancel origin frames e a h =
      hand_by n l (net.next.list + 1) _ _ (lists-append net.things _) (hand_issue ms front n l _ (lists net.things) net.next.list e (clear_issued list owner direction cancel origin frames a) h)
