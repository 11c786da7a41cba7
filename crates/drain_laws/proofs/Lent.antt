-- A list that is lent is home in the turn in which it is issued.
use Rattle.std.proofs.Common.{◌≡◌, ℕ, ◌+◌, ◌<◌, ◌==◌, true, false, List, [], ◌∷◌, Option, Some, None, refl, arith, ap, sym, subst, ◌∙◌, filter, reverse}
use Rattle.std.proofs.lemmas.Bool.Decides.{nat_tests}
use Rattle.ndis_base.specs.declared.ListNo.{ListNo}
use Rattle.ndis_base.specs.declared.ListStatus.{ListStatus}
use Rattle.ndis_base.specs.declared.ListStatus.TheVariants.{Success, Paused, Dropped, Resources}
use Rattle.ndis_base.specs.declared.Direction.TheVariants as direction
use Rattle.ndis_base.specs.declared.ModuleId.{ModuleId}
use Rattle.ndis_base.specs.declared.ModuleId.TheVariants.{Miniport, Filter, Binding}
use Rattle.ndis_base.specs.declared.Origin.TheVariants as origin
use Rattle.journal_types.specs.declared.Handler.TheVariants as handler
use Rattle.journal_types.specs.declared.How.{How}
use Rattle.journal_types.specs.declared.How.TheVariants as how
use Rattle.journal_types.specs.declared.PassWay.TheVariants as way
use Rattle.journal_types.specs.declared.Row.{Row}
use Rattle.journal_types.specs.declared.Row.TheVariants as row
use Rattle.program_types.specs.Apply.{applied}
use Rattle.stack_rules.specs.declared.Attached.{Attached}
use Rattle.stack_rules.specs.declared.LiveList.{LiveList}
use Rattle.stack_rules.specs.declared.Stand.TheVariants as stand
use Rattle.stack_rules.specs.Tests.{is_running, phase_is_running, same_frames}
use Rattle.stack_rules.specs.Net.{Net, after, after_rows, attached, lists, list_of, had_by}
use Rattle.stack_rules.specs.Places.{position, is_full}
use Rattle.stack_rules.specs.Targets.{has_receive, next_up, next_down}
use Rattle.stack_rules.specs.Outcome.{list_no, config_no, max_frame}
use Rattle.stack_rules.specs.Deliveries.{takers, echoed}
use Rattle.stack_rules.specs.Receives.{lent_home, lent_back, copied, lent_handled, lent_at, lent_delivery, lent_up, lent_rows}
use Rattle.rule_basics.proofs.Lists.{lists-append}
use Rattle.rule_basics.proofs.Numbered.{next_is_free}
use Rattle.home_laws.proofs.Known.{by_test}
use Rattle.pause_laws.proofs.Lists.{found-last}
use Rattle.work_laws.proofs.Hands.{Found, found_give, found_back, found_issue, found_pass}
use Rattle.drain_laws.proofs.Resting.{Rest, none, only, closes_only, issue_rest, home_rest, plain_rest, issue_on}
use Rattle.drain_laws.proofs.Rested.{Leaves, delivered_rest, echo_rest}
use Rattle.drain_laws.proofs.Tests.{itself}

-- the lent list is found, and is the only one that is loose
record IsLent (net : Net) (list : ListNo) (next : Net) : Type 0 where
  lent : LiveList
  number : lent.list ≡ list
  found : Found next lent
  root : lent.origin ≡ origin.Root
  below : list.0 < next.next.list
  rest : Rest net (only list.0) next

apart : (n m k : ℕ) → n ≡ m → m < k → (n == k) ≡ false
apart n m k e l = grind (arith, nat_tests)

module _ (net : Net) (list : ListNo) where
  given_lent : (next : Net) (m : ModuleId) → IsLent net list next → IsLent net list (after next (row.Give list m handler.ReceiveLent))
  given_lent next m h = record {
    lent = had_by m h.lent;
    number = h.number;
    found = subst (λ n. Found (after next (row.Give n m handler.ReceiveLent)) (had_by m h.lent)) h.number (found_give next h.lent m handler.ReceiveLent h.found);
    root = h.root;
    below = h.below;
    rest = plain_rest net next (only list.0) (row.Give list m handler.ReceiveLent) refl h.rest;
  }

  back_lent : (next : Net) (m : ModuleId) (status : ListStatus) → IsLent net list next → IsLent net list (after next (row.TurnBack list m status))
  back_lent next m status h = record {
    lent = had_by m h.lent;
    number = h.number;
    found = subst (λ n. Found (after next (row.TurnBack n m status)) (had_by m h.lent)) h.number (found_back next h.lent m status h.found);
    root = h.root;
    below = h.below;
    rest = plain_rest net next (only list.0) (row.TurnBack list m status) refl h.rest;
  }

  -- it is home
  home_lent : (next : Net) (status : ListStatus) → IsLent net list next → Leaves net next (lent_home list status)
  home_lent next status h =
      subst (λ n. Rest net none (after next (row.Home n Miniport status))) h.number
      (home_rest net next (only list.0) none h.lent Miniport status h.found (subst (λ (n : ListNo). (k : ℕ) → only list.0 k ≡ true → (k == n.0) ≡ false → none k ≡ true) (sym h.number) (closes_only list.0)) (λ o e. clash o (sym h.root ∙ e)) h.rest)
    where
      clash : (o : ListNo) → origin.Root ≡ origin.Clone o → none o.0 ≡ true
      clash o e = cc

  lent_back_rest : (next : Net) (m : ModuleId) (status : ListStatus) → IsLent net list next → Leaves net next (lent_back list m status)
  lent_back_rest next m status h = home_lent (after next (row.TurnBack list m status)) status (back_lent next m status h)

  -- a copy goes on in its place
  copied_rest : (next : Net) (a : Attached) (frames : List (List ℕ)) → net.next.list + 1 ≡ next.next.list → IsLent net list next → Leaves net next (copied net a list frames)
  copied_rest next a frames e h =
      let n : ListNo = list_no (net.next.list + 1) in
      let i : ℕ = position net.modules.order (Filter a.filter) in
      let issue : Row = row.Issue n (Filter a.filter) (config_no net.modules.config) direction.Up None (origin.Copy list) frames in
      let issued : Net = after next issue in
      let there : Found issued h.lent = found_issue next h.lent n (Filter a.filter) (config_no net.modules.config) direction.Up None (origin.Copy list) frames h.found in
      let low = h.below in
      let on : IsLent net list (after issued (row.Pass n way.Up (next_up net.modules i))) = record {
        lent = h.lent;
        number = h.number;
        found = found_pass issued h.lent n way.Up (next_up net.modules i) (apart h.lent.list.0 list.0 (net.next.list + 1) (ap (λ (k : ListNo). k.0) h.number) (omega (arith, low, e))) there;
        root = h.root;
        below = omega (arith, low);
        rest = issue_on net next (only list.0) net.modules n (Filter a.filter) (config_no net.modules.config) direction.Up None (origin.Copy list) frames i e h.rest;
      } in
      home_lent (after issued (row.Pass n way.Up (next_up net.modules i))) Success on

  echo_lent : (next : Net) (b n : ℕ) (frames : List (List ℕ)) → n ≡ next.next.list → IsLent net list next → IsLent net list (after_rows next (echoed net n b frames))
  echo_lent next b n frames e h =
      let issued : Net = after next (row.Issue (list_no n) (Binding b) (config_no net.modules.config) direction.Down None origin.Root frames) in
      let there : Found issued h.lent = found_issue next h.lent (list_no n) (Binding b) (config_no net.modules.config) direction.Down None origin.Root frames h.found in
      let low = h.below in
      record {
        lent = h.lent;
        number = h.number;
        found = found_pass issued h.lent (list_no n) way.Down (next_down net.modules 0) (apart h.lent.list.0 list.0 n (ap (λ (k : ListNo). k.0) h.number) (omega (arith, low, e))) there;
        root = h.root;
        below = omega (arith, low);
        rest = echo_rest net next (only list.0) b n frames e h.rest;
      }

  told_lent : (next : Net) (b : ℕ) (frames : List (List ℕ)) (how : How) → IsLent net list next → IsLent net list (after next (row.Deliver list b how frames))
  told_lent next b frames how h = record { lent = h.lent; number = h.number; found = h.found; root = h.root; below = h.below; rest = plain_rest net next (only list.0) (row.Deliver list b how frames) refl h.rest }

  lent_delivery_rest : (next : Net) (frames : List (List ℕ)) → net.next.list + 1 ≡ next.next.list → IsLent net list next → Leaves net next (lent_delivery net list frames)
  lent_delivery_rest next frames e h =
      by_test (Leaves net next) (phase_is_running net.phase) _ _
      (λ _. delivered_rest net (IsLent net list) (Rest net none) list frames how.Lent (lent_home list Success) (λ m b by l. told_lent m b frames by l) (λ m b n i l. echo_lent m b n frames i l) (λ m l. home_lent m Success l) (net.next.list + 1) (takers net frames) next e h)
      (λ _. lent_back_rest next (Binding 0) Paused h)

  -- at a filter, further up
  lent_at_rest : (next : Net) (frames : List (List ℕ)) (further : List Row) → net.next.list + 1 ≡ next.next.list → IsLent net list next →
      ((on : Net) → net.next.list + 1 ≡ on.next.list → IsLent net list on → Leaves net on further) → (o : Option Attached) → Leaves net next (lent_at net o list frames further)
  lent_at_rest next frames further e h f None = f next e h
  lent_at_rest next frames further e h f (Some a) =
      by_test (Leaves net next) (is_running a.state) _ _
      (λ _. made (applied (max_frame net.head) a.setup.receive frames))
      (λ _. lent_back_rest next (Filter a.filter) Paused h)
    where
      made : (o : Option (List (List ℕ))) → Leaves net (after next (row.Give list (Filter a.filter) handler.ReceiveLent)) (lent_handled net a list frames further o)
      made o =
          let given : Net = after next (row.Give list (Filter a.filter) handler.ReceiveLent) in
          let now : IsLent net list given = given_lent next (Filter a.filter) h in
          elim o as (λ o. Leaves net given (lent_handled net a list frames further o)) [
            | None ↦ lent_back_rest given (Filter a.filter) Dropped now
            | Some others ↦
                by_test (Leaves net given) (same_frames others frames) _ _
                (λ _. f given e now)
                (λ _. by_test (Leaves net given) (is_full net (Filter a.filter)) _ _ (λ _. lent_back_rest given (Filter a.filter) Resources now) (λ _. copied_rest given a others e now))
          ]

  lent_up_rest : (fs : List ℕ) (next : Net) (frames : List (List ℕ)) → net.next.list + 1 ≡ next.next.list → IsLent net list next → Leaves net next (lent_up net list frames fs)
  lent_up_rest [] next frames e h = lent_delivery_rest next frames e h
  lent_up_rest (f ∷ fs) next frames e h =
      lent_at_rest next frames (lent_up net list frames fs) e h (λ on i l. lent_up_rest fs on frames i l) (attached f net.modules.filters)

pub lent_rest : (net : Net) (frames : List (List ℕ)) → Rest net none net → Leaves net net (lent_rows net frames)
lent_rest net frames h =
    let n : ListNo = list_no net.next.list in
    let issue : Row = row.Issue n Miniport (config_no net.modules.config) direction.Lent None origin.Root frames in
    let new : LiveList = record { list = n; owner = Miniport; direction = direction.Lent; cancel = None; origin = origin.Root; frames = frames; last = Miniport; stand = stand.Unplaced; crossed = None } in
    let rest : Rest net (only net.next.list) (after net issue) =
    issue_rest net net none (only net.next.list) n Miniport (config_no net.modules.config) direction.Lent None origin.Root frames refl (itself net.next.list, λ k o. cc) h in
    lent_up_rest net n (filter (has_receive net.modules) (reverse net.modules.order)) (after net issue) frames refl
    record {
      lent = new;
      number = refl;
      found = ap (list_of net.next.list) (lists-append net.things _) ∙ found-last net.next.list (lists net.things) new refl (next_is_free net h.numbered);
      root = refl;
      below = omega arith;
      rest = rest;
    }
