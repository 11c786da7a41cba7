-- A lent list: it is nowhere until it is home in the same turn.
use Rattle.std.proofs.Common.{◌≡◌, ℕ, ◌+◌, ◌≤◌, false, List, [], ◌∷◌, Option, Some, None, filter, reverse, length, refl, ap, sym, subst, ◌∙◌}
use Rattle.ndis_base.specs.declared.ModuleId.{ModuleId}
use Rattle.ndis_base.specs.declared.ModuleId.TheVariants.{Miniport, Filter, Binding}
use Rattle.ndis_base.specs.declared.ListNo.{ListNo}
use Rattle.ndis_base.specs.declared.ListStatus.{ListStatus}
use Rattle.ndis_base.specs.declared.ListStatus.TheVariants.{Success, Paused, Dropped, Resources}
use Rattle.ndis_base.specs.declared.Direction.TheVariants as direction
use Rattle.ndis_base.specs.declared.Origin.TheVariants as origin
use Rattle.journal_types.specs.declared.Handler.{Handler}
use Rattle.journal_types.specs.declared.Handler.TheVariants as handler
use Rattle.journal_types.specs.declared.How.TheVariants as how
use Rattle.journal_types.specs.declared.Row.{Row}
use Rattle.journal_types.specs.declared.Row.TheVariants as row
use Rattle.program_types.specs.Apply.{applied}
use Rattle.stack_rules.specs.declared.LiveList.{LiveList}
use Rattle.stack_rules.specs.declared.Attached.{Attached}
use Rattle.stack_rules.specs.declared.Stand.TheVariants as stand
use Rattle.stack_rules.specs.Tests.{is_down, is_running, phase_is_running, same_frames}
use Rattle.stack_rules.specs.Net.{Net, Modules, after, after_rows, lists, list_of, attached, had_by}
use Rattle.stack_rules.specs.Places.{position, is_full}
use Rattle.stack_rules.specs.Targets.{has_receive, onward}
use Rattle.stack_rules.specs.Outcome.{list_no, config_no, max_frame}
use Rattle.stack_rules.specs.Deliveries.{delivered, takers}
use Rattle.stack_rules.specs.Receives.{lent_home, lent_back, copied, lent_handled, lent_at, lent_delivery, lent_up, lent_rows}
use Rattle.rule_basics.specs.Live.{retouched}
use Rattle.rule_basics.proofs.Lists.{lists-append, lists-changed}
use Rattle.rule_basics.proofs.Numbered.{below_absent}
use Rattle.state_laws.proofs.Rows.{by_test, after_rows-append}
use Rattle.state_laws.proofs.Takes.{attached-is}
use Rattle.pause_laws.specs.Clear.{IsClear, StandsFrom, AreClear}
use Rattle.pause_laws.proofs.Lists.{same_found, not_both, clear_found, clear_touched, found-touched, none-touched, found-last}
use Rattle.pause_laws.proofs.Hands.{Clear, issued, clear_skip, clear_issue}
use Rattle.pause_laws.proofs.Routes.{issue_on}
use Rattle.pause_laws.proofs.Works.{Facts}
use Rattle.pause_laws.proofs.Sends.{Leaves}
use Rattle.pause_laws.proofs.Receives.{IsDelivered, delivered_clear}

-- a list that is nowhere, and no send
record IsNowhere (x : LiveList) : Type 0 where
  unplaced : x.stand ≡ stand.Unplaced
  lent : is_down x.direction ≡ false

-- the list of this number is nowhere
abbrev AreNowhere : ℕ → List LiveList → Type 0
AreNowhere n ls = (x : LiveList) → list_of n ls ≡ Some x → IsNowhere x

nowhere_touched : (n : ℕ) (m : ModuleId) (ls : List LiveList) → AreNowhere n ls → AreNowhere n (retouched n (had_by m) ls)
nowhere_touched n m ls h x f = at (list_of n ls) refl
  where
    at : (o : Option LiveList) → list_of n ls ≡ o → IsNowhere x
    at None e = let none : list_of n (retouched n (had_by m) ls) ≡ None = none-touched n (had_by m) (λ y. refl) ls e in cc
    at (Some y) e =
        let was : IsNowhere y = h y e in
        let now : list_of n (retouched n (had_by m) ls) ≡ Some (had_by m y) = found-touched n (had_by m) (λ z. refl) ls y e in
        let same : had_by m y ≡ x = same_found (list_of n (retouched n (had_by m) ls)) (had_by m y) x now f in
        subst IsNowhere same record { unplaced = was.unplaced; lent = was.lent }

clear_nowhere : (ms : Modules) (front n : ℕ) (m : ModuleId) (ls : List LiveList) (next : ℕ) → AreNowhere n ls → AreClear ms front ls next → AreClear ms front (retouched n (had_by m) ls) next
clear_nowhere ms front n m ls next h k =
    clear_touched ms front n (had_by m) (λ y. refl) ls next
    (λ x f.
    let c : IsClear ms front x = clear_found ms front n ls next x k f in
    let was : IsNowhere x = h x f in
    record { owner = c.owner; down = λ d. absurd (not_both (is_down x.direction) d was.lent); stands = subst (StandsFrom ms front (had_by m x)) (sym was.unplaced) tt })
    k

-- a turn while a list is lent
record IsLending (net next : Net) (front : ℕ) : Type 0 where
  clear : Clear net.modules front next
  next_is : net.next.list + 1 ≡ next.next.list
  nowhere : AreNowhere net.next.list (lists next.things)

lending_touched : (net next : Net) (front : ℕ) (m : ModuleId) (handler : Handler) → IsLending net next front → IsLending net (after next (row.Give (list_no net.next.list) m handler)) front
lending_touched net next front m handler h =
    let same = lists-changed net.next.list (had_by m) next.things in
    record {
      clear = subst (λ ls. AreClear net.modules front ls next.next.list) (sym same) (clear_nowhere net.modules front net.next.list m (lists next.things) next.next.list h.nowhere h.clear);
      next_is = h.next_is;
      nowhere = subst (AreNowhere net.next.list) (sym same) (nowhere_touched net.next.list m (lists next.things) h.nowhere);
    }

-- it is home where it stops
home_lent : (net next : Net) (front : ℕ) (list : ListNo) (status : ListStatus) → Clear net.modules front next → Clear net.modules front (after_rows next (lent_home list status))
home_lent net next front list status k = clear_skip net.modules front next (row.Home list Miniport status) refl k

back_lent : (net next : Net) (front : ℕ) (m : ModuleId) (status : ListStatus) → IsLending net next front → Clear net.modules front (after_rows next (lent_back (list_no net.next.list) m status))
back_lent net next front m status h = home_lent net (after next (row.TurnBack (list_no net.next.list) m status)) front (list_no net.next.list) status (lending_touched net next front m handler.Receive h).clear

copied_clear : (net next : Net) (front : ℕ) → Facts net front → (a : Attached) (frames : List (List ℕ)) → front ≤ position net.modules.order (Filter a.filter) → IsLending net next front → Clear net.modules front (after_rows next (copied net a (list_no net.next.list) frames))
copied_clear net next front facts a frames at h =
    home_lent net (after_rows next (row.Issue (list_no (net.next.list + 1)) (Filter a.filter) (config_no net.modules.config) direction.Up None (origin.Copy (list_no net.next.list)) frames ∷ onward net.modules (list_no (net.next.list + 1)) direction.Up (position net.modules.order (Filter a.filter)) ∷ [])) front (list_no net.next.list) Success
    (issue_on net.modules front facts.distinct next (list_no (net.next.list + 1)) (Filter a.filter) (config_no net.modules.config) direction.Up None (origin.Copy (list_no net.next.list)) frames (position net.modules.order (Filter a.filter)) h.next_is at refl h.clear)

lent_handled_clear : (net next : Net) (front : ℕ) → Facts net front → (a : Attached) (frames : List (List ℕ)) (further : List Row) (o : Option (List (List ℕ))) → front ≤ position net.modules.order (Filter a.filter) → IsLending net next front → Clear net.modules front (after_rows next further) →
    Clear net.modules front (after_rows next (lent_handled net a (list_no net.next.list) frames further o))
lent_handled_clear net next front facts a frames further None at h k = back_lent net next front (Filter a.filter) Dropped h
lent_handled_clear net next front facts a frames further (Some made) at h k =
    by_test (λ rows. Clear net.modules front (after_rows next rows)) (same_frames made frames) _ _
    (λ _. k)
    (λ _. by_test (λ rows. Clear net.modules front (after_rows next rows)) (is_full net (Filter a.filter)) _ _
    (λ _. back_lent net next front (Filter a.filter) Resources h)
    (λ _. copied_clear net next front facts a made at h))

lent_delivery_clear : (net next : Net) (front : ℕ) → Facts net front → (frames : List (List ℕ)) → IsLending net next front → Clear net.modules front (after_rows next (lent_delivery net (list_no net.next.list) frames))
lent_delivery_clear net next front facts frames h =
    by_test (λ rows. Clear net.modules front (after_rows next rows)) (phase_is_running net.phase) _ _
    (λ runs.
    let rows : List Row = delivered net (list_no net.next.list) frames how.Lent (net.next.list + 1) (takers net frames) in
    let d : IsDelivered net next (after_rows next rows) front (net.next.list + 1) = delivered_clear net next front facts (facts.running runs) (list_no net.next.list) frames how.Lent (net.next.list + 1) (takers net frames) h.next_is h.clear in
    subst (Clear net.modules front) (sym (after_rows-append next rows (lent_home (list_no net.next.list) Success))) (home_lent net (after_rows next rows) front (list_no net.next.list) Success d.clear))
    (λ _. back_lent net next front (Binding 0) Paused h)

-- at a filter, where what happens further up leaves the lists clear
lent_at_clear : (net next : Net) (front : ℕ) → Facts net front → (frames : List (List ℕ)) (f : ℕ) (further : List Row) → ((x : Net) → IsLending net x front → Clear net.modules front (after_rows x further)) → (o : Option Attached) → attached f net.modules.filters ≡ o → IsLending net next front →
    Clear net.modules front (after_rows next (lent_at net o (list_no net.next.list) frames further))
lent_at_clear net next front facts frames f further again None e h = again next h
lent_at_clear net next front facts frames f further again (Some a) e h =
    by_test (λ rows. Clear net.modules front (after_rows next rows)) (is_running a.state) _ _
    (λ runs.
    let given : Net = after next (row.Give (list_no net.next.list) (Filter a.filter) handler.ReceiveLent) in
    let lending : IsLending net given front = lending_touched net next front (Filter a.filter) handler.ReceiveLent h in
    let same : a.filter ≡ f = attached-is f net.modules.filters a e in
    lent_handled_clear net given front facts a frames further (applied (max_frame net.head) a.setup.receive frames)
    (subst (λ g. front ≤ position net.modules.order (Filter g)) (sym same) (facts.filter f a e runs)) lending (again given lending))
    (λ _. back_lent net next front (Filter a.filter) Paused h)

lent_up_clear : (net next : Net) (front : ℕ) → Facts net front → (frames : List (List ℕ)) (fs : List ℕ) → IsLending net next front → Clear net.modules front (after_rows next (lent_up net (list_no net.next.list) frames fs))
lent_up_clear net next front facts frames [] h = lent_delivery_clear net next front facts frames h
lent_up_clear net next front facts frames (f ∷ fs) h =
    lent_at_clear net next front facts frames f (lent_up net (list_no net.next.list) frames fs) (λ x l. lent_up_clear net x front facts frames fs l) (attached f net.modules.filters) refl h

pub lent_clear : (net : Net) (front : ℕ) → Facts net front → (frames : List (List ℕ)) → front ≤ length net.modules.order + 1 → Clear net.modules front net → Leaves net front (lent_rows net frames)
lent_clear net front facts frames a k =
    let list : ListNo = list_no net.next.list in
    let new : LiveList = issued list Miniport direction.Lent None origin.Root frames in
    let next : Net = after net (row.Issue list Miniport (config_no net.modules.config) direction.Lent None origin.Root frames) in
    let found : list_of net.next.list (lists next.things) ≡ Some new = ap (list_of net.next.list) (lists-append net.things _) ∙ found-last net.next.list (lists net.things) new refl (below_absent net.next.list (lists net.things) k.below) in
    let lending : IsLending net next front = record {
      clear = clear_issue net.modules front net list Miniport (config_no net.modules.config) direction.Lent None origin.Root frames refl a k;
      next_is = refl;
      nowhere = λ x f. subst IsNowhere (same_found (list_of net.next.list (lists next.things)) new x found f) record { unplaced = refl; lent = refl };
    } in
    lent_up_clear net next front facts frames (filter (has_receive net.modules) (reverse net.modules.order)) lending
