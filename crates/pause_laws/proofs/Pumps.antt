-- Each event that changes no state of a module leaves the lists clear of what is Paused.
use Rattle.std.proofs.Common.{◌≡◌, ℕ, ◌+◌, Bool, true, false, cond, List, [], ◌∷◌, Option, Some, None, find, refl, arith, ap, ◌∙◌}
use Rattle.std.specs.List.{list_any}
use Rattle.ndis_base.specs.declared.ModuleId.{ModuleId}
use Rattle.ndis_base.specs.declared.ModuleId.TheVariants.{Miniport, Filter, Binding}
use Rattle.ndis_base.specs.declared.ModuleState.{ModuleState}
use Rattle.ndis_base.specs.declared.ListStatus.{ListStatus}
use Rattle.ndis_base.specs.declared.ListStatus.TheVariants.{Success}
use Rattle.ndis_base.specs.declared.Direction.TheVariants as direction
use Rattle.ndis_base.specs.declared.StatusNo.{StatusNo}
use Rattle.ndis_base.specs.declared.StatusName.{StatusName}
use Rattle.journal_types.specs.declared.PassWay.TheVariants as way
use Rattle.journal_types.specs.declared.OutWay.TheVariants as out
use Rattle.journal_types.specs.declared.Target.{Target}
use Rattle.journal_types.specs.declared.Target.TheVariants.{Module, Bindings}
use Rattle.journal_types.specs.declared.Event.{Event}
use Rattle.journal_types.specs.declared.Event.TheVariants as event
use Rattle.journal_types.specs.declared.Row.{Row}
use Rattle.journal_types.specs.declared.Row.TheVariants as row
use Rattle.stack_rules.specs.declared.Choice.{Choice}
use Rattle.stack_rules.specs.declared.Message.{Message}
use Rattle.stack_rules.specs.declared.Stand.{Stand}
use Rattle.stack_rules.specs.declared.Stand.TheVariants as stand
use Rattle.stack_rules.specs.declared.LiveList.{LiveList}
use Rattle.stack_rules.specs.declared.Thing.{Thing}
use Rattle.stack_rules.specs.declared.Thing.TheVariants as thing
use Rattle.stack_rules.specs.Tests.{is_down, is_running, is_unbound, is_halted, is_virtual, phase_is_running}
use Rattle.stack_rules.specs.Messages.{is_for}
use Rattle.stack_rules.specs.Net.{Net, after, after_rows, lists, list_of}
use Rattle.stack_rules.specs.Places.{position, is_full, kept_lists, is_kept_by, agenda_first, state_of}
use Rattle.stack_rules.specs.Targets.{next_status}
use Rattle.stack_rules.specs.Outcome.{Outcome, cross_no, status_no}
use Rattle.stack_rules.specs.Sends.{first_of, first_in_ring}
use Rattle.stack_rules.specs.Receives.{give_back_of}
use Rattle.stack_rules.specs.Drains.{drain_outcome}
use Rattle.stack_rules.specs.Pumps.{moved_rows, thing_rows, request_pump, pump_of, is_pump_moving}
use Rattle.stack_rules.specs.Requests.{Giving, given_rows_by, giving_rows, next_giving}
use Rattle.stack_rules.specs.Statuses.{seen_by_all, status_rows}
use Rattle.stack_rules.specs.Crosses.{first_uncrossed, take_of, done_of, take_up_of, is_too_long_tagged, mux_binding_for, is_in_message}
use Rattle.stack_rules.specs.Sound.{outcome}
use Rattle.rule_basics.proofs.Lives.{find_is}
use Rattle.state_laws.proofs.Rows.{by_test}
use Rattle.state_laws.proofs.Quiet.{is_plain}
use Rattle.state_laws.proofs.Events.{state_after}
use Rattle.pause_laws.specs.Clear.{StandsFrom}
use Rattle.pause_laws.proofs.Lists.{not_both, hand_take, clear_found}
use Rattle.pause_laws.proofs.Hands.{Clear, is_skipped, clear_skip}
use Rattle.pause_laws.proofs.Routes.{go_home_from}
use Rattle.pause_laws.proofs.Works.{Facts, IsWorked, all_worked, worked_away, each_find, each_first}
use Rattle.pause_laws.proofs.Keepers.{IsKeptAt, kept_at, kept_all}
use Rattle.pause_laws.proofs.Sends.{Leaves, down_clear, above_miniport, transmit_clear, sent_clear}
use Rattle.pause_laws.proofs.Homes.{homeward_clear}
use Rattle.pause_laws.proofs.Receives.{up_clear}
use Rattle.pause_laws.proofs.Lent.{lent_clear}
use Rattle.pause_laws.proofs.Drains.{cancel_clear, drain_clear}

-- rows that move no list
abbrev AreSkipped : List Row → Type 0
AreSkipped [] = Unit {0}
AreSkipped (r ∷ rows) = (is_skipped r ≡ true) × AreSkipped rows

skip_rows : (net next : Net) (front : ℕ) (rows : List Row) → AreSkipped rows → Clear net.modules front next → Clear net.modules front (after_rows next rows)
skip_rows net next front [] s k = k
skip_rows net next front (r ∷ rows) s k = skip_rows net (after next r) front rows s.1 (clear_skip net.modules front next r s.0 k)

skip_seen : (number : StatusNo) (b : ℕ) (ss : List ModuleState) → AreSkipped (seen_by_all number b ss)
skip_seen number b [] = tt
skip_seen number b (s ∷ ss) = (refl, skip_seen number (b + 1) ss)

skip_status : (net : Net) (number : StatusNo) (to : Target) → (name : StatusName) → AreSkipped (status_rows net number name to)
skip_status net number (Module m) name = (refl, (refl, tt))
skip_status net number Bindings name = skip_seen number 0 net.modules.bindings

skip_given : (net : Net) (g : Giving) → AreSkipped (giving_rows net g)
skip_given net g = (refl, given g.module_id)
  where
    given : (m : ModuleId) → AreSkipped (given_rows_by net g.request m)
    given Miniport = (refl, tt)
    given (Filter f) = (refl, tt)
    given (Binding b) = tt

-- a list on its way
moved_clear : (net : Net) (front : ℕ) → Facts net front → (l : LiveList) (s : Stand) (keeps : Bool) → StandsFrom net.modules front l s → Clear net.modules front net → IsWorked net front l → Leaves net front (moved_rows net l s keeps)
moved_clear net front facts l stand.Unplaced keeps s k w = k
moved_clear net front facts l (stand.Kept m) keeps s k w = k
moved_clear net front facts l (stand.Passed way.Down (Module m)) keeps s k w =
    down_clear net front facts l m keeps k w record { at = omega (arith, s.1, w.clear.owner); below = λ _. s.1 }
moved_clear net front facts l (stand.Passed way.Down Bindings) keeps s k w = k
moved_clear net front facts l (stand.Passed way.Up to) keeps s k w = up_clear net front facts l to keeps k w record { up = s.0; last = s.1.0; nearest = s.1.1 }
moved_clear net front facts l (stand.Passed (way.Done status) (Module m)) keeps s k w =
    homeward_clear net front facts l m status k w record { at = omega (arith, s.1, w.clear.owner); below = λ _. s.1 }
moved_clear net front facts l (stand.Passed (way.Done status) Bindings) keeps s k w = k
moved_clear net front facts l (stand.Passed (way.Back status) (Module m)) keeps s k w =
    homeward_clear net front facts l m status k w record { at = s.1; below = λ d. absurd (not_both (is_down l.direction) d s.0) }
moved_clear net front facts l (stand.Passed (way.Back status) Bindings) keeps s k w = k

-- a pump
thing_clear : (net : Net) (front : ℕ) → Facts net front → (t : Thing) (keeps : Bool) → agenda_first net ≡ Some t → Clear net.modules front net → Leaves net front (thing_rows net t keeps)
thing_clear net front facts (thing.List l) keeps e k = let w = worked_away net front l k e in moved_clear net front facts l l.stand keeps w.clear.stands k w
thing_clear net front facts (thing.Status s) keeps e k = skip_rows net net front (status_rows net s.number s.name s.to) (skip_status net s.number s.to s.name) k
thing_clear net front facts (thing.Answer a) keeps e k = clear_skip net.modules front net (row.OidDone a.parent a.status a.value) refl k

request_clear : (net : Net) (front : ℕ) (o : Option Giving) → Clear net.modules front net → Leaves net front (request_pump net o).rows
request_clear net front None k = k
request_clear net front (Some g) k = skip_rows net net front (giving_rows net g) (skip_given net g) k

pump_clear : (net : Net) (front : ℕ) → Facts net front → (keeps : Bool) (o : Option Thing) → agenda_first net ≡ o → Clear net.modules front net → Leaves net front (pump_of net keeps o).rows
pump_clear net front facts keeps None e k = request_clear net front (next_giving net) k
pump_clear net front facts keeps (Some t) e k = thing_clear net front facts t keeps e k

drained_clear : (net : Net) (front : ℕ) → Facts net front → (keeps : Bool) → Clear net.modules front net → Leaves net front (drain_outcome net keeps).rows
drained_clear net front facts keeps k =
    by_test (λ (o : Outcome). Leaves net front o.rows) (is_pump_moving net) _ _
    (λ _. pump_clear net front facts keeps (agenda_first net) refl k)
    (λ _. drain_clear net front facts k)

-- a list that a binding gives back
give_back_clear : (net : Net) (front : ℕ) → Facts net front → (b n : ℕ) (o : Option LiveList) → list_of n (lists net.things) ≡ o → Clear net.modules front net → Leaves net front (give_back_of net b o).rows
give_back_clear net front facts b n None e k = k
give_back_clear net front facts b n (Some l) e k =
    by_test (λ (o : Outcome). Leaves net front o.rows) (is_kept_by (Binding b) l.stand) _ _
    (λ t.
    let number : l.list.0 ≡ n = (find_is n (lists net.things) l e).0 in
    let found : list_of l.list.0 (lists net.things) ≡ Some l = ap (λ i. list_of i (lists net.things)) number ∙ e in
    let w : IsWorked net front l = record { found = found; clear = clear_found net.modules front l.list.0 (lists net.things) net.next.list l k found } in
    let at : IsKeptAt net front (Binding b) l = kept_at net front (Binding b) l w t in
    go_home_from net.modules front facts.distinct net l.list l.owner l.direction 0 Success l (hand_take net.modules front l.list.0 l (lists net.things) net.next.list k found) refl refl record { owner = w.clear.owner; down = w.clear.down } at.at)
    (λ _. k)

-- a taken list that is done
done_clear : (net : Net) (front : ℕ) → Facts net front → (status : ListStatus) (o : Option LiveList) → ((l : LiveList) → o ≡ Some l → IsWorked net front l) → Clear net.modules front net → Leaves net front (done_of net status o).rows
done_clear net front facts status None w k = k
done_clear net front facts status (Some l) w k =
    let is : IsWorked net front l = w l refl in
    go_home_from net.modules front facts.distinct net l.list l.owner l.direction (position net.modules.order Miniport) status l (hand_take net.modules front l.list.0 l (lists net.things) net.next.list k is.found) refl refl record { owner = is.clear.owner; down = is.clear.down } (above_miniport net front l is.clear)

take_clear : (net : Net) (front : ℕ) (o : Option LiveList) → Clear net.modules front net → Leaves net front (take_of net o).rows
take_clear net front None k = k
take_clear net front (Some l) k = clear_skip net.modules front net (row.CrossOut (cross_no net.next.message) (out.Down l.list) l.frames) refl k

ring_worked : (net : Net) (front : ℕ) (l : LiveList) → Clear net.modules front net → first_in_ring net ≡ Some l → IsWorked net front l
ring_worked net front l k e = by (is_virtual net.head.kind) e
  where
    by : (b : Bool) → cond b None (first_of (kept_lists net Miniport)) ≡ Some l → IsWorked net front l
    by true e = cc
    by false e = (each_first (IsKeptAt net front Miniport) (kept_lists net Miniport) l (kept_all net front Miniport k) e).worked

-- what an event leaves
abbrev LeavesAfter : Net → ℕ → Event → Outcome → Type 0
LeavesAfter net front e o = Clear net.modules front (state_after net e o)

take_up_clear : (net : Net) (front binding vlan : ℕ) (o : Option Message) → Clear net.modules front net → LeavesAfter net front (event.CrossTakeUp binding vlan) (take_up_of net o)
take_up_clear net front binding vlan None k = k
take_up_clear net front binding vlan (Some m) k = k

pub plain_clear : (net : Net) (front : ℕ) → Facts net front → (e : Event) (c : Choice) → is_plain e ≡ true → Clear net.modules front net → LeavesAfter net front e (outcome net e c)
plain_clear net front facts event.Initialize c p k = cc
plain_clear net front facts (event.Insert kind position setup) c p k = cc
plain_clear net front facts (event.Remove filter) c p k = cc
plain_clear net front facts (event.Replace filter kind setup) c p k = cc
plain_clear net front facts event.BeginPause c p k = cc
plain_clear net front facts event.PauseNext c p k = cc
plain_clear net front facts event.RestartNext c p k = cc
plain_clear net front facts event.Halt c p k = cc
plain_clear net front facts (event.Send binding cancel frames) c p k =
    by_test (LeavesAfter net front (event.Send binding cancel frames)) (phase_is_running net.phase) _ _
    (λ t. by_test (LeavesAfter net front (event.Send binding cancel frames)) (is_full net (Binding binding)) _ _ (λ _. k)
    (λ _. sent_clear net front facts (Binding binding) direction.Down cancel frames 0 (omega (arith, facts.running t)) refl k))
    (λ _. k)
plain_clear net front facts (event.Indicate frames) c p k =
    by_test (LeavesAfter net front (event.Indicate frames)) (is_running net.modules.miniport) _ _
    (λ t. by_test (LeavesAfter net front (event.Indicate frames)) (is_full net Miniport) _ _ (λ _. k)
    (λ _. sent_clear net front facts Miniport direction.Up None frames (position net.modules.order Miniport) (facts.miniport t) refl k))
    (λ _. k)
plain_clear net front facts (event.Lend frames) c p k =
    by_test (LeavesAfter net front (event.Lend frames)) (is_running net.modules.miniport) _ _
    (λ t. by_test (LeavesAfter net front (event.Lend frames)) (is_full net Miniport) _ _ (λ _. k)
    (λ _. lent_clear net front facts frames (facts.miniport t) k))
    (λ _. k)
plain_clear net front facts (event.GiveBack binding list) c p k = give_back_clear net front facts binding list.0 (list_of list.0 (lists net.things)) refl k
plain_clear net front facts (event.Cancel id) c p k = cancel_clear net front facts id k
plain_clear net front facts (event.Ask binding kind code value) c p k =
    by_test (LeavesAfter net front (event.Ask binding kind code value)) (is_unbound (state_of net (Binding binding))) _ _ (λ _. k) (λ _. k)
plain_clear net front facts (event.Status name) c p k =
    by_test (LeavesAfter net front (event.Status name)) (is_halted net.modules.miniport) _ _ (λ _. k) (λ _. clear_skip net.modules front net (row.Status (status_no net.next.status) name (next_status net.modules (position net.modules.order Miniport))) refl k)
plain_clear net front facts event.Transmit c p k = transmit_clear net front facts (first_in_ring net) (λ l e. ring_worked net front l k e) k
plain_clear net front facts event.Pump c p k = pump_clear net front facts c.keeps (agenda_first net) refl k
plain_clear net front facts event.Drain c p k = drained_clear net front facts c.keeps k
plain_clear net front facts event.CrossTake c p k = take_clear net front (first_uncrossed net) k
plain_clear net front facts (event.CrossPut stack message vlan frames) c p k =
    by_test (LeavesAfter net front (event.CrossPut stack message vlan frames)) (phase_is_running net.phase) _ _
    (λ t. by_test (LeavesAfter net front (event.CrossPut stack message vlan frames)) (list_any (is_too_long_tagged net.head) frames) _ _ (λ _. k)
    (λ _. by_test (LeavesAfter net front (event.CrossPut stack message vlan frames)) (is_full net (Binding (mux_binding_for net.head stack))) _ _ (λ _. k)
    (λ _. sent_clear net front facts (Binding (mux_binding_for net.head stack)) direction.Down None _ 0 (omega (arith, facts.running t)) refl k)))
    (λ _. k)
plain_clear net front facts (event.CrossDone message status) c p k =
    done_clear net front facts status (find (λ l. is_in_message message.0 l.crossed) (lists net.things))
    (λ l e. (each_find (IsWorked net front) (λ l. is_in_message message.0 l.crossed) (lists net.things) l (all_worked net front k) e).0) k
plain_clear net front facts (event.CrossTakeUp binding vlan) c p k = take_up_clear net front binding vlan (find (is_for binding vlan) net.messages) k
plain_clear net front facts (event.CrossPutUp stack message frames) c p k =
    by_test (LeavesAfter net front (event.CrossPutUp stack message frames)) (is_running net.modules.miniport) _ _
    (λ t. by_test (LeavesAfter net front (event.CrossPutUp stack message frames)) (is_full net Miniport) _ _ (λ _. k)
    (λ _. sent_clear net front facts Miniport direction.Up None frames (position net.modules.order Miniport) (facts.miniport t) refl k))
    (λ _. k)
