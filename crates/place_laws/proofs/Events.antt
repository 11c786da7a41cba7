-- Each event that changes no state of a module leaves everything in place.
use Rattle.std.proofs.Common.{◌≡◌, ℕ, ◌+◌, not, Bool, true, false, cond, List, [], ◌∷◌, Option, Some, None, find, inl, refl, ap, sym, subst, ◌∙◌}
use Rattle.std.specs.List.{list_any}
use Rattle.ndis_base.specs.declared.ModuleId.{ModuleId}
use Rattle.ndis_base.specs.declared.ModuleId.TheVariants.{Miniport, Filter, Binding}
use Rattle.ndis_base.specs.declared.ModuleState.{ModuleState}
use Rattle.ndis_base.specs.declared.CrossNo.{CrossNo}
use Rattle.ndis_base.specs.declared.ListStatus.{ListStatus}
use Rattle.ndis_base.specs.declared.ListStatus.TheVariants.{Success}
use Rattle.ndis_base.specs.declared.StatusNo.{StatusNo}
use Rattle.ndis_base.specs.declared.StatusName.{StatusName}
use Rattle.journal_types.specs.declared.PassWay.{PassWay}
use Rattle.journal_types.specs.declared.PassWay.TheVariants as way
use Rattle.journal_types.specs.declared.OutWay.TheVariants as out
use Rattle.journal_types.specs.declared.Way.TheVariants as crossing
use Rattle.journal_types.specs.declared.Target.{Target}
use Rattle.journal_types.specs.declared.Target.TheVariants.{Module, Bindings}
use Rattle.journal_types.specs.declared.Event.{Event}
use Rattle.journal_types.specs.declared.Event.TheVariants as event
use Rattle.journal_types.specs.declared.Row.{Row}
use Rattle.journal_types.specs.declared.Row.TheVariants as row
use Rattle.stack_rules.specs.declared.Choice.{Choice}
use Rattle.stack_rules.specs.declared.Message.{Message}
use Rattle.stack_rules.specs.declared.Stand.{Stand}
use Rattle.stack_rules.specs.declared.Stand.TheVariants as stand
use Rattle.stack_rules.specs.declared.LiveList.{LiveList}
use Rattle.stack_rules.specs.declared.Thing.{Thing}
use Rattle.stack_rules.specs.declared.Thing.TheVariants as thing
use Rattle.stack_rules.specs.Tests.{is_down, is_running, is_unbound, is_halted, is_virtual, phase_is_running}
use Rattle.stack_rules.specs.Messages.{is_for}
use Rattle.stack_rules.specs.Net.{Net, after, after_rows, lists, list_of, taken_by}
use Rattle.stack_rules.specs.Places.{position, is_crossed, is_full, kept_lists, is_kept_by, agenda_first, state_of}
use Rattle.stack_rules.specs.Targets.{next_status}
use Rattle.stack_rules.specs.Outcome.{Outcome, cross_no, oid_no, status_no}
use Rattle.stack_rules.specs.Receives.{give_back_of}
use Rattle.stack_rules.specs.Drains.{drain_outcome}
use Rattle.stack_rules.specs.Pumps.{moved_rows, thing_rows, request_pump, pump_of, is_pump_moving}
use Rattle.stack_rules.specs.Requests.{Giving, given_rows_by, giving_rows, next_giving}
use Rattle.stack_rules.specs.Statuses.{seen_by_all, status_rows}
use Rattle.stack_rules.specs.Crosses.{first_uncrossed, take_of, done_of, take_up_of, is_too_long_tagged, mux_binding_for, is_in_message}
use Rattle.stack_rules.specs.Sound.{outcome}
use Rattle.rule_basics.proofs.Lives.{find_is}
use Rattle.state_laws.proofs.Rows.{by_test}
use Rattle.state_laws.proofs.Quiet.{is_plain}
use Rattle.state_laws.proofs.Events.{state_after}
use Rattle.pause_laws.proofs.Works.{each_find, each_away}
use Rattle.pause_laws.proofs.Keepers.{kept_is}
use Rattle.place_laws.proofs.Good.{StandsAt, IsWell, AreGood, one_found, good_changed, unkept}
use Rattle.place_laws.proofs.Looks.{look, look_out}
use Rattle.place_laws.proofs.Statuses.{up_changed}
use Rattle.place_laws.proofs.Rows.{is_skipped, goes_skip, goes_status}
use Rattle.place_laws.proofs.Routes.{IsFree, status_up, home_from}
use Rattle.place_laws.proofs.Keepers.{Good, Going, Facts, all_found, IsKeptLive, kept_live, kept_free, miniport_free}
use Rattle.place_laws.proofs.Clones.{Leaves}
use Rattle.place_laws.proofs.Sends.{begins, down_leaves, miniport_leaves, indicated_goes, sent_goes, transmit_leaves}
use Rattle.place_laws.proofs.Homes.{homeward_leaves}
use Rattle.place_laws.proofs.Receives.{delivery_leaves, up_leaves}
use Rattle.place_laws.proofs.Lent.{lent_leaves}
use Rattle.place_laws.proofs.Drains.{cancel_leaves, drained_leaves}

-- rows that move no list
abbrev AreSkipped : List Row → Type 0
AreSkipped [] = Unit {0}
AreSkipped (r ∷ rows) = (is_skipped r ≡ true) × AreSkipped rows

skip_rows : (net next : Net) (rows : List Row) → AreSkipped rows → Going net next → Going net (after_rows next rows)
skip_rows net next [] s h = h
skip_rows net next (r ∷ rows) s h = skip_rows net (after next r) rows s.1 (goes_skip net.modules.order (is_virtual net.head.kind) net next r s.0 h)

skip_seen : (number : StatusNo) (b : ℕ) (ss : List ModuleState) → AreSkipped (seen_by_all number b ss)
skip_seen number b [] = tt
skip_seen number b (s ∷ ss) = (refl, skip_seen number (b + 1) ss)

-- a status on its way
status_leaves : (net : Net) → Facts net → (number : StatusNo) (name : StatusName) (to : Target) → Leaves net (status_rows net number name to)
status_leaves net facts number name (Module m) =
    (goes_status net.modules.order (is_virtual net.head.kind) net (after net (row.Seen number m)) number name (next_status net.modules (position net.modules.order m)) (status_up net.modules (position net.modules.order m))
    (goes_skip net.modules.order (is_virtual net.head.kind) net net (row.Seen number m) refl (begins net facts))).now
status_leaves net facts number name Bindings = (skip_rows net net (seen_by_all number 0 net.modules.bindings) (skip_seen number 0 net.modules.bindings) (begins net facts)).now

skip_given : (net : Net) (g : Giving) → AreSkipped (giving_rows net g)
skip_given net g = (refl, given g.module_id)
  where
    given : (m : ModuleId) → AreSkipped (given_rows_by net g.request m)
    given Miniport = (refl, tt)
    given (Filter f) = (refl, tt)
    given (Binding b) = tt

-- a list on its way has no clone, and is with no other stack
passed_free : (net : Net) → Facts net → (l : LiveList) (way : PassWay) (to : Target) → l.stand ≡ stand.Passed way to → look net l.list.0 ≡ Some l → IsFree net l
passed_free net facts l way to e f = record {
  found = f;
  free = unkept net.modules.order (is_virtual net.head.kind) net.next.list (look net) facts.good.good l.list.0 l f (λ k g. differ k (sym e ∙ g));
}
  where
    differ : (k : ℕ) → stand.Passed way to ≡ stand.Kept (Filter k) → ⊥
    differ k g = cc

passed_apart : (net : Net) → Facts net → (l : LiveList) (way : PassWay) (to : Target) → l.stand ≡ stand.Passed way to → look net l.list.0 ≡ Some l → is_crossed l.crossed ≡ false
passed_apart net facts l way to e f = by (is_crossed l.crossed) (λ t. differ (sym e ∙ ((facts.good.good.well l.list.0 l f).crossed t).0))
  where
    differ : stand.Passed way to ≡ stand.Kept Miniport → ⊥
    differ g = cc

    by : (b : Bool) → (b ≡ true → ⊥) → b ≡ false
    by true h = absurd (h refl)
    by false h = refl

passed_stands : (net : Net) → Facts net → (l : LiveList) (s : Stand) → l.stand ≡ s → look net l.list.0 ≡ Some l → StandsAt net.modules.order (is_down l.direction) l.owner s
passed_stands net facts l s e f = subst (StandsAt net.modules.order (is_down l.direction) l.owner) e (facts.good.good.well l.list.0 l f).stands

-- a list on its way
moved_leaves : (net : Net) → Facts net → (l : LiveList) (s : Stand) (keeps : Bool) → l.stand ≡ s → look net l.list.0 ≡ Some l → Leaves net (moved_rows net l s keeps)
moved_leaves net facts l stand.Unplaced keeps e f = facts.good
moved_leaves net facts l (stand.Kept m) keeps e f = facts.good
moved_leaves net facts l (stand.Passed way.Down (Module Miniport)) keeps e f =
    miniport_leaves net facts l keeps (passed_stands net facts l (stand.Passed way.Down (Module Miniport)) e f) (passed_apart net facts l _ _ e f) (passed_free net facts l _ _ e f)
moved_leaves net facts l (stand.Passed way.Down (Module (Filter g))) keeps e f =
    down_leaves net facts l g keeps record { free = passed_free net facts l _ _ e f; apart = passed_apart net facts l _ _ e f; past = (passed_stands net facts l (stand.Passed way.Down (Module (Filter g))) e f).1 }
moved_leaves net facts l (stand.Passed way.Down (Module (Binding b))) keeps e f = facts.good
moved_leaves net facts l (stand.Passed way.Down Bindings) keeps e f = facts.good
moved_leaves net facts l (stand.Passed way.Up (Module Miniport)) keeps e f = facts.good
moved_leaves net facts l (stand.Passed way.Up (Module (Filter g))) keeps e f =
    up_leaves net facts l g keeps record { free = passed_free net facts l _ _ e f; apart = passed_apart net facts l _ _ e f; past = (passed_stands net facts l (stand.Passed way.Up (Module (Filter g))) e f).1 }
moved_leaves net facts l (stand.Passed way.Up (Module (Binding b))) keeps e f = facts.good
moved_leaves net facts l (stand.Passed way.Up Bindings) keeps e f =
    delivery_leaves net facts l keeps (passed_stands net facts l (stand.Passed way.Up Bindings) e f) (passed_apart net facts l _ _ e f) (passed_free net facts l _ _ e f)
moved_leaves net facts l (stand.Passed (way.Done status) (Module m)) keeps e f = homeward_leaves net facts l m status (passed_free net facts l _ _ e f)
moved_leaves net facts l (stand.Passed (way.Done status) Bindings) keeps e f = facts.good
moved_leaves net facts l (stand.Passed (way.Back status) (Module m)) keeps e f = homeward_leaves net facts l m status (passed_free net facts l _ _ e f)
moved_leaves net facts l (stand.Passed (way.Back status) Bindings) keeps e f = facts.good

-- a pump
thing_leaves : (net : Net) → Facts net → (t : Thing) (keeps : Bool) → agenda_first net ≡ Some t → Leaves net (thing_rows net t keeps)
thing_leaves net facts (thing.List l) keeps e = moved_leaves net facts l l.stand keeps refl (each_away (λ x. look net x.list.0 ≡ Some x) net.things l (all_found (lists net.things) facts.apart) e)
thing_leaves net facts (thing.Status s) keeps e = status_leaves net facts s.number s.name s.to
thing_leaves net facts (thing.Answer a) keeps e = (goes_skip net.modules.order (is_virtual net.head.kind) net net (row.OidDone a.parent a.status a.value) refl (begins net facts)).now

request_leaves : (net : Net) → Facts net → (o : Option Giving) → Leaves net (request_pump net o).rows
request_leaves net facts None = facts.good
request_leaves net facts (Some g) = (skip_rows net net (giving_rows net g) (skip_given net g) (begins net facts)).now

pump_leaves : (net : Net) → Facts net → (keeps : Bool) (o : Option Thing) → agenda_first net ≡ o → Leaves net (pump_of net keeps o).rows
pump_leaves net facts keeps None e = request_leaves net facts (next_giving net)
pump_leaves net facts keeps (Some t) e = thing_leaves net facts t keeps e

drain_leaves : (net : Net) → Facts net → (keeps : Bool) → Leaves net (drain_outcome net keeps).rows
drain_leaves net facts keeps =
    by_test (λ (o : Outcome). Leaves net o.rows) (is_pump_moving net) _ _
    (λ _. pump_leaves net facts keeps (agenda_first net) refl)
    (λ _. drained_leaves net facts)

-- a list that a binding gives back
give_back_leaves : (net : Net) → Facts net → (b n : ℕ) (o : Option LiveList) → list_of n (lists net.things) ≡ o → Leaves net (give_back_of net b o).rows
give_back_leaves net facts b n None e = facts.good
give_back_leaves net facts b n (Some l) e =
    by_test (λ (o : Outcome). Leaves net o.rows) (is_kept_by (Binding b) l.stand) _ _
    (λ t.
    let number : l.list.0 ≡ n = (find_is n (lists net.things) l e).0 in
    let kept : IsKeptLive net (Binding b) l = record { found = ap (look net) number ∙ e; stand = kept_is (Binding b) l.stand t } in
    (home_from net.modules (is_virtual net.head.kind) facts.distinct net net l 0 Success (kept_free net facts (Binding b) (λ f g. cc) l kept) (begins net facts)).now)
    (λ _. facts.good)

-- a list that is taken to another stack
taken_leaves : (net : Net) → Facts net → (l : LiveList) (message : CrossNo) → is_virtual net.head.kind ≡ true → IsKeptLive net Miniport l → Leaves net (row.CrossOut message (out.Down l.list) l.frames ∷ [])
taken_leaves net facts l message v kept =
    let order : List ℕ = net.modules.order in
    let virtual : Bool = is_virtual net.head.kind in
    let next : Net = after net (row.CrossOut message (out.Down l.list) l.frames) in
    let u = look_out net message l.list l.frames in
    let good : AreGood order virtual net.next.list (look net) = facts.good.good in
    record {
      good = good_changed order virtual net.next.list (look net) (look next) l.list.0 u.others good (taken_by message.0) record { owner = λ x. refl; direction = λ x. refl; origin = λ x. refl } u.here
          (λ x f.
          let w : IsWell order virtual x = good.well l.list.0 x f in
          let is : l ≡ x = one_found (look net l.list.0) l x kept.found f in
          record { down = w.down; up = w.up; stands = w.stands; crossed = λ t. (ap (λ (y : LiveList). y.stand) (sym is) ∙ kept.stand, v) })
          (λ x f. inl refl);
      statuses = up_changed l.list.0 (taken_by message.0) net.things facts.good.statuses;
    }

take_leaves : (net : Net) → Facts net → (o : Option LiveList) → ((l : LiveList) → o ≡ Some l → (is_virtual net.head.kind ≡ true) × IsKeptLive net Miniport l) → Leaves net (take_of net o).rows
take_leaves net facts None w = facts.good
take_leaves net facts (Some l) w = taken_leaves net facts l (cross_no net.next.message) (w l refl).0 (w l refl).1

uncrossed_is : (net : Net) → Facts net → (b : Bool) (l : LiveList) → cond b (find (λ l. not (is_crossed l.crossed)) (kept_lists net Miniport)) None ≡ Some l → (b ≡ true) × IsKeptLive net Miniport l
uncrossed_is net facts true l e = (refl, (each_find (IsKeptLive net Miniport) (λ l. not (is_crossed l.crossed)) (kept_lists net Miniport) l (kept_live net Miniport facts.apart) e).0)
uncrossed_is net facts false l e = cc

-- a taken list that is done
done_leaves : (net : Net) → Facts net → (status : ListStatus) (o : Option LiveList) → ((l : LiveList) → o ≡ Some l → IsFree net l) → Leaves net (done_of net status o).rows
done_leaves net facts status None w = facts.good
done_leaves net facts status (Some l) w = (home_from net.modules (is_virtual net.head.kind) facts.distinct net net l (position net.modules.order Miniport) status (w l refl) (begins net facts)).now

message_free : (net : Net) → Facts net → (n : ℕ) (l : LiveList) → find (λ l. is_in_message n l.crossed) (lists net.things) ≡ Some l → IsFree net l
message_free net facts n l e =
    let is = each_find (λ x. look net x.list.0 ≡ Some x) (λ l. is_in_message n l.crossed) (lists net.things) l (all_found (lists net.things) facts.apart) e in
    miniport_free net facts l record { found = is.0; stand = ((facts.good.good.well l.list.0 l is.0).crossed (in_message n l.crossed is.1)).0 }
  where
    in_message : (n : ℕ) (o : Option CrossNo) → is_in_message n o ≡ true → is_crossed o ≡ true
    in_message n None h = cc
    in_message n (Some c) h = refl

-- what an event leaves
abbrev LeavesAfter : Net → Event → Outcome → Type 0
LeavesAfter net e o = Good net (state_after net e o)

take_up_leaves : (net : Net) → Facts net → (binding vlan : ℕ) (o : Option Message) → LeavesAfter net (event.CrossTakeUp binding vlan) (take_up_of net o)
take_up_leaves net facts binding vlan None = facts.good
take_up_leaves net facts binding vlan (Some m) = record { good = facts.good.good; statuses = facts.good.statuses }

pub plain_leaves : (net : Net) → Facts net → (e : Event) (c : Choice) → is_plain e ≡ true → LeavesAfter net e (outcome net e c)
plain_leaves net facts event.Initialize c p = cc
plain_leaves net facts (event.Insert kind position setup) c p = cc
plain_leaves net facts (event.Remove filter) c p = cc
plain_leaves net facts (event.Replace filter kind setup) c p = cc
plain_leaves net facts event.BeginPause c p = cc
plain_leaves net facts event.PauseNext c p = cc
plain_leaves net facts event.RestartNext c p = cc
plain_leaves net facts event.Halt c p = cc
plain_leaves net facts (event.Send binding cancel frames) c p =
    let K : Outcome → Type 0 = LeavesAfter net (event.Send binding cancel frames) in
    by_test K (phase_is_running net.phase) _ _
    (λ t. by_test K (is_full net (Binding binding)) _ _ (λ _. facts.good)
    (λ _. (sent_goes net net facts net.next.list binding cancel frames refl (begins net facts)).now))
    (λ _. facts.good)
plain_leaves net facts (event.Indicate frames) c p =
    let K : Outcome → Type 0 = LeavesAfter net (event.Indicate frames) in
    by_test K (is_running net.modules.miniport) _ _
    (λ t. by_test K (is_full net Miniport) _ _ (λ _. facts.good)
    (λ _. (indicated_goes net net facts net.next.list frames refl (begins net facts)).now))
    (λ _. facts.good)
plain_leaves net facts (event.Lend frames) c p =
    let K : Outcome → Type 0 = LeavesAfter net (event.Lend frames) in
    by_test K (is_running net.modules.miniport) _ _
    (λ t. by_test K (is_full net Miniport) _ _ (λ _. facts.good) (λ _. lent_leaves net facts frames))
    (λ _. facts.good)
plain_leaves net facts (event.GiveBack binding list) c p = give_back_leaves net facts binding list.0 (list_of list.0 (lists net.things)) refl
plain_leaves net facts (event.Cancel id) c p = cancel_leaves net facts id
plain_leaves net facts (event.Ask binding kind code value) c p =
    by_test (LeavesAfter net (event.Ask binding kind code value)) (is_unbound (state_of net (Binding binding))) _ _ (λ _. facts.good)
    (λ _. (goes_skip net.modules.order (is_virtual net.head.kind) net net (row.OidIssue (oid_no net.next.request) None binding kind code value) refl (begins net facts)).now)
plain_leaves net facts (event.Status name) c p =
    by_test (LeavesAfter net (event.Status name)) (is_halted net.modules.miniport) _ _ (λ _. facts.good)
    (λ _. (goes_status net.modules.order (is_virtual net.head.kind) net net (status_no net.next.status) name (next_status net.modules (position net.modules.order Miniport)) (status_up net.modules (position net.modules.order Miniport)) (begins net facts)).now)
plain_leaves net facts event.Transmit c p = transmit_leaves net facts
plain_leaves net facts event.Pump c p = pump_leaves net facts c.keeps (agenda_first net) refl
plain_leaves net facts event.Drain c p = drain_leaves net facts c.keeps
plain_leaves net facts event.CrossTake c p = take_leaves net facts (first_uncrossed net) (λ l e. uncrossed_is net facts (is_virtual net.head.kind) l e)
plain_leaves net facts (event.CrossPut stack message vlan frames) c p =
    let K : Outcome → Type 0 = LeavesAfter net (event.CrossPut stack message vlan frames) in
    by_test K (phase_is_running net.phase) _ _
    (λ t. by_test K (list_any (is_too_long_tagged net.head) frames) _ _ (λ _. facts.good)
    (λ _. by_test K (is_full net (Binding (mux_binding_for net.head stack))) _ _ (λ _. facts.good)
    (λ _. (sent_goes net (after net (row.CrossIn stack message crossing.Down frames)) facts net.next.list (mux_binding_for net.head stack) None _ refl
    (goes_skip net.modules.order (is_virtual net.head.kind) net net (row.CrossIn stack message crossing.Down frames) refl (begins net facts))).now)))
    (λ _. facts.good)
plain_leaves net facts (event.CrossDone message status) c p =
    done_leaves net facts status (find (λ l. is_in_message message.0 l.crossed) (lists net.things)) (λ l e. message_free net facts message.0 l e)
plain_leaves net facts (event.CrossTakeUp binding vlan) c p = take_up_leaves net facts binding vlan (find (is_for binding vlan) net.messages)
plain_leaves net facts (event.CrossPutUp stack message frames) c p =
    let K : Outcome → Type 0 = LeavesAfter net (event.CrossPutUp stack message frames) in
    by_test K (is_running net.modules.miniport) _ _
    (λ t. by_test K (is_full net Miniport) _ _ (λ _. facts.good)
    (λ _. (indicated_goes net (after net (row.CrossIn stack message crossing.Up frames)) facts net.next.list frames refl
    (goes_skip net.modules.order (is_virtual net.head.kind) net net (row.CrossIn stack message crossing.Up frames) refl (begins net facts))).now))
    (λ _. facts.good)
