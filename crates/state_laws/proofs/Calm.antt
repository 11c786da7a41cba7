-- The events that tell of lists and statuses alone: their rows change no state of a module, no configuration and
-- no request.
use Rattle.std.proofs.Common.{◌≡◌, ℕ, ◌+◌, ◌&&◌, Bool, true, false, List, [], ◌∷◌, ◌++◌, Option, Some, None, map, filter, reverse, refl}
use Rattle.std.specs.List.{list_any}
use Rattle.ndis_base.specs.declared.ModuleId.{ModuleId}
use Rattle.ndis_base.specs.declared.ModuleId.TheVariants.{Miniport, Filter, Binding}
use Rattle.ndis_base.specs.declared.ModuleState.{ModuleState}
use Rattle.ndis_base.specs.declared.ListNo.{ListNo}
use Rattle.ndis_base.specs.declared.ListStatus.{ListStatus}
use Rattle.ndis_base.specs.declared.ListStatus.TheVariants.{Success, Resources, Dropped, Paused}
use Rattle.ndis_base.specs.declared.Direction.{Direction}
use Rattle.ndis_base.specs.declared.Direction.TheVariants as direction
use Rattle.ndis_base.specs.declared.Origin.{Origin}
use Rattle.ndis_base.specs.declared.Origin.TheVariants as origin
use Rattle.ndis_base.specs.declared.StatusNo.{StatusNo}
use Rattle.ndis_base.specs.declared.StatusName.{StatusName}
use Rattle.journal_types.specs.declared.How.{How}
use Rattle.journal_types.specs.declared.How.TheVariants as how
use Rattle.journal_types.specs.declared.PassWay.TheVariants as way
use Rattle.journal_types.specs.declared.Target.{Target}
use Rattle.journal_types.specs.declared.Target.TheVariants.{Module, Bindings}
use Rattle.journal_types.specs.declared.Event.{Event}
use Rattle.journal_types.specs.declared.Event.TheVariants as event
use Rattle.journal_types.specs.declared.Row.{Row}
use Rattle.stack_rules.specs.declared.Stand.{Stand}
use Rattle.stack_rules.specs.declared.Stand.TheVariants as stand
use Rattle.stack_rules.specs.declared.LiveList.{LiveList}
use Rattle.stack_rules.specs.declared.Attached.{Attached}
use Rattle.stack_rules.specs.declared.Message.{Message}
use Rattle.stack_rules.specs.declared.Choice.{Choice}
use Rattle.stack_rules.specs.Tests.{phase_is_running, is_running, is_hold, is_virtual, is_retain, is_halted, same_frames, same_module}
use Rattle.stack_rules.specs.Heads.{kind_of_binding, binding_numbers}
use Rattle.stack_rules.specs.Net.{Net, Modules, attached, list_of, lists}
use Rattle.stack_rules.specs.Places.{position, is_full, ready_lists, is_kept_by}
use Rattle.stack_rules.specs.Targets.{onward, homeward, homeward_by, turned_back, has_receive}
use Rattle.stack_rules.specs.Outcome.{Outcome}
use Rattle.stack_rules.specs.Handled.{handled_as, made_of, stays, changes, filter_rows}
use Rattle.stack_rules.specs.Sends.{ring_is_full, at_filter, down_rows, loops, looped, transmitted, transmit_of, first_of, first_in_ring}
use Rattle.stack_rules.specs.Dones.{released, released_list, homeward_rows}
use Rattle.stack_rules.specs.Deliveries.{delivered, echoes, settled, last_of, takers, delivery_rows}
use Rattle.stack_rules.specs.Receives.{up_at_filter, up_rows, give_back_of, lent_at, lent_handled, lent_up, lent_delivery}
use Rattle.stack_rules.specs.Cancels.{cancel_outcome, cancel_rows_at, cancelled_at, aborted, queues, is_hold_filter}
use Rattle.stack_rules.specs.Drains.{returned_by, returns_all, passed_by, passes_all, empties, empties_ring, first_rows, drain_rows, drained}
use Rattle.stack_rules.specs.Pumps.{moved_rows}
use Rattle.stack_rules.specs.Statuses.{seen_by_all, status_rows}
use Rattle.stack_rules.specs.Crosses.{first_uncrossed, take_of, done_of, take_up_of, is_too_long_tagged, mux_binding_for}
use Rattle.stack_rules.specs.Sound.{outcome}
use Rattle.state_laws.proofs.Rows.{by_test, is_calm, AreCalm, calm-append, calm-map, calm-flat_map}

calm_onward : (ms : Modules) (list : ListNo) (d : Direction) (i : ℕ) → is_calm (onward ms list d i) ≡ true
calm_onward ms list direction.Down i = refl
calm_onward ms list direction.Up i = refl
calm_onward ms list direction.Lent i = refl

calm_by : (ms : Modules) (list : ListNo) (owner : ModuleId) (d : Direction) (i : ℕ) (s : ListStatus) → is_calm (homeward_by ms list owner d i s) ≡ true
calm_by ms list owner direction.Down i s = refl
calm_by ms list owner direction.Up i s = refl
calm_by ms list owner direction.Lent i s = refl

calm_homeward : (ms : Modules) (l : LiveList) (i : ℕ) (s : ListStatus) → is_calm (homeward ms l i s) ≡ true
calm_homeward ms l i s = calm_by ms l.list l.owner l.direction i s

calm_back : (ms : Modules) (l : LiveList) (m : ModuleId) (s : ListStatus) → AreCalm (turned_back ms l m s)
calm_back ms l m s = (refl, (calm_homeward ms l (position ms.order m) s, tt))

-- at a filter
calm_stays : (net : Net) (a : Attached) (l : LiveList) (keeps : Bool) → AreCalm (stays net a l keeps)
calm_stays net a l keeps = by_test AreCalm (keeps && is_hold a.kind) _ _ (λ _. (refl, tt)) (λ _. (calm_onward net.modules l.list l.direction (position net.modules.order (Filter a.filter)), tt))

calm_changes : (net : Net) (a : Attached) (l : LiveList) (frames : List (List ℕ)) → AreCalm (changes net a l frames)
calm_changes net a l frames =
    by_test AreCalm (is_full net (Filter a.filter)) _ _
    (λ _. calm_back net.modules l (Filter a.filter) Resources)
    (λ _. (refl, (refl, (calm_onward net.modules (record { 0 = net.next.list }) l.direction (position net.modules.order (Filter a.filter)), tt))))

calm_handled : (net : Net) (a : Attached) (l : LiveList) (keeps : Bool) (made : Option (List (List ℕ))) → AreCalm (handled_as net a l keeps made)
calm_handled net a l keeps None = calm_back net.modules l (Filter a.filter) Dropped
calm_handled net a l keeps (Some frames) =
    by_test AreCalm (same_frames frames l.frames) _ _ (λ _. calm_stays net a l keeps) (λ _. calm_changes net a l frames)

calm_filter : (net : Net) (a : Attached) (l : LiveList) (keeps : Bool) → AreCalm (filter_rows net a l keeps)
calm_filter net a l keeps = (refl, calm_handled net a l keeps (made_of net a l))

-- sends
calm_at : (net : Net) (o : Option Attached) (l : LiveList) (keeps : Bool) → AreCalm (at_filter net o l keeps)
calm_at net None l keeps = tt
calm_at net (Some a) l keeps = calm_filter net a l keeps

calm_down : (net : Net) (l : LiveList) (m : ModuleId) (keeps : Bool) → AreCalm (down_rows net l m keeps)
calm_down net l Miniport keeps =
    (refl, by_test AreCalm (ring_is_full net) _ _ (λ _. calm_back net.modules l Miniport Resources) (λ _. (refl, tt)))
calm_down net l (Filter f) keeps = calm_at net (attached f net.modules.filters) l keeps
calm_down net l (Binding b) keeps = tt

calm_looped : (net : Net) (l : LiveList) → AreCalm (looped net l)
calm_looped net l = by_test AreCalm (loops net) _ _ (λ _. (refl, (refl, tt))) (λ _. tt)

calm_transmitted : (net : Net) (l : LiveList) → AreCalm (transmitted net l)
calm_transmitted net l =
    (refl, calm-append (looped net l) _ (calm_looped net l) (calm_homeward net.modules l (position net.modules.order Miniport) Success, tt))

calm_transmit : (net : Net) (o : Option LiveList) → AreCalm (transmit_of net o).rows
calm_transmit net None = tt
calm_transmit net (Some l) = calm_transmitted net l

-- lists on their way home
calm_released : (net : Net) (m : ModuleId) (s : ListStatus) (o : Option LiveList) → AreCalm (released_list net m s o)
calm_released net m s None = tt
calm_released net m s (Some l) = (calm_homeward net.modules l (position net.modules.order m) s, tt)

calm_release : (net : Net) (m : ModuleId) (o : Origin) (s : ListStatus) → AreCalm (released net m o s)
calm_release net m origin.Root s = tt
calm_release net m (origin.Clone o) s = calm_released net m s (list_of o.0 (lists net.things))
calm_release net m (origin.Copy o) s = tt

calm_homewards : (net : Net) (l : LiveList) (m : ModuleId) (s : ListStatus) → AreCalm (homeward_rows net l m s)
calm_homewards net l m s =
    by_test AreCalm (same_module m l.owner) _ _
    (λ _. (refl, calm_release net l.owner l.origin s))
    (λ _. (refl, (calm_homeward net.modules l (position net.modules.order m) s, tt)))

-- receives
calm_delivered : (net : Net) (list : ListNo) (frames : List (List ℕ)) (own : How) (n : ℕ) (bs : List ℕ) → AreCalm (delivered net list frames own n bs)
calm_delivered net list frames own n [] = tt
calm_delivered net list frames own n (b ∷ bs) =
    (refl, by_test AreCalm (echoes net b) _ _ (λ _. (refl, (refl, calm_delivered net list frames own (n + 1) bs))) (λ _. calm_delivered net list frames own n bs))

calm_settled : (net : Net) (l : LiveList) (keeps : Bool) (o : Option ℕ) → AreCalm (settled net l keeps o)
calm_settled net l keeps None = (calm_homeward net.modules l 0 Success, tt)
calm_settled net l keeps (Some b) =
    by_test AreCalm (keeps && is_retain (kind_of_binding net.head b)) _ _ (λ _. (refl, tt)) (λ _. (calm_homeward net.modules l 0 Success, tt))

calm_delivery : (net : Net) (l : LiveList) (keeps : Bool) → AreCalm (delivery_rows net l keeps)
calm_delivery net l keeps =
    calm-append (delivered net l.list l.frames how.Own net.next.list (takers net l.frames)) _
    (calm_delivered net l.list l.frames how.Own net.next.list (takers net l.frames)) (calm_settled net l keeps (last_of (takers net l.frames)))

calm_up_at : (net : Net) (o : Option Attached) (l : LiveList) (keeps : Bool) → AreCalm (up_at_filter net o l keeps)
calm_up_at net None l keeps = tt
calm_up_at net (Some a) l keeps =
    by_test AreCalm (is_running a.state) _ _ (λ _. calm_filter net a l keeps) (λ _. calm_back net.modules l (Filter a.filter) Paused)

calm_up : (net : Net) (l : LiveList) (to : Target) (keeps : Bool) → AreCalm (up_rows net l to keeps)
calm_up net l (Module (Filter f)) keeps = calm_up_at net (attached f net.modules.filters) l keeps
calm_up net l Bindings keeps =
    by_test AreCalm (phase_is_running net.phase) _ _ (λ _. calm_delivery net l keeps) (λ _. calm_back net.modules l (Binding 0) Paused)
calm_up net l (Module Miniport) keeps = tt
calm_up net l (Module (Binding b)) keeps = tt

-- lent lists
calm_lent_handled : (net : Net) (a : Attached) (list : ListNo) (frames : List (List ℕ)) (further : List Row) (o : Option (List (List ℕ))) → AreCalm further → AreCalm (lent_handled net a list frames further o)
calm_lent_handled net a list frames further None h = (refl, (refl, tt))
calm_lent_handled net a list frames further (Some made) h =
    by_test AreCalm (same_frames made frames) _ _ (λ _. h)
    (λ _. by_test AreCalm (is_full net (Filter a.filter)) _ _ (λ _. (refl, (refl, tt))) (λ _. (refl, (refl, (refl, tt)))))

calm_lent_at : (net : Net) (o : Option Attached) (list : ListNo) (frames : List (List ℕ)) (further : List Row) → AreCalm further → AreCalm (lent_at net o list frames further)
calm_lent_at net None list frames further h = h
calm_lent_at net (Some a) list frames further h =
    by_test AreCalm (is_running a.state) _ _ (λ _. (refl, calm_lent_handled net a list frames further _ h)) (λ _. (refl, (refl, tt)))

calm_lent_delivery : (net : Net) (list : ListNo) (frames : List (List ℕ)) → AreCalm (lent_delivery net list frames)
calm_lent_delivery net list frames =
    by_test AreCalm (phase_is_running net.phase) _ _
    (λ _. calm-append (delivered net list frames how.Lent (net.next.list + 1) (takers net frames)) _ (calm_delivered net list frames how.Lent (net.next.list + 1) (takers net frames)) (refl, tt))
    (λ _. (refl, (refl, tt)))

calm_lent_up : (net : Net) (list : ListNo) (frames : List (List ℕ)) (fs : List ℕ) → AreCalm (lent_up net list frames fs)
calm_lent_up net list frames [] = calm_lent_delivery net list frames
calm_lent_up net list frames (f ∷ fs) = calm_lent_at net (attached f net.modules.filters) list frames (lent_up net list frames fs) (calm_lent_up net list frames fs)

-- a binding's list that it gives back
calm_give_back : (net : Net) (b : ℕ) (o : Option LiveList) → AreCalm (give_back_of net b o).rows
calm_give_back net b None = tt
calm_give_back net b (Some l) =
    by_test (λ (o : Outcome). AreCalm o.rows) (is_kept_by (Binding b) l.stand) _ _ (λ _. (calm_homeward net.modules l 0 Success, tt)) (λ _. tt)

-- a cancel
calm_cancel : (net : Net) (id : ℕ) → AreCalm (cancel_outcome net id).rows
calm_cancel net id =
    calm-flat_map (cancel_rows_at net id) (queues net.modules)
    (λ m. calm-flat_map (aborted net m) (cancelled_at net id m) (λ l. calm_back net.modules l m _))

-- pumps
pub calm_moved : (net : Net) (l : LiveList) (s : Stand) (keeps : Bool) → AreCalm (moved_rows net l s keeps)
calm_moved net l stand.Unplaced keeps = tt
calm_moved net l (stand.Kept m) keeps = tt
calm_moved net l (stand.Passed way.Down (Module m)) keeps = calm_down net l m keeps
calm_moved net l (stand.Passed way.Down Bindings) keeps = tt
calm_moved net l (stand.Passed way.Up to) keeps = calm_up net l to keeps
calm_moved net l (stand.Passed (way.Done s) (Module m)) keeps = calm_homewards net l m s
calm_moved net l (stand.Passed (way.Done s) Bindings) keeps = tt
calm_moved net l (stand.Passed (way.Back s) (Module m)) keeps = calm_homewards net l m s
calm_moved net l (stand.Passed (way.Back s) Bindings) keeps = tt

calm_seen : (number : StatusNo) (b : ℕ) (ss : List ModuleState) → AreCalm (seen_by_all number b ss)
calm_seen number b [] = tt
calm_seen number b (s ∷ ss) = (refl, calm_seen number (b + 1) ss)

-- a status on its way
pub calm_status : (net : Net) (number : StatusNo) (name : StatusName) (to : Target) → AreCalm (status_rows net number name to)
calm_status net number name (Module m) = (refl, (refl, tt))
calm_status net number name Bindings = calm_seen number 0 net.modules.bindings

-- drains
calm_returns : (net : Net) (b : ℕ) → AreCalm (returns_all net b)
calm_returns net b =
    by_test AreCalm (is_retain (kind_of_binding net.head b)) _ _ (λ _. calm-map (returned_by net) (ready_lists net (Binding b)) (λ l. calm_homeward net.modules l 0 Success)) (λ _. tt)

calm_passes : (net : Net) (f : ℕ) → AreCalm (passes_all net f)
calm_passes net f =
    by_test AreCalm (is_hold_filter net.modules f) _ _
    (λ _. calm-map (passed_by net f) (ready_lists net (Filter f)) (λ l. calm_onward net.modules l.list l.direction (position net.modules.order (Filter f))))
    (λ _. tt)

calm_empties : (net : Net) (o : Option LiveList) → AreCalm (empties net o)
calm_empties net None = tt
calm_empties net (Some l) =
    by_test AreCalm (is_virtual net.head.kind) _ _
    (λ _. by_test AreCalm (phase_is_running net.phase) _ _ (λ _. tt) (λ _. calm_back net.modules l Miniport Paused))
    (λ _. calm_transmitted net l)

abbrev pub All : (List Row → Type 0) → List (List Row) → Type 0
All P [] = Unit {0}
All P (rows ∷ others) = P rows × All P others

pub All-append : (P : List Row → Type 0) (xs ys : List (List Row)) → All P xs → All P ys → All P (xs ++ ys)
All-append P [] ys h k = k
All-append P (x ∷ xs) ys h k = (h.0, All-append P xs ys h.1 k)

pub All-map : (P : List Row → Type 0) (f : ℕ → List Row) (ns : List ℕ) → ((n : ℕ) → P (f n)) → All P (map f ns)
All-map P f [] h = tt
All-map P f (n ∷ ns) h = (h n, All-map P f ns h)

pub first_of_all : (P : List Row → Type 0) → P [] → (all : List (List Row)) → All P all → P (first_rows all)
first_of_all P none [] h = none
first_of_all P none ([] ∷ others) h = first_of_all P none others h.1
first_of_all P none ((r ∷ rows) ∷ others) h = h.0

calm_drain_rows : (net : Net) → AreCalm (drain_rows net)
calm_drain_rows net =
    first_of_all AreCalm tt (map (returns_all net) (binding_numbers net.head) ++ (map (passes_all net) net.modules.order ++ empties_ring net ∷ []))
    (All-append AreCalm (map (returns_all net) (binding_numbers net.head)) _ (All-map AreCalm (returns_all net) (binding_numbers net.head) (calm_returns net))
    (All-append AreCalm (map (passes_all net) net.modules.order) _ (All-map AreCalm (passes_all net) net.modules.order (calm_passes net)) (calm_empties net (first_of (ready_lists net Miniport)), tt)))

pub calm_drained : (net : Net) → AreCalm (drained (drain_rows net)).rows
calm_drained net = by (drain_rows net) (calm_drain_rows net)
  where
    by : (rows : List Row) → AreCalm rows → AreCalm (drained rows).rows
    by [] h = tt
    by (r ∷ rows) h = h

abbrev Calm : Outcome → Type 0
Calm o = AreCalm o.rows

-- crossings
calm_take : (net : Net) (o : Option LiveList) → Calm (take_of net o)
calm_take net None = tt
calm_take net (Some l) = (refl, tt)

calm_done : (net : Net) (s : ListStatus) (o : Option LiveList) → Calm (done_of net s o)
calm_done net s None = tt
calm_done net s (Some l) = (calm_homeward net.modules l (position net.modules.order Miniport) s, tt)

calm_take_up : (net : Net) (o : Option Message) → Calm (take_up_of net o)
calm_take_up net None = tt
calm_take_up net (Some m) = (refl, tt)

-- the event tells of lists and statuses alone
abbrev pub is_calm_event : Event → Bool
is_calm_event (event.Send binding cancel frames) = true
is_calm_event (event.Indicate frames) = true
is_calm_event (event.Lend frames) = true
is_calm_event (event.GiveBack binding list) = true
is_calm_event (event.Cancel id) = true
is_calm_event (event.Status name) = true
is_calm_event event.Transmit = true
is_calm_event event.CrossTake = true
is_calm_event (event.CrossPut stack message vlan frames) = true
is_calm_event (event.CrossDone message status) = true
is_calm_event (event.CrossTakeUp binding vlan) = true
is_calm_event (event.CrossPutUp stack message frames) = true
is_calm_event _ = false

pub calm_event : (net : Net) (e : Event) (c : Choice) → is_calm_event e ≡ true → Calm (outcome net e c)
calm_event net (event.Send binding cancel frames) c p =
    by_test Calm (phase_is_running net.phase) _ _
    (λ _. by_test Calm (is_full net (Binding binding)) _ _ (λ _. tt) (λ _. (refl, (refl, tt))))
    (λ _. tt)
calm_event net (event.Indicate frames) c p =
    by_test Calm (is_running net.modules.miniport) _ _
    (λ _. by_test Calm (is_full net Miniport) _ _ (λ _. tt) (λ _. (refl, (refl, tt))))
    (λ _. tt)
calm_event net (event.Lend frames) c p =
    by_test Calm (is_running net.modules.miniport) _ _
    (λ _. by_test Calm (is_full net Miniport) _ _ (λ _. tt)
    (λ _. (refl, calm_lent_up net _ frames (filter (has_receive net.modules) (reverse net.modules.order)))))
    (λ _. tt)
calm_event net (event.GiveBack binding list) c p = calm_give_back net binding (list_of list.0 (lists net.things))
calm_event net (event.Cancel id) c p = calm_cancel net id
calm_event net (event.Status name) c p = by_test Calm (is_halted net.modules.miniport) _ _ (λ _. tt) (λ _. (refl, tt))
calm_event net event.Transmit c p = calm_transmit net (first_in_ring net)
calm_event net event.CrossTake c p = calm_take net (first_uncrossed net)
calm_event net (event.CrossPut stack message vlan frames) c p =
    by_test Calm (phase_is_running net.phase) _ _
    (λ _. by_test Calm (list_any (is_too_long_tagged net.head) frames) _ _ (λ _. tt)
    (λ _. by_test Calm (is_full net (Binding (mux_binding_for net.head stack))) _ _ (λ _. tt) (λ _. (refl, (refl, (refl, tt))))))
    (λ _. tt)
calm_event net (event.CrossDone message status) c p = calm_done net status _
calm_event net (event.CrossTakeUp binding vlan) c p = calm_take_up net _
calm_event net (event.CrossPutUp stack message frames) c p =
    by_test Calm (is_running net.modules.miniport) _ _
    (λ _. by_test Calm (is_full net Miniport) _ _ (λ _. tt) (λ _. (refl, (refl, (refl, tt)))))
    (λ _. tt)
calm_event net _ c p = cc
