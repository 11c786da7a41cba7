-- Where the rows of each event send statuses: to filters that have the status handler, and to the bindings.
use Rattle.std.proofs.Common.{◌≡◌, ℕ, ◌+◌, ◌-◌, ◌∙◌, ◌&&◌, Bool, true, List, [], ◌∷◌, ◌++◌, Option, Some, None, map, filter, reverse, flat_map, find, sym}
use Rattle.std.specs.List.{list_any}
use Rattle.ndis_base.specs.declared.ModuleId.{ModuleId}
use Rattle.ndis_base.specs.declared.ModuleId.TheVariants.{Miniport, Filter, Binding}
use Rattle.ndis_base.specs.declared.ListNo.{ListNo}
use Rattle.ndis_base.specs.declared.ModuleState.{ModuleState}
use Rattle.ndis_base.specs.declared.StatusName.{StatusName}
use Rattle.ndis_base.specs.declared.StatusNo.{StatusNo}
use Rattle.ndis_base.specs.declared.ListStatus.{ListStatus}
use Rattle.ndis_base.specs.declared.ListStatus.TheVariants.{Success, Resources, Dropped, Paused}
use Rattle.ndis_base.specs.declared.Direction.{Direction}
use Rattle.ndis_base.specs.declared.Direction.TheVariants as direction
use Rattle.ndis_base.specs.declared.Origin.{Origin}
use Rattle.ndis_base.specs.declared.Origin.TheVariants as origin
use Rattle.journal_types.specs.declared.How.{How}
use Rattle.journal_types.specs.declared.How.TheVariants as how
use Rattle.journal_types.specs.declared.PassWay.TheVariants as way
use Rattle.journal_types.specs.declared.Target.{Target}
use Rattle.journal_types.specs.declared.Target.TheVariants.{Module, Bindings}
use Rattle.journal_types.specs.declared.Event.{Event}
use Rattle.journal_types.specs.declared.Event.TheVariants as event
use Rattle.journal_types.specs.declared.Row.{Row}
use Rattle.stack_rules.specs.declared.Stand.{Stand}
use Rattle.stack_rules.specs.declared.Stand.TheVariants as stand
use Rattle.stack_rules.specs.declared.LiveList.{LiveList}
use Rattle.stack_rules.specs.declared.Attached.{Attached}
use Rattle.stack_rules.specs.declared.Message.{Message}
use Rattle.stack_rules.specs.declared.Choice.{Choice}
use Rattle.stack_rules.specs.Tests.{is_unbound, phase_is_running, is_halted, is_running, is_hold, is_virtual, is_retain, same_frames, same_module}
use Rattle.stack_rules.specs.Heads.{kind_of_binding, binding_numbers}
use Rattle.stack_rules.specs.Net.{Net, Modules, attached, list_of, lists}
use Rattle.stack_rules.specs.Places.{state_of, position, is_full, ready_lists, is_kept_by, agenda_first}
use Rattle.stack_rules.specs.Targets.{onward, homeward, homeward_by, turned_back, has_receive, has_status, filters_above, next_status}
use Rattle.stack_rules.specs.Outcome.{Outcome}
use Rattle.stack_rules.specs.Handled.{handled_as, made_of, stays, changes, filter_rows}
use Rattle.stack_rules.specs.Sends.{ring_is_full, at_filter, down_rows, loops, looped, transmitted, transmit_of, first_of, first_in_ring}
use Rattle.stack_rules.specs.Dones.{released, released_list, homeward_rows}
use Rattle.stack_rules.specs.Deliveries.{delivered, echoes, settled, last_of, takers, delivery_rows}
use Rattle.stack_rules.specs.Receives.{up_at_filter, up_rows, give_back_of, lent_at, lent_handled, lent_up, lent_delivery}
use Rattle.stack_rules.specs.Cancels.{cancel_outcome, cancel_rows_at, cancelled_at, aborted, queues, is_hold_filter}
use Rattle.stack_rules.specs.Drains.{returned_by, returns_all, passed_by, passes_all, empties, empties_ring, drain_rows, drained}
use Rattle.stack_rules.specs.Pumps.{moved_rows, request_pump, pump_of, is_pump_moving}
use Rattle.stack_rules.specs.Crosses.{first_uncrossed, take_of, done_of, take_up_of, is_too_long_tagged, mux_binding_for, is_in_message}
use Rattle.stack_rules.specs.Requests.{Giving, giving_rows, given_rows_by, next_giving}
use Rattle.stack_rules.specs.Statuses.{seen_by_all, status_rows}
use Rattle.stack_rules.specs.Sound.{outcome}
use Rattle.stack_rules.specs.declared.Thing.{Thing}
use Rattle.stack_rules.specs.declared.Thing.TheVariants as thing
use Rattle.stack_rules.specs.Messages.{is_for}
use Rattle.state_laws.proofs.Rows.{by_test}
use Rattle.state_laws.proofs.Calm.{All-append, All-map, first_of_all}
use Rattle.state_laws.proofs.Quiet.{is_plain}
use Rattle.pause_laws.proofs.Places.{found_or}
use Rattle.place_laws.proofs.Spots.{in_take, in_reverse}
use Rattle.status_laws.specs.Handlers.{GoesToHandler}
use Rattle.status_laws.proofs.Things.{IsOfRow, AreOfRows, of-append}

-- a status goes to a filter above that has the handler, or to the bindings
status_goes : (ms : Modules) (i : ℕ) → GoesToHandler ms (next_status ms i)
status_goes ms i =
    found_or (GoesToHandler ms) (has_status ms) (reverse (filters_above ms i)) Bindings
    (λ f has inside. record { inside = in_take f (i - 1) ms.order (sym (in_reverse f (filters_above ms i)) ∙ inside); has = has }) tt

-- rows that send statuses there
abbrev pub UpRow : Modules → Row → Type 0
UpRow ms r = IsOfRow (λ s. GoesToHandler ms s.to) r

abbrev pub Up : Modules → List Row → Type 0
Up ms rows = AreOfRows (λ s. GoesToHandler ms s.to) rows

up-append : (ms : Modules) (xs ys : List Row) → Up ms xs → Up ms ys → Up ms (xs ++ ys)
up-append ms xs ys h k = of-append (λ s. GoesToHandler ms s.to) xs ys h k

up-map : {A : Type 0} (ms : Modules) (f : A → Row) (xs : List A) → ((x : A) → UpRow ms (f x)) → Up ms (map f xs)
up-map ms f [] h = tt
up-map ms f (x ∷ xs) h = (h x, up-map ms f xs h)

up-flat_map : {A : Type 0} (ms : Modules) (f : A → List Row) (xs : List A) → ((x : A) → Up ms (f x)) → Up ms (flat_map f xs)
up-flat_map ms f [] h = tt
up-flat_map ms f (x ∷ xs) h = up-append ms (f x) (flat_map f xs) (h x) (up-flat_map ms f xs h)

-- onwards and homewards
up_onward : (ms : Modules) (list : ListNo) (w : Direction) (i : ℕ) → UpRow ms (onward ms list w i)
up_onward ms list direction.Down i = tt
up_onward ms list direction.Up i = tt
up_onward ms list direction.Lent i = tt

up_by : (ms : Modules) (list : ListNo) (owner : ModuleId) (w : Direction) (i : ℕ) (s : ListStatus) → UpRow ms (homeward_by ms list owner w i s)
up_by ms list owner direction.Down i s = tt
up_by ms list owner direction.Up i s = tt
up_by ms list owner direction.Lent i s = tt

up_homeward : (ms : Modules) (l : LiveList) (i : ℕ) (s : ListStatus) → UpRow ms (homeward ms l i s)
up_homeward ms l i s = up_by ms l.list l.owner l.direction i s

up_back : (ms : Modules) (l : LiveList) (m : ModuleId) (s : ListStatus) → Up ms (turned_back ms l m s)
up_back ms l m s = (tt, (up_homeward ms l (position ms.order m) s, tt))

-- at a filter
up_stays : (net : Net) (a : Attached) (l : LiveList) (keeps : Bool) → Up net.modules (stays net a l keeps)
up_stays net a l keeps = by_test (Up net.modules) (keeps && is_hold a.kind) _ _ (λ _. (tt, tt)) (λ _. (up_onward net.modules l.list l.direction (position net.modules.order (Filter a.filter)), tt))

up_changes : (net : Net) (a : Attached) (l : LiveList) (frames : List (List ℕ)) → Up net.modules (changes net a l frames)
up_changes net a l frames =
    by_test (Up net.modules) (is_full net (Filter a.filter)) _ _
    (λ _. up_back net.modules l (Filter a.filter) Resources)
    (λ _. (tt, (tt, (up_onward net.modules (record { 0 = net.next.list }) l.direction (position net.modules.order (Filter a.filter)), tt))))

up_handled : (net : Net) (a : Attached) (l : LiveList) (keeps : Bool) (made : Option (List (List ℕ))) → Up net.modules (handled_as net a l keeps made)
up_handled net a l keeps None = up_back net.modules l (Filter a.filter) Dropped
up_handled net a l keeps (Some frames) =
    by_test (Up net.modules) (same_frames frames l.frames) _ _ (λ _. up_stays net a l keeps) (λ _. up_changes net a l frames)

up_filter : (net : Net) (a : Attached) (l : LiveList) (keeps : Bool) → Up net.modules (filter_rows net a l keeps)
up_filter net a l keeps = (tt, up_handled net a l keeps (made_of net a l))

-- sends
up_at : (net : Net) (o : Option Attached) (l : LiveList) (keeps : Bool) → Up net.modules (at_filter net o l keeps)
up_at net None l keeps = tt
up_at net (Some a) l keeps = up_filter net a l keeps

up_down : (net : Net) (l : LiveList) (m : ModuleId) (keeps : Bool) → Up net.modules (down_rows net l m keeps)
up_down net l Miniport keeps =
    (tt, by_test (Up net.modules) (ring_is_full net) _ _ (λ _. up_back net.modules l Miniport Resources) (λ _. (tt, tt)))
up_down net l (Filter f) keeps = up_at net (attached f net.modules.filters) l keeps
up_down net l (Binding b) keeps = tt

up_looped : (net : Net) (l : LiveList) → Up net.modules (looped net l)
up_looped net l = by_test (Up net.modules) (loops net) _ _ (λ _. (tt, (tt, tt))) (λ _. tt)

up_transmitted : (net : Net) (l : LiveList) → Up net.modules (transmitted net l)
up_transmitted net l =
    (tt, up-append net.modules (looped net l) _ (up_looped net l) (up_homeward net.modules l (position net.modules.order Miniport) Success, tt))

up_transmit : (net : Net) (o : Option LiveList) → Up net.modules (transmit_of net o).rows
up_transmit net None = tt
up_transmit net (Some l) = up_transmitted net l

-- lists on their way home
up_released : (net : Net) (m : ModuleId) (s : ListStatus) (o : Option LiveList) → Up net.modules (released_list net m s o)
up_released net m s None = tt
up_released net m s (Some l) = (up_homeward net.modules l (position net.modules.order m) s, tt)

up_release : (net : Net) (m : ModuleId) (o : Origin) (s : ListStatus) → Up net.modules (released net m o s)
up_release net m origin.Root s = tt
up_release net m (origin.Clone o) s = up_released net m s (list_of o.0 (lists net.things))
up_release net m (origin.Copy o) s = tt

up_homewards : (net : Net) (l : LiveList) (m : ModuleId) (s : ListStatus) → Up net.modules (homeward_rows net l m s)
up_homewards net l m s =
    by_test (Up net.modules) (same_module m l.owner) _ _
    (λ _. (tt, up_release net l.owner l.origin s))
    (λ _. (tt, (up_homeward net.modules l (position net.modules.order m) s, tt)))

-- receives
up_delivered : (net : Net) (list : ListNo) (frames : List (List ℕ)) (own : How) (n : ℕ) (bs : List ℕ) → Up net.modules (delivered net list frames own n bs)
up_delivered net list frames own n [] = tt
up_delivered net list frames own n (b ∷ bs) =
    (tt, by_test (Up net.modules) (echoes net b) _ _ (λ _. (tt, (tt, up_delivered net list frames own (n + 1) bs))) (λ _. up_delivered net list frames own n bs))

up_settled : (net : Net) (l : LiveList) (keeps : Bool) (o : Option ℕ) → Up net.modules (settled net l keeps o)
up_settled net l keeps None = (up_homeward net.modules l 0 Success, tt)
up_settled net l keeps (Some b) =
    by_test (Up net.modules) (keeps && is_retain (kind_of_binding net.head b)) _ _ (λ _. (tt, tt)) (λ _. (up_homeward net.modules l 0 Success, tt))

up_delivery : (net : Net) (l : LiveList) (keeps : Bool) → Up net.modules (delivery_rows net l keeps)
up_delivery net l keeps =
    up-append net.modules (delivered net l.list l.frames how.Own net.next.list (takers net l.frames)) _
    (up_delivered net l.list l.frames how.Own net.next.list (takers net l.frames)) (up_settled net l keeps (last_of (takers net l.frames)))

up_received_at : (net : Net) (o : Option Attached) (l : LiveList) (keeps : Bool) → Up net.modules (up_at_filter net o l keeps)
up_received_at net None l keeps = tt
up_received_at net (Some a) l keeps =
    by_test (Up net.modules) (is_running a.state) _ _ (λ _. up_filter net a l keeps) (λ _. up_back net.modules l (Filter a.filter) Paused)

up_received : (net : Net) (l : LiveList) (to : Target) (keeps : Bool) → Up net.modules (up_rows net l to keeps)
up_received net l (Module (Filter f)) keeps = up_received_at net (attached f net.modules.filters) l keeps
up_received net l Bindings keeps =
    by_test (Up net.modules) (phase_is_running net.phase) _ _ (λ _. up_delivery net l keeps) (λ _. up_back net.modules l (Binding 0) Paused)
up_received net l (Module Miniport) keeps = tt
up_received net l (Module (Binding b)) keeps = tt

-- lent lists
up_lent_handled : (net : Net) (a : Attached) (list : ListNo) (frames : List (List ℕ)) (further : List Row) (o : Option (List (List ℕ))) → Up net.modules further → Up net.modules (lent_handled net a list frames further o)
up_lent_handled net a list frames further None h = (tt, (tt, tt))
up_lent_handled net a list frames further (Some made) h =
    by_test (Up net.modules) (same_frames made frames) _ _ (λ _. h)
    (λ _. by_test (Up net.modules) (is_full net (Filter a.filter)) _ _ (λ _. (tt, (tt, tt)))
    (λ _. (tt, (tt, (tt, tt)))))

up_lent_at : (net : Net) (o : Option Attached) (list : ListNo) (frames : List (List ℕ)) (further : List Row) → Up net.modules further → Up net.modules (lent_at net o list frames further)
up_lent_at net None list frames further h = h
up_lent_at net (Some a) list frames further h =
    by_test (Up net.modules) (is_running a.state) _ _ (λ _. (tt, up_lent_handled net a list frames further _ h)) (λ _. (tt, (tt, tt)))

up_lent_delivery : (net : Net) (list : ListNo) (frames : List (List ℕ)) → Up net.modules (lent_delivery net list frames)
up_lent_delivery net list frames =
    by_test (Up net.modules) (phase_is_running net.phase) _ _
    (λ _. up-append net.modules (delivered net list frames how.Lent (net.next.list + 1) (takers net frames)) _ (up_delivered net list frames how.Lent (net.next.list + 1) (takers net frames)) (tt, tt))
    (λ _. (tt, (tt, tt)))

up_lent_up : (net : Net) (list : ListNo) (frames : List (List ℕ)) (fs : List ℕ) → Up net.modules (lent_up net list frames fs)
up_lent_up net list frames [] = up_lent_delivery net list frames
up_lent_up net list frames (f ∷ fs) = up_lent_at net (attached f net.modules.filters) list frames (lent_up net list frames fs) (up_lent_up net list frames fs)

-- a binding's list that it gives back
up_give_back : (net : Net) (b : ℕ) (o : Option LiveList) → Up net.modules (give_back_of net b o).rows
up_give_back net b None = tt
up_give_back net b (Some l) =
    by_test (λ (o : Outcome). Up net.modules o.rows) (is_kept_by (Binding b) l.stand) _ _ (λ _. (up_homeward net.modules l 0 Success, tt)) (λ _. tt)

-- a cancel
up_cancel : (net : Net) (id : ℕ) → Up net.modules (cancel_outcome net id).rows
up_cancel net id =
    up-flat_map net.modules (cancel_rows_at net id) (queues net.modules)
    (λ m. up-flat_map net.modules (aborted net m) (cancelled_at net id m) (λ l. up_back net.modules l m _))

-- pumps
up_moved : (net : Net) (l : LiveList) (s : Stand) (keeps : Bool) → Up net.modules (moved_rows net l s keeps)
up_moved net l stand.Unplaced keeps = tt
up_moved net l (stand.Kept m) keeps = tt
up_moved net l (stand.Passed way.Down (Module m)) keeps = up_down net l m keeps
up_moved net l (stand.Passed way.Down Bindings) keeps = tt
up_moved net l (stand.Passed way.Up to) keeps = up_received net l to keeps
up_moved net l (stand.Passed (way.Done s) (Module m)) keeps = up_homewards net l m s
up_moved net l (stand.Passed (way.Done s) Bindings) keeps = tt
up_moved net l (stand.Passed (way.Back s) (Module m)) keeps = up_homewards net l m s
up_moved net l (stand.Passed (way.Back s) Bindings) keeps = tt

-- statuses
up_seen : (ms : Modules) (n : StatusNo) (b : ℕ) (ss : List ModuleState) → Up ms (seen_by_all n b ss)
up_seen ms n b [] = tt
up_seen ms n b (s ∷ ss) = (tt, up_seen ms n (b + 1) ss)

up_status : (net : Net) (n : StatusNo) (name : StatusName) (to : Target) → Up net.modules (status_rows net n name to)
up_status net n name (Module m) = (tt, (status_goes net.modules (position net.modules.order m), tt))
up_status net n name Bindings = up_seen net.modules n 0 net.modules.bindings

-- requests
up_giving : (net : Net) (g : Giving) → Up net.modules (giving_rows net g)
up_giving net g = (tt, given g.module_id)
  where
    given : (m : ModuleId) → Up net.modules (given_rows_by net g.request m)
    given Miniport = (tt, tt)
    given (Filter f) = (tt, tt)
    given (Binding b) = tt

up_request : (net : Net) (o : Option Giving) → Up net.modules (request_pump net o).rows
up_request net None = tt
up_request net (Some g) = up_giving net g

-- pumps
up_pump_of : (net : Net) (keeps : Bool) (o : Option Thing) → Up net.modules (pump_of net keeps o).rows
up_pump_of net keeps None = up_request net (next_giving net)
up_pump_of net keeps (Some (thing.List l)) = up_moved net l l.stand keeps
up_pump_of net keeps (Some (thing.Status s)) = up_status net s.number s.name s.to
up_pump_of net keeps (Some (thing.Answer a)) = (tt, tt)

-- drains
up_returns : (net : Net) (b : ℕ) → Up net.modules (returns_all net b)
up_returns net b =
    by_test (Up net.modules) (is_retain (kind_of_binding net.head b)) _ _ (λ _. up-map net.modules (returned_by net) (ready_lists net (Binding b)) (λ l. up_homeward net.modules l 0 Success)) (λ _. tt)

up_passes : (net : Net) (f : ℕ) → Up net.modules (passes_all net f)
up_passes net f =
    by_test (Up net.modules) (is_hold_filter net.modules f) _ _
    (λ _. up-map net.modules (passed_by net f) (ready_lists net (Filter f)) (λ l. up_onward net.modules l.list l.direction (position net.modules.order (Filter f))))
    (λ _. tt)

up_empties : (net : Net) (o : Option LiveList) → Up net.modules (empties net o)
up_empties net None = tt
up_empties net (Some l) =
    by_test (Up net.modules) (is_virtual net.head.kind) _ _
    (λ _. by_test (Up net.modules) (phase_is_running net.phase) _ _ (λ _. tt) (λ _. up_back net.modules l Miniport Paused))
    (λ _. up_transmitted net l)

up_drain_rows : (net : Net) → Up net.modules (drain_rows net)
up_drain_rows net =
    first_of_all (Up net.modules) tt (map (returns_all net) (binding_numbers net.head) ++ (map (passes_all net) net.modules.order ++ empties_ring net ∷ []))
    (All-append (Up net.modules) (map (returns_all net) (binding_numbers net.head)) _ (All-map (Up net.modules) (returns_all net) (binding_numbers net.head) (up_returns net))
    (All-append (Up net.modules) (map (passes_all net) net.modules.order) _ (All-map (Up net.modules) (passes_all net) net.modules.order (up_passes net)) (up_empties net (first_of (ready_lists net Miniport)), tt)))

up_drained : (net : Net) → Up net.modules (drained (drain_rows net)).rows
up_drained net = by (drain_rows net) (up_drain_rows net)
  where
    by : (rows : List Row) → Up net.modules rows → Up net.modules (drained rows).rows
    by [] h = tt
    by (r ∷ rows) h = h

abbrev Goes : Net → Outcome → Type 0
Goes net o = Up net.modules o.rows

-- crossings
up_take : (net : Net) (o : Option LiveList) → Goes net (take_of net o)
up_take net None = tt
up_take net (Some l) = (tt, tt)

up_done : (net : Net) (s : ListStatus) (o : Option LiveList) → Goes net (done_of net s o)
up_done net s None = tt
up_done net s (Some l) = (up_homeward net.modules l (position net.modules.order Miniport) s, tt)

up_take_up : (net : Net) (o : Option Message) → Goes net (take_up_of net o)
up_take_up net None = tt
up_take_up net (Some m) = (tt, tt)

-- each event that changes no state of a module
pub event_goes : (net : Net) (e : Event) (c : Choice) → is_plain e ≡ true → Goes net (outcome net e c)
event_goes net (event.Send binding cancel frames) c p =
    by_test (Goes net) (phase_is_running net.phase) _ _
    (λ _. by_test (Goes net) (is_full net (Binding binding)) _ _ (λ _. tt) (λ _. (tt, (tt, tt))))
    (λ _. tt)
event_goes net (event.Indicate frames) c p =
    by_test (Goes net) (is_running net.modules.miniport) _ _
    (λ _. by_test (Goes net) (is_full net Miniport) _ _ (λ _. tt) (λ _. (tt, (tt, tt))))
    (λ _. tt)
event_goes net (event.Lend frames) c p =
    by_test (Goes net) (is_running net.modules.miniport) _ _
    (λ _. by_test (Goes net) (is_full net Miniport) _ _ (λ _. tt)
    (λ _. (tt, up_lent_up net _ frames (filter (has_receive net.modules) (reverse net.modules.order)))))
    (λ _. tt)
event_goes net (event.GiveBack binding list) c p = up_give_back net binding (list_of list.0 (lists net.things))
event_goes net (event.Cancel id) c p = up_cancel net id
event_goes net (event.Ask binding kind code value) c p = by_test (Goes net) (is_unbound (state_of net (Binding binding))) _ _ (λ _. tt) (λ _. (tt, tt))
event_goes net (event.Status name) c p = by_test (Goes net) (is_halted net.modules.miniport) _ _ (λ _. tt) (λ _. (status_goes net.modules (position net.modules.order Miniport), tt))
event_goes net event.Transmit c p = up_transmit net (first_in_ring net)
event_goes net event.Pump c p = up_pump_of net c.keeps (agenda_first net)
event_goes net event.Drain c p = by_test (Goes net) (is_pump_moving net) _ _ (λ _. up_pump_of net c.keeps (agenda_first net)) (λ _. up_drained net)
event_goes net event.CrossTake c p = up_take net (first_uncrossed net)
event_goes net (event.CrossPut stack message vlan frames) c p =
    by_test (Goes net) (phase_is_running net.phase) _ _
    (λ _. by_test (Goes net) (list_any (is_too_long_tagged net.head) frames) _ _ (λ _. tt)
    (λ _. by_test (Goes net) (is_full net (Binding (mux_binding_for net.head stack))) _ _ (λ _. tt) (λ _. (tt, (tt, (tt, tt))))))
    (λ _. tt)
event_goes net (event.CrossDone message status) c p = up_done net status (find (λ l. is_in_message message.0 l.crossed) (lists net.things))
event_goes net (event.CrossTakeUp binding vlan) c p = up_take_up net (find (is_for binding vlan) net.messages)
event_goes net (event.CrossPutUp stack message frames) c p =
    by_test (Goes net) (is_running net.modules.miniport) _ _
    (λ _. by_test (Goes net) (is_full net Miniport) _ _ (λ _. tt) (λ _. (tt, (tt, (tt, tt)))))
    (λ _. tt)
event_goes net event.Initialize c p = cc
event_goes net (event.Insert kind position setup) c p = cc
event_goes net (event.Remove filter) c p = cc
event_goes net (event.Replace filter kind setup) c p = cc
event_goes net event.BeginPause c p = cc
event_goes net event.PauseNext c p = cc
event_goes net event.RestartNext c p = cc
event_goes net event.Halt c p = cc
