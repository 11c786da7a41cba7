-- The rows of each event but a status that is told, and but the work of one: they tell nothing of statuses.
use Rattle.std.proofs.Common.{◌≡◌, ℕ, ◌+◌, ◌&&◌, Bool, true, false, List, [], ◌∷◌, ◌++◌, Option, Some, None, map, filter, reverse, flat_map, refl, find}
use Rattle.std.specs.List.{list_any}
use Rattle.ndis_base.specs.declared.ModuleId.{ModuleId}
use Rattle.ndis_base.specs.declared.ModuleId.TheVariants.{Miniport, Filter, Binding}
use Rattle.ndis_base.specs.declared.ListNo.{ListNo}
use Rattle.ndis_base.specs.declared.ListStatus.{ListStatus}
use Rattle.ndis_base.specs.declared.ListStatus.TheVariants.{Success, Resources, Dropped, Paused}
use Rattle.ndis_base.specs.declared.Direction.{Direction}
use Rattle.ndis_base.specs.declared.Direction.TheVariants as direction
use Rattle.ndis_base.specs.declared.Origin.{Origin}
use Rattle.ndis_base.specs.declared.Origin.TheVariants as origin
use Rattle.journal_types.specs.declared.How.{How}
use Rattle.journal_types.specs.declared.How.TheVariants as how
use Rattle.journal_types.specs.declared.PassWay.TheVariants as way
use Rattle.journal_types.specs.declared.Target.{Target}
use Rattle.journal_types.specs.declared.Target.TheVariants.{Module, Bindings}
use Rattle.journal_types.specs.declared.Event.{Event}
use Rattle.journal_types.specs.declared.Event.TheVariants as event
use Rattle.journal_types.specs.declared.Row.{Row}
use Rattle.journal_types.specs.declared.Row.TheVariants as row
use Rattle.stack_rules.specs.declared.Stand.{Stand}
use Rattle.stack_rules.specs.declared.Stand.TheVariants as stand
use Rattle.stack_rules.specs.declared.LiveList.{LiveList}
use Rattle.stack_rules.specs.declared.Attached.{Attached}
use Rattle.stack_rules.specs.declared.Message.{Message}
use Rattle.stack_rules.specs.declared.Request.{Request}
use Rattle.stack_rules.specs.declared.Choice.{Choice}
use Rattle.stack_rules.specs.Tests.{phase_is_running, is_running, is_unbound, is_hold, is_virtual, is_retain, same_frames, same_module}
use Rattle.stack_rules.specs.Heads.{kind_of_binding, binding_numbers}
use Rattle.stack_rules.specs.Net.{Net, Modules, attached, list_of, lists}
use Rattle.stack_rules.specs.Places.{position, is_full, ready_lists, is_kept_by, state_of}
use Rattle.stack_rules.specs.Targets.{onward, homeward, homeward_by, turned_back, has_receive}
use Rattle.stack_rules.specs.Outcome.{Outcome}
use Rattle.stack_rules.specs.Handled.{handled_as, made_of, stays, changes, filter_rows}
use Rattle.stack_rules.specs.Sends.{ring_is_full, at_filter, down_rows, loops, looped, transmitted, transmit_of, first_of, first_in_ring}
use Rattle.stack_rules.specs.Dones.{released, released_list, homeward_rows}
use Rattle.stack_rules.specs.Deliveries.{delivered, echoes, settled, last_of, takers, delivery_rows}
use Rattle.stack_rules.specs.Receives.{up_at_filter, up_rows, give_back_of, lent_at, lent_handled, lent_up, lent_delivery}
use Rattle.stack_rules.specs.Cancels.{cancel_outcome, cancel_rows_at, cancelled_at, aborted, queues, is_hold_filter}
use Rattle.stack_rules.specs.Drains.{returned_by, returns_all, passed_by, passes_all, empties, empties_ring, drain_rows, drained}
use Rattle.stack_rules.specs.Pumps.{moved_rows, request_pump}
use Rattle.stack_rules.specs.Requests.{Giving, given_rows_by}
use Rattle.stack_rules.specs.Crosses.{first_uncrossed, take_of, done_of, take_up_of, is_too_long_tagged, mux_binding_for, is_in_message}
use Rattle.stack_rules.specs.Sound.{outcome}
use Rattle.stack_rules.specs.Messages.{is_for}
use Rattle.state_laws.proofs.Rows.{by_test}
use Rattle.state_laws.proofs.Calm.{All-append, All-map, first_of_all}
use Rattle.state_laws.proofs.Quiet.{is_plain}
use Rattle.family_laws.proofs.Changes.{Every, every-append}
use Rattle.family_laws.proofs.Configs.{changed_rows}

-- the row tells nothing of statuses
abbrev pub is_mute : Row → Bool
is_mute (row.Status number name to) = false
is_mute (row.Seen number m) = false
is_mute _ = true

abbrev pub IsMute : Row → Type 0
IsMute r = is_mute r ≡ true

abbrev pub AreMute : List Row → Type 0
AreMute rows = Every IsMute rows

mute-append : (xs ys : List Row) → AreMute xs → AreMute ys → AreMute (xs ++ ys)
mute-append xs ys h k = every-append IsMute xs ys h k

mute-map : {A : Type 0} (f : A → Row) (xs : List A) → ((x : A) → IsMute (f x)) → AreMute (map f xs)
mute-map f [] h = tt
mute-map f (x ∷ xs) h = (h x, mute-map f xs h)

mute-flat_map : {A : Type 0} (f : A → List Row) (xs : List A) → ((x : A) → AreMute (f x)) → AreMute (flat_map f xs)
mute-flat_map f [] h = tt
mute-flat_map f (x ∷ xs) h = mute-append (f x) (flat_map f xs) (h x) (mute-flat_map f xs h)

-- onwards and homewards
mute_onward : (ms : Modules) (list : ListNo) (w : Direction) (i : ℕ) → IsMute (onward ms list w i)
mute_onward ms list direction.Down i = refl
mute_onward ms list direction.Up i = refl
mute_onward ms list direction.Lent i = refl

mute_by : (ms : Modules) (list : ListNo) (owner : ModuleId) (w : Direction) (i : ℕ) (s : ListStatus) → IsMute (homeward_by ms list owner w i s)
mute_by ms list owner direction.Down i s = refl
mute_by ms list owner direction.Up i s = refl
mute_by ms list owner direction.Lent i s = refl

mute_homeward : (ms : Modules) (l : LiveList) (i : ℕ) (s : ListStatus) → IsMute (homeward ms l i s)
mute_homeward ms l i s = mute_by ms l.list l.owner l.direction i s

mute_back : (ms : Modules) (l : LiveList) (m : ModuleId) (s : ListStatus) → AreMute (turned_back ms l m s)
mute_back ms l m s = (refl, (mute_homeward ms l (position ms.order m) s, tt))

-- at a filter
mute_stays : (net : Net) (a : Attached) (l : LiveList) (keeps : Bool) → AreMute (stays net a l keeps)
mute_stays net a l keeps = by_test AreMute (keeps && is_hold a.kind) _ _ (λ _. (refl, tt)) (λ _. (mute_onward net.modules l.list l.direction (position net.modules.order (Filter a.filter)), tt))

mute_changes : (net : Net) (a : Attached) (l : LiveList) (frames : List (List ℕ)) → AreMute (changes net a l frames)
mute_changes net a l frames =
    by_test AreMute (is_full net (Filter a.filter)) _ _
    (λ _. mute_back net.modules l (Filter a.filter) Resources)
    (λ _. (refl, (refl, (mute_onward net.modules (record { 0 = net.next.list }) l.direction (position net.modules.order (Filter a.filter)), tt))))

mute_handled : (net : Net) (a : Attached) (l : LiveList) (keeps : Bool) (made : Option (List (List ℕ))) → AreMute (handled_as net a l keeps made)
mute_handled net a l keeps None = mute_back net.modules l (Filter a.filter) Dropped
mute_handled net a l keeps (Some frames) =
    by_test AreMute (same_frames frames l.frames) _ _ (λ _. mute_stays net a l keeps) (λ _. mute_changes net a l frames)

mute_filter : (net : Net) (a : Attached) (l : LiveList) (keeps : Bool) → AreMute (filter_rows net a l keeps)
mute_filter net a l keeps = (refl, mute_handled net a l keeps (made_of net a l))

-- sends
mute_at : (net : Net) (o : Option Attached) (l : LiveList) (keeps : Bool) → AreMute (at_filter net o l keeps)
mute_at net None l keeps = tt
mute_at net (Some a) l keeps = mute_filter net a l keeps

mute_down : (net : Net) (l : LiveList) (m : ModuleId) (keeps : Bool) → AreMute (down_rows net l m keeps)
mute_down net l Miniport keeps =
    (refl, by_test AreMute (ring_is_full net) _ _ (λ _. mute_back net.modules l Miniport Resources) (λ _. (refl, tt)))
mute_down net l (Filter f) keeps = mute_at net (attached f net.modules.filters) l keeps
mute_down net l (Binding b) keeps = tt

mute_looped : (net : Net) (l : LiveList) → AreMute (looped net l)
mute_looped net l = by_test AreMute (loops net) _ _ (λ _. (refl, (refl, tt))) (λ _. tt)

mute_transmitted : (net : Net) (l : LiveList) → AreMute (transmitted net l)
mute_transmitted net l =
    (refl, mute-append (looped net l) _ (mute_looped net l) (mute_homeward net.modules l (position net.modules.order Miniport) Success, tt))

mute_transmit : (net : Net) (o : Option LiveList) → AreMute (transmit_of net o).rows
mute_transmit net None = tt
mute_transmit net (Some l) = mute_transmitted net l

-- lists on their way home
mute_released : (net : Net) (m : ModuleId) (s : ListStatus) (o : Option LiveList) → AreMute (released_list net m s o)
mute_released net m s None = tt
mute_released net m s (Some l) = (mute_homeward net.modules l (position net.modules.order m) s, tt)

mute_release : (net : Net) (m : ModuleId) (o : Origin) (s : ListStatus) → AreMute (released net m o s)
mute_release net m origin.Root s = tt
mute_release net m (origin.Clone o) s = mute_released net m s (list_of o.0 (lists net.things))
mute_release net m (origin.Copy o) s = tt

mute_homewards : (net : Net) (l : LiveList) (m : ModuleId) (s : ListStatus) → AreMute (homeward_rows net l m s)
mute_homewards net l m s =
    by_test AreMute (same_module m l.owner) _ _
    (λ _. (refl, mute_release net l.owner l.origin s))
    (λ _. (refl, (mute_homeward net.modules l (position net.modules.order m) s, tt)))

-- receives
mute_delivered : (net : Net) (list : ListNo) (frames : List (List ℕ)) (own : How) (n : ℕ) (bs : List ℕ) → AreMute (delivered net list frames own n bs)
mute_delivered net list frames own n [] = tt
mute_delivered net list frames own n (b ∷ bs) =
    (refl, by_test AreMute (echoes net b) _ _ (λ _. (refl, (refl, mute_delivered net list frames own (n + 1) bs))) (λ _. mute_delivered net list frames own n bs))

mute_settled : (net : Net) (l : LiveList) (keeps : Bool) (o : Option ℕ) → AreMute (settled net l keeps o)
mute_settled net l keeps None = (mute_homeward net.modules l 0 Success, tt)
mute_settled net l keeps (Some b) =
    by_test AreMute (keeps && is_retain (kind_of_binding net.head b)) _ _ (λ _. (refl, tt)) (λ _. (mute_homeward net.modules l 0 Success, tt))

mute_delivery : (net : Net) (l : LiveList) (keeps : Bool) → AreMute (delivery_rows net l keeps)
mute_delivery net l keeps =
    mute-append (delivered net l.list l.frames how.Own net.next.list (takers net l.frames)) _
    (mute_delivered net l.list l.frames how.Own net.next.list (takers net l.frames)) (mute_settled net l keeps (last_of (takers net l.frames)))

mute_up_at : (net : Net) (o : Option Attached) (l : LiveList) (keeps : Bool) → AreMute (up_at_filter net o l keeps)
mute_up_at net None l keeps = tt
mute_up_at net (Some a) l keeps =
    by_test AreMute (is_running a.state) _ _ (λ _. mute_filter net a l keeps) (λ _. mute_back net.modules l (Filter a.filter) Paused)

mute_up : (net : Net) (l : LiveList) (to : Target) (keeps : Bool) → AreMute (up_rows net l to keeps)
mute_up net l (Module (Filter f)) keeps = mute_up_at net (attached f net.modules.filters) l keeps
mute_up net l Bindings keeps =
    by_test AreMute (phase_is_running net.phase) _ _ (λ _. mute_delivery net l keeps) (λ _. mute_back net.modules l (Binding 0) Paused)
mute_up net l (Module Miniport) keeps = tt
mute_up net l (Module (Binding b)) keeps = tt

-- lent lists
mute_lent_handled : (net : Net) (a : Attached) (list : ListNo) (frames : List (List ℕ)) (further : List Row) (o : Option (List (List ℕ))) → AreMute further → AreMute (lent_handled net a list frames further o)
mute_lent_handled net a list frames further None h = (refl, (refl, tt))
mute_lent_handled net a list frames further (Some made) h =
    by_test AreMute (same_frames made frames) _ _ (λ _. h)
    (λ _. by_test AreMute (is_full net (Filter a.filter)) _ _ (λ _. (refl, (refl, tt)))
    (λ _. (refl, (refl, (refl, tt)))))

mute_lent_at : (net : Net) (o : Option Attached) (list : ListNo) (frames : List (List ℕ)) (further : List Row) → AreMute further → AreMute (lent_at net o list frames further)
mute_lent_at net None list frames further h = h
mute_lent_at net (Some a) list frames further h =
    by_test AreMute (is_running a.state) _ _ (λ _. (refl, mute_lent_handled net a list frames further _ h)) (λ _. (refl, (refl, tt)))

mute_lent_delivery : (net : Net) (list : ListNo) (frames : List (List ℕ)) → AreMute (lent_delivery net list frames)
mute_lent_delivery net list frames =
    by_test AreMute (phase_is_running net.phase) _ _
    (λ _. mute-append (delivered net list frames how.Lent (net.next.list + 1) (takers net frames)) _ (mute_delivered net list frames how.Lent (net.next.list + 1) (takers net frames)) (refl, tt))
    (λ _. (refl, (refl, tt)))

mute_lent_up : (net : Net) (list : ListNo) (frames : List (List ℕ)) (fs : List ℕ) → AreMute (lent_up net list frames fs)
mute_lent_up net list frames [] = mute_lent_delivery net list frames
mute_lent_up net list frames (f ∷ fs) = mute_lent_at net (attached f net.modules.filters) list frames (lent_up net list frames fs) (mute_lent_up net list frames fs)

-- a binding's list that it gives back
mute_give_back : (net : Net) (b : ℕ) (o : Option LiveList) → AreMute (give_back_of net b o).rows
mute_give_back net b None = tt
mute_give_back net b (Some l) =
    by_test (λ (o : Outcome). AreMute o.rows) (is_kept_by (Binding b) l.stand) _ _ (λ _. (mute_homeward net.modules l 0 Success, tt)) (λ _. tt)

-- a cancel
mute_cancel : (net : Net) (id : ℕ) → AreMute (cancel_outcome net id).rows
mute_cancel net id =
    mute-flat_map (cancel_rows_at net id) (queues net.modules)
    (λ m. mute-flat_map (aborted net m) (cancelled_at net id m) (λ l. mute_back net.modules l m _))

-- pumps
pub mute_moved : (net : Net) (l : LiveList) (s : Stand) (keeps : Bool) → AreMute (moved_rows net l s keeps)
mute_moved net l stand.Unplaced keeps = tt
mute_moved net l (stand.Kept m) keeps = tt
mute_moved net l (stand.Passed way.Down (Module m)) keeps = mute_down net l m keeps
mute_moved net l (stand.Passed way.Down Bindings) keeps = tt
mute_moved net l (stand.Passed way.Up to) keeps = mute_up net l to keeps
mute_moved net l (stand.Passed (way.Done s) (Module m)) keeps = mute_homewards net l m s
mute_moved net l (stand.Passed (way.Done s) Bindings) keeps = tt
mute_moved net l (stand.Passed (way.Back s) (Module m)) keeps = mute_homewards net l m s
mute_moved net l (stand.Passed (way.Back s) Bindings) keeps = tt

-- a request that is given
mute_given : (net : Net) (r : Request) (m : ModuleId) → AreMute (given_rows_by net r m)
mute_given net r Miniport = (refl, tt)
mute_given net r (Filter f) = (refl, tt)
mute_given net r (Binding b) = tt

pub mute_request : (net : Net) (o : Option Giving) → AreMute (request_pump net o).rows
mute_request net None = tt
mute_request net (Some g) = (refl, mute_given net g.request g.module_id)

-- drains
mute_returns : (net : Net) (b : ℕ) → AreMute (returns_all net b)
mute_returns net b =
    by_test AreMute (is_retain (kind_of_binding net.head b)) _ _ (λ _. mute-map (returned_by net) (ready_lists net (Binding b)) (λ l. mute_homeward net.modules l 0 Success)) (λ _. tt)

mute_passes : (net : Net) (f : ℕ) → AreMute (passes_all net f)
mute_passes net f =
    by_test AreMute (is_hold_filter net.modules f) _ _
    (λ _. mute-map (passed_by net f) (ready_lists net (Filter f)) (λ l. mute_onward net.modules l.list l.direction (position net.modules.order (Filter f))))
    (λ _. tt)

mute_empties : (net : Net) (o : Option LiveList) → AreMute (empties net o)
mute_empties net None = tt
mute_empties net (Some l) =
    by_test AreMute (is_virtual net.head.kind) _ _
    (λ _. by_test AreMute (phase_is_running net.phase) _ _ (λ _. tt) (λ _. mute_back net.modules l Miniport Paused))
    (λ _. mute_transmitted net l)

mute_drain_rows : (net : Net) → AreMute (drain_rows net)
mute_drain_rows net =
    first_of_all AreMute tt (map (returns_all net) (binding_numbers net.head) ++ (map (passes_all net) net.modules.order ++ empties_ring net ∷ []))
    (All-append AreMute (map (returns_all net) (binding_numbers net.head)) _ (All-map AreMute (returns_all net) (binding_numbers net.head) (mute_returns net))
    (All-append AreMute (map (passes_all net) net.modules.order) _ (All-map AreMute (passes_all net) net.modules.order (mute_passes net)) (mute_empties net (first_of (ready_lists net Miniport)), tt)))

pub mute_drained : (net : Net) → AreMute (drained (drain_rows net)).rows
mute_drained net = by (drain_rows net) (mute_drain_rows net)
  where
    by : (rows : List Row) → AreMute rows → AreMute (drained rows).rows
    by [] h = tt
    by (r ∷ rows) h = h

abbrev Mute : Outcome → Type 0
Mute o = AreMute o.rows

-- crossings
mute_take : (net : Net) (o : Option LiveList) → Mute (take_of net o)
mute_take net None = tt
mute_take net (Some l) = (refl, tt)

mute_done : (net : Net) (s : ListStatus) (o : Option LiveList) → Mute (done_of net s o)
mute_done net s None = tt
mute_done net s (Some l) = (mute_homeward net.modules l (position net.modules.order Miniport) s, tt)

mute_take_up : (net : Net) (o : Option Message) → Mute (take_up_of net o)
mute_take_up net None = tt
mute_take_up net (Some m) = (refl, tt)

-- the events that initialise, pause, restart, halt or rewire the stack tell states and configurations
mute_change : (net : Net) (e : Event) (c : Choice) → is_plain e ≡ false → Mute (outcome net e c)
mute_change net e c p = changed_rows IsMute (record { states = λ s m h. refl; stack = λ p. refl }) (λ config filters. refl) (λ f s. refl) net e c p

-- the event tells no status, and works none
abbrev pub is_mute_event : Event → Bool
is_mute_event (event.Status name) = false
is_mute_event event.Pump = false
is_mute_event event.Drain = false
is_mute_event _ = true

pub mute_event : (net : Net) (e : Event) (c : Choice) → is_mute_event e ≡ true → Mute (outcome net e c)
mute_event net (event.Send binding cancel frames) c p =
    by_test Mute (phase_is_running net.phase) _ _
    (λ _. by_test Mute (is_full net (Binding binding)) _ _ (λ _. tt) (λ _. (refl, (refl, tt))))
    (λ _. tt)
mute_event net (event.Indicate frames) c p =
    by_test Mute (is_running net.modules.miniport) _ _
    (λ _. by_test Mute (is_full net Miniport) _ _ (λ _. tt) (λ _. (refl, (refl, tt))))
    (λ _. tt)
mute_event net (event.Lend frames) c p =
    by_test Mute (is_running net.modules.miniport) _ _
    (λ _. by_test Mute (is_full net Miniport) _ _ (λ _. tt)
    (λ _. (refl, mute_lent_up net _ frames (filter (has_receive net.modules) (reverse net.modules.order)))))
    (λ _. tt)
mute_event net (event.GiveBack binding list) c p = mute_give_back net binding (list_of list.0 (lists net.things))
mute_event net (event.Cancel id) c p = mute_cancel net id
mute_event net (event.Ask binding kind code value) c p =
    by_test Mute (is_unbound (state_of net (Binding binding))) _ _ (λ _. tt) (λ _. (refl, tt))
mute_event net (event.Status name) c p = cc
mute_event net event.Transmit c p = mute_transmit net (first_in_ring net)
mute_event net event.Pump c p = cc
mute_event net event.Drain c p = cc
mute_event net event.CrossTake c p = mute_take net (first_uncrossed net)
mute_event net (event.CrossPut stack message vlan frames) c p =
    by_test Mute (phase_is_running net.phase) _ _
    (λ _. by_test Mute (list_any (is_too_long_tagged net.head) frames) _ _ (λ _. tt)
    (λ _. by_test Mute (is_full net (Binding (mux_binding_for net.head stack))) _ _ (λ _. tt) (λ _. (refl, (refl, (refl, tt))))))
    (λ _. tt)
mute_event net (event.CrossDone message status) c p = mute_done net status (find (λ l. is_in_message message.0 l.crossed) (lists net.things))
mute_event net (event.CrossTakeUp binding vlan) c p = mute_take_up net (find (is_for binding vlan) net.messages)
mute_event net (event.CrossPutUp stack message frames) c p =
    by_test Mute (is_running net.modules.miniport) _ _
    (λ _. by_test Mute (is_full net Miniport) _ _ (λ _. tt) (λ _. (refl, (refl, (refl, tt)))))
    (λ _. tt)
mute_event net e c p = mute_change net e c refl
