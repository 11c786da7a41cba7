-- No event but a cancel turns a list back as aborted.
use Rattle.std.proofs.Common.{◌≡◌, ℕ, ◌+◌, ◌&&◌, Bool, List, [], ◌∷◌, ◌++◌, Option, Some, None, All, map, filter, reverse, refl, find}
use Rattle.std.specs.List.{Contains, list_any}
use Rattle.std.proofs.lemmas.List.Elements.{All-nil, All-cons, All-contains}
use Rattle.ndis_base.specs.declared.ConfigNo.{ConfigNo}
use Rattle.ndis_base.specs.declared.Direction.{Direction}
use Rattle.ndis_base.specs.declared.Direction.TheVariants as direction
use Rattle.ndis_base.specs.declared.ListNo.{ListNo}
use Rattle.ndis_base.specs.declared.ListStatus.{ListStatus}
use Rattle.ndis_base.specs.declared.ListStatus.TheVariants.{Success, Paused, Dropped, Resources, Aborted}
use Rattle.ndis_base.specs.declared.ModuleId.{ModuleId}
use Rattle.ndis_base.specs.declared.ModuleId.TheVariants.{Miniport, Filter, Binding}
use Rattle.ndis_base.specs.declared.Origin.{Origin}
use Rattle.ndis_base.specs.declared.Origin.TheVariants as origin
use Rattle.journal_types.specs.declared.Event.{Event}
use Rattle.journal_types.specs.declared.Event.TheVariants as event
use Rattle.journal_types.specs.declared.How.{How}
use Rattle.journal_types.specs.declared.How.TheVariants as how
use Rattle.journal_types.specs.declared.PassWay.TheVariants as way
use Rattle.journal_types.specs.declared.Target.{Target}
use Rattle.journal_types.specs.declared.Target.TheVariants.{Module, Bindings}
use Rattle.journal_types.specs.declared.Row.{Row}
use Rattle.journal_types.specs.declared.Row.TheVariants as row
use Rattle.program_types.specs.Apply.{applied}
use Rattle.stack_rules.specs.declared.Attached.{Attached}
use Rattle.stack_rules.specs.declared.Choice.{Choice}
use Rattle.stack_rules.specs.declared.LiveList.{LiveList}
use Rattle.stack_rules.specs.declared.Message.{Message}
use Rattle.stack_rules.specs.declared.Stand.{Stand}
use Rattle.stack_rules.specs.declared.Stand.TheVariants as stand
use Rattle.stack_rules.specs.declared.Thing.{Thing}
use Rattle.stack_rules.specs.declared.Thing.TheVariants as thing
use Rattle.stack_rules.specs.Tests.{is_hold, is_retain, is_running, is_virtual, phase_is_running, same_frames, same_module}
use Rattle.stack_rules.specs.Heads.{binding_numbers, kind_of_binding}
use Rattle.stack_rules.specs.Net.{Net, Modules, attached, lists, list_of}
use Rattle.stack_rules.specs.Places.{position, is_full, is_kept_by, agenda_first, ready_lists}
use Rattle.stack_rules.specs.Targets.{has_receive, onward, homeward, homeward_by, turned_back}
use Rattle.stack_rules.specs.Outcome.{Outcome, max_frame, list_no, config_no}
use Rattle.stack_rules.specs.Handled.{made_of, stays, changes, handled_as, filter_rows}
use Rattle.stack_rules.specs.Sends.{ring_is_full, at_filter, down_rows, loops, looped, transmitted, transmit_of, first_of, first_in_ring}
use Rattle.stack_rules.specs.Deliveries.{takers, echoes, delivered, last_of, settled}
use Rattle.stack_rules.specs.Receives.{up_at_filter, up_rows, lent_back, lent_handled, lent_at, lent_up, give_back_of}
use Rattle.stack_rules.specs.Dones.{released_list, released, homeward_rows}
use Rattle.stack_rules.specs.Requests.{Giving, next_giving, giving_rows, ask_outcome}
use Rattle.stack_rules.specs.Pauses.{initialize_outcome, begin_outcome, pause_outcome, restart_outcome, halt_outcome}
use Rattle.stack_rules.specs.Rewires.{insert_outcome, remove_outcome, replace_outcome}
use Rattle.stack_rules.specs.Statuses.{status_outcome}
use Rattle.stack_rules.specs.Pumps.{moved_rows, request_pump, pump_of, is_pump_moving}
use Rattle.stack_rules.specs.Drains.{returned_by, returns_all, passed_by, passes_all, empties, empties_ring, first_rows, drain_rows, drained}
use Rattle.stack_rules.specs.Cancels.{is_hold_filter}
use Rattle.stack_rules.specs.Crosses.{first_uncrossed, take_of, done_of, take_up_of, is_too_long_tagged, mux_binding_for, is_in_message}
use Rattle.stack_rules.specs.Messages.{is_for}
use Rattle.stack_rules.specs.Sound.{outcome}
use Rattle.home_laws.proofs.Known.{by_test}
use Rattle.home_laws.proofs.Quiet.{IsQuiet, AreQuiet, initialize_quiet, begin_quiet, pause_quiet, restart_quiet, halt_quiet, insert_quiet, remove_quiet, replace_quiet, ask_quiet, status_quiet, status_rows_quiet, giving_quiet}

-- the row turns no list back as aborted
abbrev pub IsSpared : Row → Type 0
IsSpared (row.TurnBack list m Aborted) = ⊥
IsSpared _ = Unit {0}

abbrev pub AreSpared : List Row → Type 0
AreSpared [] = Unit {0}
AreSpared (r ∷ rows) = IsSpared r × AreSpared rows

spared-append : (xs ys : List Row) → AreSpared xs → AreSpared ys → AreSpared (xs ++ ys)
spared-append [] ys f g = g
spared-append (x ∷ xs) ys f g = (f.0, spared-append xs ys f.1 g)

quiet_is_spared : (r : Row) → IsQuiet r → IsSpared r
quiet_is_spared (row.Issue list owner config d cancel made frames) q = absurd q
quiet_is_spared (row.Give list m handler) q = tt
quiet_is_spared (row.Pass list way to) q = tt
quiet_is_spared (row.Keep list m) q = tt
quiet_is_spared (row.TurnBack list m status) q = absurd q
quiet_is_spared (row.Home list owner status) q = tt
quiet_is_spared (row.Wire list frames) q = tt
quiet_is_spared (row.Deliver list binding how frames) q = tt
quiet_is_spared (row.Phase whose) q = tt
quiet_is_spared (row.Config config filters) q = tt
quiet_is_spared (row.OidIssue request parent binding kind code value) q = tt
quiet_is_spared (row.OidGive request m) q = tt
quiet_is_spared (row.OidDone request status value) q = tt
quiet_is_spared (row.Status number name to) q = tt
quiet_is_spared (row.Seen number m) q = tt
quiet_is_spared (row.CrossOut message way frames) q = tt
quiet_is_spared (row.CrossIn stack message way frames) q = tt

quiet_are_spared : (rows : List Row) → AreQuiet rows → AreSpared rows
quiet_are_spared [] q = tt
quiet_are_spared (r ∷ rows) q = (quiet_is_spared r q.0, quiet_are_spared rows q.1)

on_spared : (ms : Modules) (n : ListNo) (d : Direction) (i : ℕ) → IsSpared (onward ms n d i)
on_spared ms n direction.Down i = tt
on_spared ms n direction.Up i = tt
on_spared ms n direction.Lent i = tt

home_spared : (ms : Modules) (n : ListNo) (owner : ModuleId) (d : Direction) (i : ℕ) (status : ListStatus) → IsSpared (homeward_by ms n owner d i status)
home_spared ms n owner direction.Down i status = tt
home_spared ms n owner direction.Up i status = tt
home_spared ms n owner direction.Lent i status = tt

clone_spared : (n : ListNo) (owner : ModuleId) (config : ConfigNo) (d : Direction) (cancel : Option ℕ) (o : ListNo) (frames : List (List ℕ)) → IsSpared (row.Issue n owner config d cancel (origin.Clone o) frames)
clone_spared n owner config direction.Down cancel o frames = tt
clone_spared n owner config direction.Up cancel o frames = tt
clone_spared n owner config direction.Lent cancel o frames = tt

-- a list goes homewards, as the last row
last_home : (ms : Modules) (l : LiveList) (i : ℕ) (status : ListStatus) → AreSpared (homeward ms l i status ∷ [])
last_home ms l i status = (home_spared ms l.list l.owner l.direction i status, tt)

back_spared : (ms : Modules) (l : LiveList) (m : ModuleId) (status : ListStatus) → IsSpared (row.TurnBack l.list m status) → AreSpared (turned_back ms l m status)
back_spared ms l m status h = (h, last_home ms l (position ms.order m) status)

module _ (net : Net) where
  stays_spared : (a : Attached) (l : LiveList) (keeps : Bool) → AreSpared (stays net a l keeps)
  stays_spared a l keeps = by_test AreSpared (keeps && is_hold a.kind) _ _ (λ _. (tt, tt)) (λ _. (on_spared net.modules l.list l.direction _, tt))

  changes_spared : (a : Attached) (l : LiveList) (frames : List (List ℕ)) → AreSpared (changes net a l frames)
  changes_spared a l frames =
      by_test AreSpared (is_full net (Filter a.filter)) _ _ (λ _. back_spared net.modules l (Filter a.filter) Resources tt)
      (λ _. (clone_spared (list_no net.next.list) (Filter a.filter) (config_no net.modules.config) l.direction l.cancel l.list frames, (tt, (on_spared net.modules (list_no net.next.list) l.direction (position net.modules.order (Filter a.filter)), tt))))

  handled_spared : (a : Attached) (l : LiveList) (keeps : Bool) (o : Option (List (List ℕ))) → AreSpared (handled_as net a l keeps o)
  handled_spared a l keeps None = back_spared net.modules l (Filter a.filter) Dropped tt
  handled_spared a l keeps (Some frames) = by_test AreSpared (same_frames frames l.frames) _ _ (λ _. stays_spared a l keeps) (λ _. changes_spared a l frames)

  filter_spared : (a : Attached) (l : LiveList) (keeps : Bool) → AreSpared (filter_rows net a l keeps)
  filter_spared a l keeps = (tt, handled_spared a l keeps (made_of net a l))

  at_spared : (o : Option Attached) (l : LiveList) (keeps : Bool) → AreSpared (at_filter net o l keeps)
  at_spared None l keeps = tt
  at_spared (Some a) l keeps = filter_spared a l keeps

  down_spared : (l : LiveList) (m : ModuleId) (keeps : Bool) → AreSpared (down_rows net l m keeps)
  down_spared l Miniport keeps = (tt, by_test AreSpared (ring_is_full net) _ _ (λ _. back_spared net.modules l Miniport Resources tt) (λ _. (tt, tt)))
  down_spared l (Filter f) keeps = at_spared (attached f net.modules.filters) l keeps
  down_spared l (Binding b) keeps = tt

  up_at_spared : (o : Option Attached) (l : LiveList) (keeps : Bool) → AreSpared (up_at_filter net o l keeps)
  up_at_spared None l keeps = tt
  up_at_spared (Some a) l keeps = by_test AreSpared (is_running a.state) _ _ (λ _. filter_spared a l keeps) (λ _. back_spared net.modules l (Filter a.filter) Paused tt)

  delivered_spared : (list : ListNo) (frames : List (List ℕ)) (own : How) (bs : List ℕ) (n : ℕ) → AreSpared (delivered net list frames own n bs)
  delivered_spared list frames own [] n = tt
  delivered_spared list frames own (b ∷ bs) n =
      (tt, by_test AreSpared (echoes net b) _ _ (λ _. (tt, (tt, delivered_spared list frames own bs (n + 1)))) (λ _. delivered_spared list frames own bs n))

  settled_spared : (l : LiveList) (keeps : Bool) (o : Option ℕ) → AreSpared (settled net l keeps o)
  settled_spared l keeps None = last_home net.modules l 0 Success
  settled_spared l keeps (Some b) = by_test AreSpared (keeps && is_retain (kind_of_binding net.head b)) _ _ (λ _. (tt, tt)) (λ _. last_home net.modules l 0 Success)

  up_spared : (l : LiveList) (to : Target) (keeps : Bool) → AreSpared (up_rows net l to keeps)
  up_spared l (Module (Filter f)) keeps = up_at_spared (attached f net.modules.filters) l keeps
  up_spared l (Module Miniport) keeps = tt
  up_spared l (Module (Binding b)) keeps = tt
  up_spared l Bindings keeps =
      by_test AreSpared (phase_is_running net.phase) _ _
      (λ _. spared-append (delivered net l.list l.frames how.Own net.next.list (takers net l.frames)) _ (delivered_spared l.list l.frames how.Own (takers net l.frames) net.next.list) (settled_spared l keeps (last_of (takers net l.frames))))
      (λ _. back_spared net.modules l (Binding 0) Paused tt)

  released_of : (m : ModuleId) (status : ListStatus) (o : Option LiveList) → AreSpared (released_list net m status o)
  released_of m status None = tt
  released_of m status (Some l) = last_home net.modules l (position net.modules.order m) status

  released_spared : (m : ModuleId) (made : Origin) (status : ListStatus) → AreSpared (released net m made status)
  released_spared m origin.Root status = tt
  released_spared m (origin.Copy o) status = tt
  released_spared m (origin.Clone o) status = released_of m status (list_of o.0 (lists net.things))

  homeward_spared : (l : LiveList) (m : ModuleId) (status : ListStatus) → AreSpared (homeward_rows net l m status)
  homeward_spared l m status =
      by_test AreSpared (same_module m l.owner) _ _ (λ _. (tt, released_spared l.owner l.origin status)) (λ _. (tt, last_home net.modules l (position net.modules.order m) status))

  moved_spared : (l : LiveList) (s : Stand) (keeps : Bool) → AreSpared (moved_rows net l s keeps)
  moved_spared l stand.Unplaced keeps = tt
  moved_spared l (stand.Kept m) keeps = tt
  moved_spared l (stand.Passed way.Down (Module m)) keeps = down_spared l m keeps
  moved_spared l (stand.Passed way.Down Bindings) keeps = tt
  moved_spared l (stand.Passed way.Up to) keeps = up_spared l to keeps
  moved_spared l (stand.Passed (way.Done status) (Module m)) keeps = homeward_spared l m status
  moved_spared l (stand.Passed (way.Done status) Bindings) keeps = tt
  moved_spared l (stand.Passed (way.Back status) (Module m)) keeps = homeward_spared l m status
  moved_spared l (stand.Passed (way.Back status) Bindings) keeps = tt

  request_spared : (o : Option Giving) → AreSpared (request_pump net o).rows
  request_spared None = tt
  request_spared (Some g) = quiet_are_spared (giving_rows net g) (giving_quiet net g)

  pump_spared : (keeps : Bool) (o : Option Thing) → AreSpared (pump_of net keeps o).rows
  pump_spared keeps None = request_spared (next_giving net)
  pump_spared keeps (Some (thing.List l)) = moved_spared l l.stand keeps
  pump_spared keeps (Some (thing.Status s)) = quiet_are_spared _ (status_rows_quiet net s.number s.name s.to)
  pump_spared keeps (Some (thing.Answer a)) = (tt, tt)

  transmitted_spared : (l : LiveList) → AreSpared (transmitted net l)
  transmitted_spared l = (tt, spared-append (looped net l) _ (by_test AreSpared (loops net) _ _ (λ _. (tt, (tt, tt))) (λ _. tt)) (last_home net.modules l _ Success))

  transmit_spared : (o : Option LiveList) → AreSpared (transmit_of net o).rows
  transmit_spared None = tt
  transmit_spared (Some l) = transmitted_spared l

  returned_spared : (ls : List LiveList) → AreSpared (map (returned_by net) ls)
  returned_spared [] = tt
  returned_spared (l ∷ ls) = (home_spared net.modules l.list l.owner l.direction 0 Success, returned_spared ls)

  passed_spared : (f : ℕ) (ls : List LiveList) → AreSpared (map (passed_by net f) ls)
  passed_spared f [] = tt
  passed_spared f (l ∷ ls) = (on_spared net.modules l.list l.direction _, passed_spared f ls)

  empties_spared : (o : Option LiveList) → AreSpared (empties net o)
  empties_spared None = tt
  empties_spared (Some l) =
      by_test AreSpared (is_virtual net.head.kind) _ _ (λ _. by_test AreSpared (phase_is_running net.phase) _ _ (λ _. tt) (λ _. back_spared net.modules l Miniport Paused tt)) (λ _. transmitted_spared l)

  abbrev EachSpared : List (List Row) → Type 0
  EachSpared [] = Unit {0}
  EachSpared (rows ∷ others) = AreSpared rows × EachSpared others

  first_spared : (all : List (List Row)) → EachSpared all → AreSpared (first_rows all)
  first_spared [] f = tt
  first_spared ([] ∷ others) f = first_spared others f.1
  first_spared ((r ∷ rows) ∷ others) f = f.0

  each-append : (all others : List (List Row)) → EachSpared all → EachSpared others → EachSpared (all ++ others)
  each-append [] others f g = g
  each-append (rows ∷ all) others f g = (f.0, each-append all others f.1 g)

  each-map : (rows : ℕ → List Row) → ((n : ℕ) → AreSpared (rows n)) → (ns : List ℕ) → EachSpared (map rows ns)
  each-map rows f [] = tt
  each-map rows f (n ∷ ns) = (f n, each-map rows f ns)

  drain_spared : AreSpared (drain_rows net)
  drain_spared =
      let returns = map (returns_all net) (binding_numbers net.head) in
      let passes = map (passes_all net) net.modules.order in
      first_spared (returns ++ (passes ++ empties_ring net ∷ []))
      (each-append returns (passes ++ empties_ring net ∷ []) (each-map (returns_all net) (λ b. by_test AreSpared (is_retain (kind_of_binding net.head b)) _ _ (λ _. returned_spared (ready_lists net (Binding b))) (λ _. tt)) (binding_numbers net.head))
      (each-append passes (empties_ring net ∷ []) (each-map (passes_all net) (λ f. by_test AreSpared (is_hold_filter net.modules f) _ _ (λ _. passed_spared f (ready_lists net (Filter f))) (λ _. tt)) net.modules.order)
      (empties_spared (first_of (ready_lists net Miniport)), tt)))

  drained_spared : (rows : List Row) → AreSpared rows → AreSpared (drained rows).rows
  drained_spared [] f = tt
  drained_spared (r ∷ rows) f = f

  give_back_spared : (b : ℕ) (o : Option LiveList) → AreSpared (give_back_of net b o).rows
  give_back_spared b None = tt
  give_back_spared b (Some l) = by_test (λ (o : Outcome). AreSpared o.rows) (is_kept_by (Binding b) l.stand) _ _ (λ _. last_home net.modules l 0 Success) (λ _. tt)

  take_spared : (o : Option LiveList) → AreSpared (take_of net o).rows
  take_spared None = tt
  take_spared (Some l) = (tt, tt)

  done_spared : (status : ListStatus) (o : Option LiveList) → AreSpared (done_of net status o).rows
  done_spared status None = tt
  done_spared status (Some l) = last_home net.modules l _ status

  take_up_spared : (o : Option Message) → AreSpared (take_up_of net o).rows
  take_up_spared None = tt
  take_up_spared (Some m) = (tt, tt)

  -- a lent list
  lent_back_spared : (n : ListNo) (m : ModuleId) (status : ListStatus) → IsSpared (row.TurnBack n m status) → AreSpared (lent_back n m status)
  lent_back_spared n m status h = (h, (tt, tt))

  lent_handled_spared : (a : Attached) (n : ListNo) (frames : List (List ℕ)) (further : List Row) (o : Option (List (List ℕ))) → AreSpared further → AreSpared (lent_handled net a n frames further o)
  lent_handled_spared a n frames further None f = lent_back_spared n (Filter a.filter) Dropped tt
  lent_handled_spared a n frames further (Some made) f =
      by_test AreSpared (same_frames made frames) _ _ (λ _. f) (λ _. by_test AreSpared (is_full net (Filter a.filter)) _ _ (λ _. lent_back_spared n (Filter a.filter) Resources tt) (λ _. (tt, (tt, (tt, tt)))))

  lent_at_spared : (o : Option Attached) (n : ListNo) (frames : List (List ℕ)) (further : List Row) → AreSpared further → AreSpared (lent_at net o n frames further)
  lent_at_spared None n frames further f = f
  lent_at_spared (Some a) n frames further f =
      by_test AreSpared (is_running a.state) _ _ (λ _. (tt, lent_handled_spared a n frames further (applied (max_frame net.head) a.setup.receive frames) f)) (λ _. lent_back_spared n (Filter a.filter) Paused tt)

  lent_up_spared : (n : ListNo) (frames : List (List ℕ)) (fs : List ℕ) → AreSpared (lent_up net n frames fs)
  lent_up_spared n frames [] =
      by_test AreSpared (phase_is_running net.phase) _ _
      (λ _. spared-append (delivered net n frames how.Lent (net.next.list + 1) (takers net frames)) _ (delivered_spared n frames how.Lent (takers net frames) (net.next.list + 1)) (tt, tt))
      (λ _. lent_back_spared n (Binding 0) Paused tt)
  lent_up_spared n frames (f ∷ fs) = lent_at_spared (attached f net.modules.filters) n frames (lent_up net n frames fs) (lent_up_spared n frames fs)

abbrev SparedOutcome : Outcome → Type 0
SparedOutcome o = AreSpared o.rows

-- the event cancels nothing
abbrev pub NoCancel : Event → Type 0
NoCancel (event.Cancel id) = ⊥
NoCancel _ = Unit {0}

pub outcome_spared : (net : Net) (e : Event) (c : Choice) → NoCancel e → AreSpared (outcome net e c).rows
outcome_spared net event.Initialize c k = quiet_are_spared (initialize_outcome net c.refuses).rows (initialize_quiet net c.refuses)
outcome_spared net (event.Insert kind place setup) c k = quiet_are_spared (insert_outcome net place c).rows (insert_quiet net place c)
outcome_spared net (event.Remove f) c k = quiet_are_spared (remove_outcome net f).rows (remove_quiet net f)
outcome_spared net (event.Replace f kind setup) c k = quiet_are_spared (replace_outcome net f c).rows (replace_quiet net f c)
outcome_spared net (event.Send binding cancel frames) c k =
    by_test SparedOutcome (phase_is_running net.phase) _ _ (λ _. by_test SparedOutcome (is_full net (Binding binding)) _ _ (λ _. tt) (λ _. (tt, (tt, tt)))) (λ _. tt)
outcome_spared net (event.Indicate frames) c k =
    by_test SparedOutcome (is_running net.modules.miniport) _ _ (λ _. by_test SparedOutcome (is_full net Miniport) _ _ (λ _. tt) (λ _. (tt, (tt, tt)))) (λ _. tt)
outcome_spared net (event.Lend frames) c k =
    by_test SparedOutcome (is_running net.modules.miniport) _ _
    (λ _. by_test SparedOutcome (is_full net Miniport) _ _ (λ _. tt) (λ _. (tt, lent_up_spared net (list_no net.next.list) frames (filter (has_receive net.modules) (reverse net.modules.order)))))
    (λ _. tt)
outcome_spared net (event.GiveBack binding list) c k = give_back_spared net binding (list_of list.0 (lists net.things))
outcome_spared net (event.Cancel id) c k = absurd k
outcome_spared net (event.Ask binding kind code value) c k = quiet_are_spared (ask_outcome net binding kind code value).rows (ask_quiet net binding kind code value)
outcome_spared net (event.Status name) c k = quiet_are_spared (status_outcome net name).rows (status_quiet net name)
outcome_spared net event.Transmit c k = transmit_spared net (first_in_ring net)
outcome_spared net event.Pump c k = pump_spared net c.keeps (agenda_first net)
outcome_spared net event.Drain c k =
    by_test SparedOutcome (is_pump_moving net) _ _ (λ _. pump_spared net c.keeps (agenda_first net)) (λ _. drained_spared net (drain_rows net) (drain_spared net))
outcome_spared net event.BeginPause c k = quiet_are_spared (begin_outcome net).rows (begin_quiet net)
outcome_spared net event.PauseNext c k = quiet_are_spared (pause_outcome net).rows (pause_quiet net)
outcome_spared net event.RestartNext c k = quiet_are_spared (restart_outcome net).rows (restart_quiet net)
outcome_spared net event.Halt c k = quiet_are_spared (halt_outcome net).rows (halt_quiet net)
outcome_spared net event.CrossTake c k = take_spared net (first_uncrossed net)
outcome_spared net (event.CrossPut stack message vlan frames) c k =
    by_test SparedOutcome (phase_is_running net.phase) _ _
    (λ _. by_test SparedOutcome (list_any (is_too_long_tagged net.head) frames) _ _ (λ _. tt)
    (λ _. by_test SparedOutcome (is_full net (Binding (mux_binding_for net.head stack))) _ _ (λ _. tt) (λ _. (tt, (tt, (tt, tt))))))
    (λ _. tt)
outcome_spared net (event.CrossDone message status) c k = done_spared net status (find (λ l. is_in_message message.0 l.crossed) (lists net.things))
outcome_spared net (event.CrossTakeUp binding vlan) c k = take_up_spared net (find (is_for binding vlan) net.messages)
outcome_spared net (event.CrossPutUp stack message frames) c k =
    by_test SparedOutcome (is_running net.modules.miniport) _ _ (λ _. by_test SparedOutcome (is_full net Miniport) _ _ (λ _. tt) (λ _. (tt, (tt, (tt, tt))))) (λ _. tt)

all_spared : (rows : List Row) → AreSpared rows → All IsSpared rows
all_spared [] f = All-nil IsSpared
all_spared (r ∷ rows) f = All-cons IsSpared r rows f.0 (all_spared rows f.1)

-- where a row turns a list back as aborted, the event is a cancel
pub abort_cancels : (net : Net) (e : Event) (c : Choice) (list : ListNo) (m : ModuleId) → Contains (outcome net e c).rows (row.TurnBack list m Aborted) → (id : ℕ) × (e ≡ event.Cancel id)
abort_cancels net (event.Cancel id) c list m here = (id, refl)
abort_cancels net e c list m here = absurd (All-contains IsSpared (outcome net e c).rows (row.TurnBack list m Aborted) (all_spared (outcome net e c).rows (outcome_spared net e c tt)) here)
