-- Which rows an event writes: none issues a lent root, but those of a lend, which bring it home.
use Rattle.std.proofs.Common.{◌≡◌, ℕ, ◌+◌, ◌&&◌, Bool, List, [], ◌∷◌, ◌++◌, Option, Some, None, All, map, filter, reverse, refl, sym, subst, find, ◌⊎◌, inl, inr}
use Rattle.std.specs.List.{flat_map, Contains, list_any}
use Rattle.std.proofs.lemmas.List.Elements.{All-nil, All-cons, All-contains, Contains-append_left, Contains-append_right, Contains-append_cases, Contains-push}
use Rattle.ndis_base.specs.declared.ConfigNo.{ConfigNo}
use Rattle.ndis_base.specs.declared.Direction.{Direction}
use Rattle.ndis_base.specs.declared.Direction.TheVariants as direction
use Rattle.ndis_base.specs.declared.ListNo.{ListNo}
use Rattle.ndis_base.specs.declared.ListStatus.{ListStatus}
use Rattle.ndis_base.specs.declared.ListStatus.TheVariants.{Success, Paused, Dropped, Resources, Aborted}
use Rattle.ndis_base.specs.declared.ModuleId.{ModuleId}
use Rattle.ndis_base.specs.declared.ModuleId.TheVariants.{Miniport, Filter, Binding}
use Rattle.ndis_base.specs.declared.Origin.{Origin}
use Rattle.ndis_base.specs.declared.Origin.TheVariants as origin
use Rattle.journal_types.specs.declared.Event.{Event}
use Rattle.journal_types.specs.declared.Event.TheVariants as event
use Rattle.journal_types.specs.declared.How.{How}
use Rattle.journal_types.specs.declared.How.TheVariants as how
use Rattle.journal_types.specs.declared.PassWay.TheVariants as way
use Rattle.journal_types.specs.declared.Target.{Target}
use Rattle.journal_types.specs.declared.Target.TheVariants.{Module, Bindings}
use Rattle.journal_types.specs.declared.Row.{Row}
use Rattle.journal_types.specs.declared.Row.TheVariants as row
use Rattle.program_types.specs.Apply.{applied}
use Rattle.stack_rules.specs.declared.Attached.{Attached}
use Rattle.stack_rules.specs.declared.Choice.{Choice}
use Rattle.stack_rules.specs.declared.LiveList.{LiveList}
use Rattle.stack_rules.specs.declared.Message.{Message}
use Rattle.stack_rules.specs.declared.Stand.{Stand}
use Rattle.stack_rules.specs.declared.Stand.TheVariants as stand
use Rattle.stack_rules.specs.declared.Thing.{Thing}
use Rattle.stack_rules.specs.declared.Thing.TheVariants as thing
use Rattle.stack_rules.specs.Tests.{is_hold, is_retain, is_running, is_virtual, phase_is_running, same_frames, same_module}
use Rattle.stack_rules.specs.Heads.{binding_numbers, kind_of_binding}
use Rattle.stack_rules.specs.Net.{Net, Modules, attached, lists, list_of}
use Rattle.stack_rules.specs.Places.{position, is_full, is_kept_by, agenda_first, ready_lists}
use Rattle.stack_rules.specs.Targets.{has_receive, onward, homeward, homeward_by, turned_back}
use Rattle.stack_rules.specs.Outcome.{Outcome, max_frame, list_no, config_no}
use Rattle.stack_rules.specs.Handled.{made_of, stays, changes, handled_as, filter_rows}
use Rattle.stack_rules.specs.Sends.{ring_is_full, at_filter, down_rows, loops, looped, transmitted, transmit_of, first_of, first_in_ring}
use Rattle.stack_rules.specs.Deliveries.{takers, echoes, delivered, last_of, settled}
use Rattle.stack_rules.specs.Receives.{up_at_filter, up_rows, lent_home, lent_back, copied, lent_handled, lent_at, lent_up, lent_rows, give_back_of}
use Rattle.stack_rules.specs.Dones.{released_list, released, homeward_rows}
use Rattle.stack_rules.specs.Requests.{Giving, next_giving, giving_rows, ask_outcome}
use Rattle.stack_rules.specs.Pauses.{initialize_outcome, begin_outcome, pause_outcome, restart_outcome, halt_outcome}
use Rattle.stack_rules.specs.Rewires.{insert_outcome, remove_outcome, replace_outcome}
use Rattle.stack_rules.specs.Statuses.{status_outcome}
use Rattle.stack_rules.specs.Pumps.{moved_rows, request_pump, pump_of, is_pump_moving}
use Rattle.stack_rules.specs.Drains.{returned_by, returns_all, passed_by, passes_all, empties, empties_ring, first_rows, drain_rows, drained}
use Rattle.stack_rules.specs.Cancels.{is_hold_filter, cancelled_at, aborted, cancel_rows_at, queues}
use Rattle.stack_rules.specs.Crosses.{first_uncrossed, take_of, done_of, take_up_of, is_too_long_tagged, mux_binding_for, is_in_message}
use Rattle.stack_rules.specs.Messages.{is_for}
use Rattle.stack_rules.specs.Sound.{outcome}
use Rattle.home_laws.specs.Rows.{IsHome}
use Rattle.home_laws.proofs.Known.{by_test}
use Rattle.home_laws.proofs.Quiet.{IsQuiet, AreQuiet, initialize_quiet, begin_quiet, pause_quiet, restart_quiet, halt_quiet, insert_quiet, remove_quiet, replace_quiet, ask_quiet, status_quiet, status_rows_quiet, giving_quiet}

-- the row issues no lent root
abbrev pub IsFair : Row → Type 0
IsFair (row.Issue list owner config direction.Lent cancel origin.Root frames) = ⊥
IsFair _ = Unit {0}

abbrev pub AreFair : List Row → Type 0
AreFair [] = Unit {0}
AreFair (r ∷ rows) = IsFair r × AreFair rows

fair-append : (xs ys : List Row) → AreFair xs → AreFair ys → AreFair (xs ++ ys)
fair-append [] ys f g = g
fair-append (x ∷ xs) ys f g = (f.0, fair-append xs ys f.1 g)

quiet_is_fair : (r : Row) → IsQuiet r → IsFair r
quiet_is_fair (row.Issue list owner config d cancel made frames) q = absurd q
quiet_is_fair (row.Give list m handler) q = tt
quiet_is_fair (row.Pass list way to) q = tt
quiet_is_fair (row.Keep list m) q = tt
quiet_is_fair (row.TurnBack list m status) q = tt
quiet_is_fair (row.Home list owner status) q = tt
quiet_is_fair (row.Wire list frames) q = tt
quiet_is_fair (row.Deliver list binding how frames) q = tt
quiet_is_fair (row.Phase whose) q = tt
quiet_is_fair (row.Config config filters) q = tt
quiet_is_fair (row.OidIssue request parent binding kind code value) q = tt
quiet_is_fair (row.OidGive request m) q = tt
quiet_is_fair (row.OidDone request status value) q = tt
quiet_is_fair (row.Status number name to) q = tt
quiet_is_fair (row.Seen number m) q = tt
quiet_is_fair (row.CrossOut message way frames) q = tt
quiet_is_fair (row.CrossIn stack message way frames) q = tt

quiet_are_fair : (rows : List Row) → AreQuiet rows → AreFair rows
quiet_are_fair [] q = tt
quiet_are_fair (r ∷ rows) q = (quiet_is_fair r q.0, quiet_are_fair rows q.1)

on_fair : (ms : Modules) (n : ListNo) (d : Direction) (i : ℕ) → IsFair (onward ms n d i)
on_fair ms n direction.Down i = tt
on_fair ms n direction.Up i = tt
on_fair ms n direction.Lent i = tt

home_fair : (ms : Modules) (n : ListNo) (owner : ModuleId) (d : Direction) (i : ℕ) (status : ListStatus) → IsFair (homeward_by ms n owner d i status)
home_fair ms n owner direction.Down i status = tt
home_fair ms n owner direction.Up i status = tt
home_fair ms n owner direction.Lent i status = tt

clone_fair : (n : ListNo) (owner : ModuleId) (config : ConfigNo) (d : Direction) (cancel : Option ℕ) (o : ListNo) (frames : List (List ℕ)) → IsFair (row.Issue n owner config d cancel (origin.Clone o) frames)
clone_fair n owner config direction.Down cancel o frames = tt
clone_fair n owner config direction.Up cancel o frames = tt
clone_fair n owner config direction.Lent cancel o frames = tt

-- a list goes homewards, as the last row
last_home : (ms : Modules) (l : LiveList) (i : ℕ) (status : ListStatus) → AreFair (homeward ms l i status ∷ [])
last_home ms l i status = (home_fair ms l.list l.owner l.direction i status, tt)

back_fair : (ms : Modules) (l : LiveList) (m : ModuleId) (status : ListStatus) → AreFair (turned_back ms l m status)
back_fair ms l m status = (tt, last_home ms l (position ms.order m) status)

module _ (net : Net) where
  stays_fair : (a : Attached) (l : LiveList) (keeps : Bool) → AreFair (stays net a l keeps)
  stays_fair a l keeps = by_test AreFair (keeps && is_hold a.kind) _ _ (λ _. (tt, tt)) (λ _. (on_fair net.modules l.list l.direction _, tt))

  changes_fair : (a : Attached) (l : LiveList) (frames : List (List ℕ)) → AreFair (changes net a l frames)
  changes_fair a l frames =
      by_test AreFair (is_full net (Filter a.filter)) _ _ (λ _. back_fair net.modules l (Filter a.filter) Resources)
      (λ _. (clone_fair (list_no net.next.list) (Filter a.filter) (config_no net.modules.config) l.direction l.cancel l.list frames, (tt, (on_fair net.modules (list_no net.next.list) l.direction (position net.modules.order (Filter a.filter)), tt))))

  handled_fair : (a : Attached) (l : LiveList) (keeps : Bool) (o : Option (List (List ℕ))) → AreFair (handled_as net a l keeps o)
  handled_fair a l keeps None = back_fair net.modules l (Filter a.filter) Dropped
  handled_fair a l keeps (Some frames) = by_test AreFair (same_frames frames l.frames) _ _ (λ _. stays_fair a l keeps) (λ _. changes_fair a l frames)

  filter_fair : (a : Attached) (l : LiveList) (keeps : Bool) → AreFair (filter_rows net a l keeps)
  filter_fair a l keeps = (tt, handled_fair a l keeps (made_of net a l))

  at_fair : (o : Option Attached) (l : LiveList) (keeps : Bool) → AreFair (at_filter net o l keeps)
  at_fair None l keeps = tt
  at_fair (Some a) l keeps = filter_fair a l keeps

  down_fair : (l : LiveList) (m : ModuleId) (keeps : Bool) → AreFair (down_rows net l m keeps)
  down_fair l Miniport keeps = (tt, by_test AreFair (ring_is_full net) _ _ (λ _. back_fair net.modules l Miniport Resources) (λ _. (tt, tt)))
  down_fair l (Filter f) keeps = at_fair (attached f net.modules.filters) l keeps
  down_fair l (Binding b) keeps = tt

  up_at_fair : (o : Option Attached) (l : LiveList) (keeps : Bool) → AreFair (up_at_filter net o l keeps)
  up_at_fair None l keeps = tt
  up_at_fair (Some a) l keeps = by_test AreFair (is_running a.state) _ _ (λ _. filter_fair a l keeps) (λ _. back_fair net.modules l (Filter a.filter) Paused)

  delivered_fair : (list : ListNo) (frames : List (List ℕ)) (own : How) (bs : List ℕ) (n : ℕ) → AreFair (delivered net list frames own n bs)
  delivered_fair list frames own [] n = tt
  delivered_fair list frames own (b ∷ bs) n =
      (tt, by_test AreFair (echoes net b) _ _ (λ _. (tt, (tt, delivered_fair list frames own bs (n + 1)))) (λ _. delivered_fair list frames own bs n))

  settled_fair : (l : LiveList) (keeps : Bool) (o : Option ℕ) → AreFair (settled net l keeps o)
  settled_fair l keeps None = last_home net.modules l 0 Success
  settled_fair l keeps (Some b) = by_test AreFair (keeps && is_retain (kind_of_binding net.head b)) _ _ (λ _. (tt, tt)) (λ _. last_home net.modules l 0 Success)

  up_fair : (l : LiveList) (to : Target) (keeps : Bool) → AreFair (up_rows net l to keeps)
  up_fair l (Module (Filter f)) keeps = up_at_fair (attached f net.modules.filters) l keeps
  up_fair l (Module Miniport) keeps = tt
  up_fair l (Module (Binding b)) keeps = tt
  up_fair l Bindings keeps =
      by_test AreFair (phase_is_running net.phase) _ _
      (λ _. fair-append (delivered net l.list l.frames how.Own net.next.list (takers net l.frames)) _ (delivered_fair l.list l.frames how.Own (takers net l.frames) net.next.list) (settled_fair l keeps (last_of (takers net l.frames))))
      (λ _. back_fair net.modules l (Binding 0) Paused)

  released_of : (m : ModuleId) (status : ListStatus) (o : Option LiveList) → AreFair (released_list net m status o)
  released_of m status None = tt
  released_of m status (Some l) = last_home net.modules l (position net.modules.order m) status

  released_fair : (m : ModuleId) (made : Origin) (status : ListStatus) → AreFair (released net m made status)
  released_fair m origin.Root status = tt
  released_fair m (origin.Copy o) status = tt
  released_fair m (origin.Clone o) status = released_of m status (list_of o.0 (lists net.things))

  homeward_fair : (l : LiveList) (m : ModuleId) (status : ListStatus) → AreFair (homeward_rows net l m status)
  homeward_fair l m status =
      by_test AreFair (same_module m l.owner) _ _ (λ _. (tt, released_fair l.owner l.origin status)) (λ _. (tt, last_home net.modules l (position net.modules.order m) status))

  moved_fair : (l : LiveList) (s : Stand) (keeps : Bool) → AreFair (moved_rows net l s keeps)
  moved_fair l stand.Unplaced keeps = tt
  moved_fair l (stand.Kept m) keeps = tt
  moved_fair l (stand.Passed way.Down (Module m)) keeps = down_fair l m keeps
  moved_fair l (stand.Passed way.Down Bindings) keeps = tt
  moved_fair l (stand.Passed way.Up to) keeps = up_fair l to keeps
  moved_fair l (stand.Passed (way.Done status) (Module m)) keeps = homeward_fair l m status
  moved_fair l (stand.Passed (way.Done status) Bindings) keeps = tt
  moved_fair l (stand.Passed (way.Back status) (Module m)) keeps = homeward_fair l m status
  moved_fair l (stand.Passed (way.Back status) Bindings) keeps = tt

  request_fair : (o : Option Giving) → AreFair (request_pump net o).rows
  request_fair None = tt
  request_fair (Some g) = quiet_are_fair (giving_rows net g) (giving_quiet net g)

  pump_fair : (keeps : Bool) (o : Option Thing) → AreFair (pump_of net keeps o).rows
  pump_fair keeps None = request_fair (next_giving net)
  pump_fair keeps (Some (thing.List l)) = moved_fair l l.stand keeps
  pump_fair keeps (Some (thing.Status s)) = quiet_are_fair _ (status_rows_quiet net s.number s.name s.to)
  pump_fair keeps (Some (thing.Answer a)) = (tt, tt)

  transmitted_fair : (l : LiveList) → AreFair (transmitted net l)
  transmitted_fair l = (tt, fair-append (looped net l) _ (by_test AreFair (loops net) _ _ (λ _. (tt, (tt, tt))) (λ _. tt)) (last_home net.modules l _ Success))

  transmit_fair : (o : Option LiveList) → AreFair (transmit_of net o).rows
  transmit_fair None = tt
  transmit_fair (Some l) = transmitted_fair l

  returned_fair : (ls : List LiveList) → AreFair (map (returned_by net) ls)
  returned_fair [] = tt
  returned_fair (l ∷ ls) = (home_fair net.modules l.list l.owner l.direction 0 Success, returned_fair ls)

  passed_fair : (f : ℕ) (ls : List LiveList) → AreFair (map (passed_by net f) ls)
  passed_fair f [] = tt
  passed_fair f (l ∷ ls) = (on_fair net.modules l.list l.direction _, passed_fair f ls)

  empties_fair : (o : Option LiveList) → AreFair (empties net o)
  empties_fair None = tt
  empties_fair (Some l) =
      by_test AreFair (is_virtual net.head.kind) _ _ (λ _. by_test AreFair (phase_is_running net.phase) _ _ (λ _. tt) (λ _. back_fair net.modules l Miniport Paused)) (λ _. transmitted_fair l)

  abbrev EachFair : List (List Row) → Type 0
  EachFair [] = Unit {0}
  EachFair (rows ∷ others) = AreFair rows × EachFair others

  first_fair : (all : List (List Row)) → EachFair all → AreFair (first_rows all)
  first_fair [] f = tt
  first_fair ([] ∷ others) f = first_fair others f.1
  first_fair ((r ∷ rows) ∷ others) f = f.0

  each-append : (all others : List (List Row)) → EachFair all → EachFair others → EachFair (all ++ others)
  each-append [] others f g = g
  each-append (rows ∷ all) others f g = (f.0, each-append all others f.1 g)

  each-map : (rows : ℕ → List Row) → ((n : ℕ) → AreFair (rows n)) → (ns : List ℕ) → EachFair (map rows ns)
  each-map rows f [] = tt
  each-map rows f (n ∷ ns) = (f n, each-map rows f ns)

  drain_fair : AreFair (drain_rows net)
  drain_fair =
      let returns = map (returns_all net) (binding_numbers net.head) in
      let passes = map (passes_all net) net.modules.order in
      first_fair (returns ++ (passes ++ empties_ring net ∷ []))
      (each-append returns (passes ++ empties_ring net ∷ []) (each-map (returns_all net) (λ b. by_test AreFair (is_retain (kind_of_binding net.head b)) _ _ (λ _. returned_fair (ready_lists net (Binding b))) (λ _. tt)) (binding_numbers net.head))
      (each-append passes (empties_ring net ∷ []) (each-map (passes_all net) (λ f. by_test AreFair (is_hold_filter net.modules f) _ _ (λ _. passed_fair f (ready_lists net (Filter f))) (λ _. tt)) net.modules.order)
      (empties_fair (first_of (ready_lists net Miniport)), tt)))

  drained_fair : (rows : List Row) → AreFair rows → AreFair (drained rows).rows
  drained_fair [] f = tt
  drained_fair (r ∷ rows) f = f

  aborted_fair : (m : ModuleId) (rest : List Row) (ls : List LiveList) → AreFair rest → AreFair (flat_map (aborted net m) ls ++ rest)
  aborted_fair m rest [] f = f
  aborted_fair m rest (l ∷ ls) f = (tt, (home_fair net.modules l.list l.owner l.direction _ Aborted, aborted_fair m rest ls f))

  cancel_fair : (id : ℕ) (ms : List ModuleId) → AreFair (flat_map (cancel_rows_at net id) ms)
  cancel_fair id [] = tt
  cancel_fair id (m ∷ ms) = aborted_fair m (flat_map (cancel_rows_at net id) ms) (cancelled_at net id m) (cancel_fair id ms)

  give_back_fair : (b : ℕ) (o : Option LiveList) → AreFair (give_back_of net b o).rows
  give_back_fair b None = tt
  give_back_fair b (Some l) = by_test (λ (o : Outcome). AreFair o.rows) (is_kept_by (Binding b) l.stand) _ _ (λ _. last_home net.modules l 0 Success) (λ _. tt)

  take_fair : (o : Option LiveList) → AreFair (take_of net o).rows
  take_fair None = tt
  take_fair (Some l) = (tt, tt)

  done_fair : (status : ListStatus) (o : Option LiveList) → AreFair (done_of net status o).rows
  done_fair status None = tt
  done_fair status (Some l) = last_home net.modules l _ status

  take_up_fair : (o : Option Message) → AreFair (take_up_of net o).rows
  take_up_fair None = tt
  take_up_fair (Some m) = (tt, tt)

  -- a lent list is home by the last of these rows
  pub record Ends (n : ListNo) (rows : List Row) : Type 0 where
    pub fair : AreFair rows
    pub home : IsHome rows n

  ends_cons : (n : ListNo) (r : Row) (rows : List Row) → IsFair r → Ends n rows → Ends n (r ∷ rows)
  ends_cons n r rows f e = record { fair = (f, e.fair); home = record { owner = e.home.owner; status = e.home.status; here = Contains-append_right (r ∷ []) rows _ e.home.here } }

  ends-append : (n : ListNo) (xs ys : List Row) → AreFair xs → Ends n ys → Ends n (xs ++ ys)
  ends-append n xs ys f e = record { fair = fair-append xs ys f e.fair; home = record { owner = e.home.owner; status = e.home.status; here = Contains-append_right xs ys _ e.home.here } }

  ends_home : (n : ListNo) (status : ListStatus) → Ends n (lent_home n status)
  ends_home n status = record { fair = (tt, tt); home = record { owner = Miniport; status = status; here = Contains-push [] (row.Home n Miniport status) } }

  ends_back : (n : ListNo) (m : ModuleId) (status : ListStatus) → Ends n (lent_back n m status)
  ends_back n m status = ends_cons n (row.TurnBack n m status) (lent_home n status) tt (ends_home n status)

  ends_copied : (a : Attached) (n : ListNo) (frames : List (List ℕ)) → Ends n (copied net a n frames)
  ends_copied a n frames = ends_cons n _ _ tt (ends_cons n _ _ tt (ends_home n Success))

  ends_handled : (a : Attached) (n : ListNo) (frames : List (List ℕ)) (further : List Row) (o : Option (List (List ℕ))) → Ends n further → Ends n (lent_handled net a n frames further o)
  ends_handled a n frames further None e = ends_back n (Filter a.filter) Dropped
  ends_handled a n frames further (Some made) e =
      by_test (Ends n) (same_frames made frames) _ _ (λ _. e)
      (λ _. by_test (Ends n) (is_full net (Filter a.filter)) _ _ (λ _. ends_back n (Filter a.filter) Resources) (λ _. ends_copied a n made))

  ends_at : (o : Option Attached) (n : ListNo) (frames : List (List ℕ)) (further : List Row) → Ends n further → Ends n (lent_at net o n frames further)
  ends_at None n frames further e = e
  ends_at (Some a) n frames further e =
      by_test (Ends n) (is_running a.state) _ _
      (λ _. ends_cons n _ _ tt (ends_handled a n frames further (applied (max_frame net.head) a.setup.receive frames) e))
      (λ _. ends_back n (Filter a.filter) Paused)

  pub ends_up : (n : ListNo) (frames : List (List ℕ)) (fs : List ℕ) → Ends n (lent_up net n frames fs)
  ends_up n frames [] =
      by_test (Ends n) (phase_is_running net.phase) _ _
      (λ _. ends-append n (delivered net n frames how.Lent (net.next.list + 1) (takers net frames)) _ (delivered_fair n frames how.Lent (takers net frames) (net.next.list + 1)) (ends_home n Success))
      (λ _. ends_back n (Binding 0) Paused)
  ends_up n frames (f ∷ fs) = ends_at (attached f net.modules.filters) n frames (lent_up net n frames fs) (ends_up n frames fs)

-- where rows issue a lent root, it is home in them
abbrev pub Closes : List Row → Type 0
Closes rows = (list : ListNo) (owner : ModuleId) (config : ConfigNo) (cancel : Option ℕ) (frames : List (List ℕ)) → Contains rows (row.Issue list owner config direction.Lent cancel origin.Root frames) → IsHome rows list

all_fair : (rows : List Row) → AreFair rows → All IsFair rows
all_fair [] f = All-nil IsFair
all_fair (r ∷ rows) f = All-cons IsFair r rows f.0 (all_fair rows f.1)

fair_closes : (rows : List Row) → AreFair rows → Closes rows
fair_closes rows f list owner config cancel frames here = absurd (All-contains IsFair rows (row.Issue list owner config direction.Lent cancel origin.Root frames) (all_fair rows f) here)

pub closes-append : (xs ys : List Row) → Closes xs → Closes ys → Closes (xs ++ ys)
closes-append xs ys c d list owner config cancel frames here = by (Contains-append_cases xs ys _ here)
  where
    by : Contains xs (row.Issue list owner config direction.Lent cancel origin.Root frames) ⊎ Contains ys (row.Issue list owner config direction.Lent cancel origin.Root frames) → IsHome (xs ++ ys) list
    by (inl k) = let h = c list owner config cancel frames k in record { owner = h.owner; status = h.status; here = Contains-append_left xs ys _ h.here }
    by (inr k) = let h = d list owner config cancel frames k in record { owner = h.owner; status = h.status; here = Contains-append_right xs ys _ h.here }

lent_closes : (net : Net) (frames : List (List ℕ)) → Closes (lent_rows net frames)
lent_closes net frames list owner config cancel shown here = by (Contains-append_cases (first ∷ []) rest _ here)
  where
    n : ListNo
    n = list_no net.next.list

    first : Row
    first = row.Issue n Miniport (config_no net.modules.config) direction.Lent None origin.Root frames

    rest : List Row
    rest = lent_up net n frames (filter (has_receive net.modules) (reverse net.modules.order))

    closed : Ends net n rest
    closed = ends_up net n frames (filter (has_receive net.modules) (reverse net.modules.order))

    same : {r : Row} → Contains (first ∷ []) r → r ≡ first
    same {r} c = All-contains (λ x. x ≡ first) (first ∷ []) r (All-cons (λ x. x ≡ first) first [] refl (All-nil (λ x. x ≡ first))) c

    by : Contains (first ∷ []) (row.Issue list owner config direction.Lent cancel origin.Root shown) ⊎ Contains rest (row.Issue list owner config direction.Lent cancel origin.Root shown) → IsHome (first ∷ rest) list
    by (inl c) =
        let is = same c in
        let number : list ≡ n = cc in
        subst (IsHome (first ∷ rest)) (sym number) (record { owner = closed.home.owner; status = closed.home.status; here = Contains-append_right (first ∷ []) rest _ closed.home.here })
    by (inr c) = absurd (All-contains IsFair rest (row.Issue list owner config direction.Lent cancel origin.Root shown) (all_fair rest closed.fair) c)

quiet_closes : (o : Outcome) → AreQuiet o.rows → Closes o.rows
quiet_closes o q = fair_closes o.rows (quiet_are_fair o.rows q)

abbrev FairOutcome : Outcome → Type 0
FairOutcome o = AreFair o.rows

pub outcome_closes : (net : Net) (e : Event) (c : Choice) → Closes (outcome net e c).rows
outcome_closes net event.Initialize c = quiet_closes (initialize_outcome net c.refuses) (initialize_quiet net c.refuses)
outcome_closes net (event.Insert kind place setup) c = quiet_closes (insert_outcome net place c) (insert_quiet net place c)
outcome_closes net (event.Remove f) c = quiet_closes (remove_outcome net f) (remove_quiet net f)
outcome_closes net (event.Replace f kind setup) c = quiet_closes (replace_outcome net f c) (replace_quiet net f c)
outcome_closes net (event.Send binding cancel frames) c =
    fair_closes _ (by_test FairOutcome (phase_is_running net.phase) _ _ (λ _. by_test FairOutcome (is_full net (Binding binding)) _ _ (λ _. tt) (λ _. (tt, (tt, tt)))) (λ _. tt))
outcome_closes net (event.Indicate frames) c =
    fair_closes _ (by_test FairOutcome (is_running net.modules.miniport) _ _ (λ _. by_test FairOutcome (is_full net Miniport) _ _ (λ _. tt) (λ _. (tt, (tt, tt)))) (λ _. tt))
outcome_closes net (event.Lend frames) c =
    by_test (λ (o : Outcome). Closes o.rows) (is_running net.modules.miniport) _ _
    (λ _. by_test (λ (o : Outcome). Closes o.rows) (is_full net Miniport) _ _ (λ _. fair_closes [] tt) (λ _. lent_closes net frames))
    (λ _. fair_closes [] tt)
outcome_closes net (event.GiveBack binding list) c = fair_closes _ (give_back_fair net binding (list_of list.0 (lists net.things)))
outcome_closes net (event.Cancel id) c = fair_closes _ (cancel_fair net id (queues net.modules))
outcome_closes net (event.Ask binding kind code value) c = quiet_closes (ask_outcome net binding kind code value) (ask_quiet net binding kind code value)
outcome_closes net (event.Status name) c = quiet_closes (status_outcome net name) (status_quiet net name)
outcome_closes net event.Transmit c = fair_closes _ (transmit_fair net (first_in_ring net))
outcome_closes net event.Pump c = fair_closes _ (pump_fair net c.keeps (agenda_first net))
outcome_closes net event.Drain c =
    fair_closes _ (by_test FairOutcome (is_pump_moving net) _ _ (λ _. pump_fair net c.keeps (agenda_first net)) (λ _. drained_fair net (drain_rows net) (drain_fair net)))
outcome_closes net event.BeginPause c = quiet_closes (begin_outcome net) (begin_quiet net)
outcome_closes net event.PauseNext c = quiet_closes (pause_outcome net) (pause_quiet net)
outcome_closes net event.RestartNext c = quiet_closes (restart_outcome net) (restart_quiet net)
outcome_closes net event.Halt c = quiet_closes (halt_outcome net) (halt_quiet net)
outcome_closes net event.CrossTake c = fair_closes _ (take_fair net (first_uncrossed net))
outcome_closes net (event.CrossPut stack message vlan frames) c =
    fair_closes _
    (by_test FairOutcome (phase_is_running net.phase) _ _
    (λ _. by_test FairOutcome (list_any (is_too_long_tagged net.head) frames) _ _ (λ _. tt)
    (λ _. by_test FairOutcome (is_full net (Binding (mux_binding_for net.head stack))) _ _ (λ _. tt) (λ _. (tt, (tt, (tt, tt))))))
    (λ _. tt))
outcome_closes net (event.CrossDone message status) c = fair_closes _ (done_fair net status (find (λ l. is_in_message message.0 l.crossed) (lists net.things)))
outcome_closes net (event.CrossTakeUp binding vlan) c = fair_closes _ (take_up_fair net (find (is_for binding vlan) net.messages))
outcome_closes net (event.CrossPutUp stack message frames) c =
    fair_closes _ (by_test FairOutcome (is_running net.modules.miniport) _ _ (λ _. by_test FairOutcome (is_full net Miniport) _ _ (λ _. tt) (λ _. (tt, (tt, (tt, tt))))) (λ _. tt))
