-- The rows of what is worked name modules that are there.
use Rattle.std.proofs.Common.{◌≡◌, ℕ, ◌+◌, ◌==◌, ◌&&◌, ◌||◌, not, Bool, true, false, cond, List, [], ◌∷◌, ◌++◌, Option, Some, None, map, filter, find, flat_map, reverse, take, refl, ap, sym, ◌∙◌, subst}
use Rattle.ndis_base.specs.declared.ModuleId.{ModuleId}
use Rattle.ndis_base.specs.declared.ModuleId.TheVariants.{Miniport, Filter, Binding}
use Rattle.ndis_base.specs.declared.ModuleState.{ModuleState}
use Rattle.ndis_base.specs.declared.ListNo.{ListNo}
use Rattle.ndis_base.specs.declared.ListStatus.{ListStatus}
use Rattle.ndis_base.specs.declared.ListStatus.TheVariants.{Success, Resources, Dropped, Paused}
use Rattle.ndis_base.specs.declared.Direction.{Direction}
use Rattle.ndis_base.specs.declared.Direction.TheVariants as direction
use Rattle.ndis_base.specs.declared.Handlers.{Handlers}
use Rattle.ndis_base.specs.declared.Origin.{Origin}
use Rattle.ndis_base.specs.declared.Origin.TheVariants as origin
use Rattle.ndis_base.specs.declared.StatusNo.{StatusNo}
use Rattle.ndis_base.specs.declared.StatusName.{StatusName}
use Rattle.journal_types.specs.declared.How.{How}
use Rattle.journal_types.specs.declared.How.TheVariants as how
use Rattle.journal_types.specs.declared.PassWay.TheVariants as way
use Rattle.journal_types.specs.declared.Row.{Row}
use Rattle.journal_types.specs.declared.Target.{Target}
use Rattle.journal_types.specs.declared.Target.TheVariants.{Module, Bindings}
use Rattle.stack_rules.specs.declared.Attached.{Attached}
use Rattle.stack_rules.specs.declared.LiveList.{LiveList}
use Rattle.stack_rules.specs.declared.Request.{Request}
use Rattle.stack_rules.specs.declared.Stand.{Stand}
use Rattle.stack_rules.specs.declared.Stand.TheVariants as stand
use Rattle.stack_rules.specs.Tests.{phase_is_running, phase_is_paused, phase_is_halted, is_running, is_hold, is_virtual, is_retain, same_frames, same_module}
use Rattle.stack_rules.specs.Heads.{kind_of_binding, binding_numbers}
use Rattle.stack_rules.specs.Net.{Net, Modules, attached, list_of, lists, handlers_of, has_oid, first_oid}
use Rattle.stack_rules.specs.Places.{position, is_full, ready_lists, state_of}
use Rattle.stack_rules.specs.Targets.{onward, homeward, homeward_by, turned_back, has_receive, has_status, first_filter, next_status, filters_above}
use Rattle.stack_rules.specs.Handled.{handled_as, made_of, stays, changes, filter_rows}
use Rattle.stack_rules.specs.Sends.{ring_is_full, at_filter, down_rows, loops, looped, transmitted, first_of}
use Rattle.stack_rules.specs.Dones.{released, released_list, homeward_rows}
use Rattle.stack_rules.specs.Deliveries.{delivered, echoes, settled, last_of, takers, delivery_rows}
use Rattle.stack_rules.specs.Receives.{up_at_filter, up_rows, lent_at, lent_handled, lent_up, lent_delivery}
use Rattle.stack_rules.specs.Cancels.{cancel_outcome, cancel_rows_at, cancelled_at, aborted, queues, is_hold_filter}
use Rattle.stack_rules.specs.Drains.{returned_by, returns_all, passed_by, passes_all, empties, empties_ring, drain_rows, drained}
use Rattle.stack_rules.specs.Pumps.{moved_rows}
use Rattle.stack_rules.specs.Requests.{Giving, giving_to, lowest_giving, entry_giving, or_else, next_giving, filter_ids, oid_modules, is_busy, has_waiting, first_waiting, is_at_entry, giving_rows, given_rows_by}
use Rattle.stack_rules.specs.Statuses.{seen_by_all, status_rows}
use Rattle.state_laws.proofs.Rows.{by_test}
use Rattle.state_laws.proofs.Takes.{attached-is}
use Rattle.state_laws.proofs.Calm.{All, All-append, All-map, first_of_all}
use Rattle.family_laws.proofs.Changes.{every-append}
use Rattle.attached_laws.proofs.Here.{IsHere, GoesHere, RowIsHere, AreHere}

-- a list that goes to a module goes to one that is there, and its owner is there
abbrev pub StandHere : Modules → Stand → Type 0
StandHere ms (stand.Passed way (Module m)) = IsHere ms m
StandHere ms _ = Unit {0}

abbrev pub ListHere : Modules → LiveList → Type 0
ListHere ms l = IsHere ms l.owner × StandHere ms l.stand

-- a filter with handlers is attached
here_by : (ms : Modules) (f : ℕ) (has : Handlers → Bool) → has (record { send = false; receive = false; oid = false; status = false }) ≡ false → has (handlers_of (attached f ms.filters)) ≡ true → IsHere ms (Filter f)
here_by ms f has none some = by (attached f ms.filters) refl
  where
    no : false ≡ true → ⊥
    no e = cc

    by : (o : Option Attached) → attached f ms.filters ≡ o → IsHere ms (Filter f)
    by None e = absurd (no (sym none ∙ sym (ap (λ o. has (handlers_of o)) e) ∙ some))
    by (Some a) e = (a, e)

-- a status goes to such a filter, or to the bindings
first_here : (ms : Modules) (fs : List ℕ) → GoesHere ms (first_filter (has_status ms) fs Bindings)
first_here ms [] = tt
first_here ms (f ∷ fs) = by_test (GoesHere ms) (has_status ms f) _ _ (λ t. here_by ms f (λ (h : Handlers). h.status) refl t) (λ _. first_here ms fs)

pub status_goes : (ms : Modules) (i : ℕ) → GoesHere ms (next_status ms i)
status_goes ms i = first_here ms (reverse (filters_above ms i))

-- a filter that is found is attached, under its own number
number_found : (f : ℕ) (entries : List Attached) (a : Attached) → attached f entries ≡ Some a → attached a.filter entries ≡ Some a
number_found f entries a e = subst (λ n. attached n entries ≡ Some a) (sym (attached-is f entries a e)) e

here_found : (ms : Modules) (f : ℕ) (a : Attached) → attached f ms.filters ≡ Some a → IsHere ms (Filter a.filter)
here_found ms f a e = (a, number_found f ms.filters a e)

pub here_onward : (ms now : Modules) (list : ListNo) (d : Direction) (i : ℕ) → RowIsHere ms (onward now list d i)
here_onward ms now list direction.Down i = tt
here_onward ms now list direction.Up i = tt
here_onward ms now list direction.Lent i = tt

here_homeward_by : (ms now : Modules) (list : ListNo) (owner : ModuleId) (d : Direction) (i : ℕ) (s : ListStatus) → RowIsHere ms (homeward_by now list owner d i s)
here_homeward_by ms now list owner direction.Down i s = tt
here_homeward_by ms now list owner direction.Up i s = tt
here_homeward_by ms now list owner direction.Lent i s = tt

pub here_homeward : (ms now : Modules) (l : LiveList) (i : ℕ) (s : ListStatus) → RowIsHere ms (homeward now l i s)
here_homeward ms now l i s = here_homeward_by ms now l.list l.owner l.direction i s

here_map : {A : Type 0} (ms : Modules) (f : A → Row) (xs : List A) → ((x : A) → RowIsHere ms (f x)) → AreHere ms (map f xs)
here_map ms f [] h = tt
here_map ms f (x ∷ xs) h = (h x, here_map ms f xs h)

here_flat_map : {A : Type 0} (ms : Modules) (f : A → List Row) (xs : List A) → ((x : A) → AreHere ms (f x)) → AreHere ms (flat_map f xs)
here_flat_map ms f [] h = tt
here_flat_map ms f (x ∷ xs) h = every-append (RowIsHere ms) (f x) (flat_map f xs) (h x) (here_flat_map ms f xs h)

module _ (net : Net) where
  abbrev ms : Modules
  ms = net.modules

  abbrev Here : List Row → Type 0
  Here rows = AreHere net.modules rows

  here_back : (l : LiveList) (m : ModuleId) (s : ListStatus) → Here (turned_back ms l m s)
  here_back l m s = (tt, (here_homeward ms ms l (position ms.order m) s, tt))

  -- at a filter
  here_stays : (a : Attached) (l : LiveList) (keeps : Bool) → Here (stays net a l keeps)
  here_stays a l keeps = by_test Here (keeps && is_hold a.kind) _ _ (λ _. (tt, tt)) (λ _. (here_onward ms ms l.list l.direction (position ms.order (Filter a.filter)), tt))

  here_changes : (a : Attached) (l : LiveList) (frames : List (List ℕ)) → Here (changes net a l frames)
  here_changes a l frames =
      by_test Here (is_full net (Filter a.filter)) _ _
      (λ _. here_back l (Filter a.filter) Resources)
      (λ _. (tt, (tt, (here_onward ms ms (record { 0 = net.next.list }) l.direction (position ms.order (Filter a.filter)), tt))))

  here_handled : (a : Attached) (l : LiveList) (keeps : Bool) (made : Option (List (List ℕ))) → Here (handled_as net a l keeps made)
  here_handled a l keeps None = here_back l (Filter a.filter) Dropped
  here_handled a l keeps (Some frames) = by_test Here (same_frames frames l.frames) _ _ (λ _. here_stays a l keeps) (λ _. here_changes a l frames)

  here_filter : (a : Attached) (l : LiveList) (keeps : Bool) → IsHere ms (Filter a.filter) → Here (filter_rows net a l keeps)
  here_filter a l keeps i = (i, here_handled a l keeps (made_of net a l))

  -- sends
  here_at : (f : ℕ) (o : Option Attached) (l : LiveList) (keeps : Bool) → attached f ms.filters ≡ o → Here (at_filter net o l keeps)
  here_at f None l keeps e = tt
  here_at f (Some a) l keeps e = here_filter a l keeps (here_found ms f a e)

  here_down : (l : LiveList) (m : ModuleId) (keeps : Bool) → Here (down_rows net l m keeps)
  here_down l Miniport keeps = (tt, by_test Here (ring_is_full net) _ _ (λ _. here_back l Miniport Resources) (λ _. (tt, tt)))
  here_down l (Filter f) keeps = here_at f (attached f ms.filters) l keeps refl
  here_down l (Binding b) keeps = tt

  here_looped : (l : LiveList) → Here (looped net l)
  here_looped l = by_test Here (loops net) _ _ (λ _. (tt, (tt, tt))) (λ _. tt)

  pub here_transmitted : (l : LiveList) → Here (transmitted net l)
  here_transmitted l = (tt, every-append (RowIsHere ms) (looped net l) _ (here_looped l) (here_homeward ms ms l (position ms.order Miniport) Success, tt))

  -- lists on their way home
  here_released : (m : ModuleId) (s : ListStatus) (o : Option LiveList) → Here (released_list net m s o)
  here_released m s None = tt
  here_released m s (Some l) = (here_homeward ms ms l (position ms.order m) s, tt)

  here_release : (m : ModuleId) (o : Origin) (s : ListStatus) → Here (released net m o s)
  here_release m origin.Root s = tt
  here_release m (origin.Clone o) s = here_released m s (list_of o.0 (lists net.things))
  here_release m (origin.Copy o) s = tt

  here_homewards : (l : LiveList) (m : ModuleId) (s : ListStatus) → IsHere ms l.owner → IsHere ms m → Here (homeward_rows net l m s)
  here_homewards l m s owner i =
      by_test Here (same_module m l.owner) _ _
      (λ _. (owner, here_release l.owner l.origin s))
      (λ _. (i, (here_homeward ms ms l (position ms.order m) s, tt)))

  -- receives
  here_delivered : (list : ListNo) (frames : List (List ℕ)) (own : How) (n : ℕ) (bs : List ℕ) → Here (delivered net list frames own n bs)
  here_delivered list frames own n [] = tt
  here_delivered list frames own n (b ∷ bs) = (tt, by_test Here (echoes net b) _ _ (λ _. (tt, (tt, here_delivered list frames own (n + 1) bs))) (λ _. here_delivered list frames own n bs))

  here_settled : (l : LiveList) (keeps : Bool) (o : Option ℕ) → Here (settled net l keeps o)
  here_settled l keeps None = (here_homeward ms ms l 0 Success, tt)
  here_settled l keeps (Some b) = by_test Here (keeps && is_retain (kind_of_binding net.head b)) _ _ (λ _. (tt, tt)) (λ _. (here_homeward ms ms l 0 Success, tt))

  here_delivery : (l : LiveList) (keeps : Bool) → Here (delivery_rows net l keeps)
  here_delivery l keeps =
      every-append (RowIsHere ms) (delivered net l.list l.frames how.Own net.next.list (takers net l.frames)) _
      (here_delivered l.list l.frames how.Own net.next.list (takers net l.frames)) (here_settled l keeps (last_of (takers net l.frames)))

  here_up_at : (f : ℕ) (o : Option Attached) (l : LiveList) (keeps : Bool) → attached f ms.filters ≡ o → Here (up_at_filter net o l keeps)
  here_up_at f None l keeps e = tt
  here_up_at f (Some a) l keeps e = by_test Here (is_running a.state) _ _ (λ _. here_filter a l keeps (here_found ms f a e)) (λ _. here_back l (Filter a.filter) Paused)

  here_up : (l : LiveList) (to : Target) (keeps : Bool) → Here (up_rows net l to keeps)
  here_up l (Module (Filter f)) keeps = here_up_at f (attached f ms.filters) l keeps refl
  here_up l Bindings keeps = by_test Here (phase_is_running net.phase) _ _ (λ _. here_delivery l keeps) (λ _. here_back l (Binding 0) Paused)
  here_up l (Module Miniport) keeps = tt
  here_up l (Module (Binding b)) keeps = tt

  -- lent lists
  here_lent_handled : (a : Attached) (list : ListNo) (frames : List (List ℕ)) (further : List Row) (o : Option (List (List ℕ))) → Here further → Here (lent_handled net a list frames further o)
  here_lent_handled a list frames further None h = (tt, (tt, tt))
  here_lent_handled a list frames further (Some made) h =
      by_test Here (same_frames made frames) _ _ (λ _. h)
      (λ _. by_test Here (is_full net (Filter a.filter)) _ _ (λ _. (tt, (tt, tt))) (λ _. (tt, (tt, (tt, tt)))))

  here_lent_at : (f : ℕ) (o : Option Attached) (list : ListNo) (frames : List (List ℕ)) (further : List Row) → attached f ms.filters ≡ o → Here further → Here (lent_at net o list frames further)
  here_lent_at f None list frames further e h = h
  here_lent_at f (Some a) list frames further e h =
      by_test Here (is_running a.state) _ _ (λ _. (here_found ms f a e, here_lent_handled a list frames further _ h)) (λ _. (tt, (tt, tt)))

  here_lent_delivery : (list : ListNo) (frames : List (List ℕ)) → Here (lent_delivery net list frames)
  here_lent_delivery list frames =
      by_test Here (phase_is_running net.phase) _ _
      (λ _. every-append (RowIsHere ms) (delivered net list frames how.Lent (net.next.list + 1) (takers net frames)) _ (here_delivered list frames how.Lent (net.next.list + 1) (takers net frames)) (tt, tt))
      (λ _. (tt, (tt, tt)))

  pub here_lent_up : (list : ListNo) (frames : List (List ℕ)) (fs : List ℕ) → Here (lent_up net list frames fs)
  here_lent_up list frames [] = here_lent_delivery list frames
  here_lent_up list frames (f ∷ fs) = here_lent_at f (attached f ms.filters) list frames (lent_up net list frames fs) refl (here_lent_up list frames fs)

  -- a cancel
  pub here_cancel : (id : ℕ) → Here (cancel_outcome net id).rows
  here_cancel id = here_flat_map ms (cancel_rows_at net id) (queues ms) (λ m. here_flat_map ms (aborted net m) (cancelled_at net id m) (λ l. here_back l m _))

  -- a list on its way
  pub here_moved : (l : LiveList) (s : Stand) (keeps : Bool) → IsHere ms l.owner → StandHere ms s → Here (moved_rows net l s keeps)
  here_moved l stand.Unplaced keeps owner i = tt
  here_moved l (stand.Kept m) keeps owner i = tt
  here_moved l (stand.Passed way.Down (Module m)) keeps owner i = here_down l m keeps
  here_moved l (stand.Passed way.Down Bindings) keeps owner i = tt
  here_moved l (stand.Passed way.Up to) keeps owner i = here_up l to keeps
  here_moved l (stand.Passed (way.Done s) (Module m)) keeps owner i = here_homewards l m s owner i
  here_moved l (stand.Passed (way.Done s) Bindings) keeps owner i = tt
  here_moved l (stand.Passed (way.Back s) (Module m)) keeps owner i = here_homewards l m s owner i
  here_moved l (stand.Passed (way.Back s) Bindings) keeps owner i = tt

  -- a status on its way
  here_seen : (number : StatusNo) (b : ℕ) (ss : List ModuleState) → Here (seen_by_all number b ss)
  here_seen number b [] = tt
  here_seen number b (s ∷ ss) = (tt, here_seen number (b + 1) ss)

  pub here_status : (number : StatusNo) (name : StatusName) (to : Target) → GoesHere ms to → Here (status_rows net number name to)
  here_status number name (Module m) i = (i, (status_goes ms (position ms.order m), tt))
  here_status number name Bindings i = here_seen number 0 ms.bindings

  -- drains
  here_returns : (b : ℕ) → Here (returns_all net b)
  here_returns b = by_test Here (is_retain (kind_of_binding net.head b)) _ _ (λ _. here_map ms (returned_by net) (ready_lists net (Binding b)) (λ l. here_homeward ms ms l 0 Success)) (λ _. tt)

  here_passes : (f : ℕ) → Here (passes_all net f)
  here_passes f =
      by_test Here (is_hold_filter ms f) _ _
      (λ _. here_map ms (passed_by net f) (ready_lists net (Filter f)) (λ l. here_onward ms ms l.list l.direction (position ms.order (Filter f))))
      (λ _. tt)

  here_empties : (o : Option LiveList) → Here (empties net o)
  here_empties None = tt
  here_empties (Some l) =
      by_test Here (is_virtual net.head.kind) _ _
      (λ _. by_test Here (phase_is_running net.phase) _ _ (λ _. tt) (λ _. here_back l Miniport Paused))
      (λ _. here_transmitted l)

  here_drain_rows : Here (drain_rows net)
  here_drain_rows =
      first_of_all Here tt (map (returns_all net) (binding_numbers net.head) ++ (map (passes_all net) ms.order ++ empties_ring net ∷ []))
      (All-append Here (map (returns_all net) (binding_numbers net.head)) _ (All-map Here (returns_all net) (binding_numbers net.head) here_returns)
      (All-append Here (map (passes_all net) ms.order) _ (All-map Here (passes_all net) ms.order here_passes) (here_empties (first_of (ready_lists net Miniport)), tt)))

  pub here_drained : Here (drained (drain_rows net)).rows
  here_drained = by (drain_rows net) here_drain_rows
    where
      by : (rows : List Row) → Here rows → Here (drained rows).rows
      by [] h = tt
      by (r ∷ rows) h = h

  -- requests that are given
  abbrev AllHere : List ModuleId → Type 0
  AllHere [] = Unit {0}
  AllHere (m ∷ others) = IsHere ms m × AllHere others

  oid_ids : (fs : List ℕ) → AllHere (filter_ids (filter (has_oid ms) fs))
  oid_ids [] = tt
  oid_ids (f ∷ fs) = by_test (λ gs. AllHere (filter_ids gs)) (has_oid ms f) _ _ (λ t. (here_by ms f (λ (h : Handlers). h.oid) refl t, oid_ids fs)) (λ _. oid_ids fs)

  oid_here : AllHere (oid_modules ms)
  oid_here = (tt, oid_ids (reverse ms.order))

  first_oid_here : (fs : List ℕ) → IsHere ms (first_oid ms fs)
  first_oid_here [] = tt
  first_oid_here (f ∷ fs) = by_test (IsHere ms) (has_oid ms f) _ _ (λ t. here_by ms f (λ (h : Handlers). h.oid) refl t) (λ _. first_oid_here fs)

  -- whoever is given a request is there
  abbrev pub GivesHere : Option Giving → Type 0
  GivesHere None = Unit {0}
  GivesHere (Some g) = IsHere ms g.module_id

  gives_to : (m : ModuleId) (o : Option Request) → IsHere ms m → GivesHere (giving_to m o)
  gives_to m None i = tt
  gives_to m (Some r) i = i

  gives_lowest : (rs : List Request) (others : List ModuleId) → AllHere others → GivesHere (lowest_giving rs others)
  gives_lowest rs [] h = tt
  gives_lowest rs (m ∷ others) h = by_test GivesHere (has_waiting rs m && not (is_busy rs m)) _ _ (λ _. gives_to m (first_waiting rs m) h.0) (λ _. gives_lowest rs others h.1)

  gives_entry : GivesHere (entry_giving net)
  gives_entry =
      by_test GivesHere ((phase_is_paused net.phase || phase_is_halted net.phase) || (is_busy net.requests (first_oid ms ms.order) || has_waiting net.requests (first_oid ms ms.order))) _ _
      (λ _. tt) (λ _. gives_to (first_oid ms ms.order) _ (first_oid_here ms.order))

  gives_else : (o other : Option Giving) → GivesHere o → GivesHere other → GivesHere (or_else o other)
  gives_else None other h k = k
  gives_else (Some g) other h k = h

  pub gives_here : GivesHere (next_giving net)
  gives_here = gives_else (lowest_giving net.requests (oid_modules ms)) (entry_giving net) (gives_lowest net.requests (oid_modules ms) oid_here) gives_entry

  pub here_giving : (g : Giving) → IsHere ms g.module_id → Here (giving_rows net g)
  here_giving g i = (i, given g.module_id)
    where
      given : (m : ModuleId) → Here (given_rows_by net g.request m)
      given Miniport = (tt, tt)
      given (Filter f) = (tt, tt)
      given (Binding b) = tt
