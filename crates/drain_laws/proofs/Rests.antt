-- After every sound journal the live lists rest.
use Rattle.std.proofs.Common.{◌≡◌, ℕ, ◌+◌, ◌==◌, ◌||◌, not, Bool, true, false, cond, List, [], ◌∷◌, ◌++◌, Option, Some, None, refl, ap, sym, subst, ◌∙◌, ◌⊎◌, inl, inr, option_map, filter, map, reverse, slice_index_or, nat_lt, length}
use Rattle.std.specs.List.{list_any}
use Rattle.ndis_base.specs.declared.ListStatus.{ListStatus}
use Rattle.ndis_base.specs.declared.ListStatus.TheVariants.{Success}
use Rattle.ndis_base.specs.declared.Direction.{Direction}
use Rattle.ndis_base.specs.declared.Direction.TheVariants as direction
use Rattle.ndis_base.specs.declared.ModuleId.{ModuleId}
use Rattle.ndis_base.specs.declared.ModuleId.TheVariants.{Miniport, Filter, Binding}
use Rattle.ndis_base.specs.declared.ModuleState.{ModuleState}
use Rattle.ndis_base.specs.declared.ModuleState.TheVariants as state
use Rattle.ndis_base.specs.declared.Origin.TheVariants as origin
use Rattle.ndis_base.specs.declared.Phase.{Phase}
use Rattle.ndis_base.specs.declared.Phase.TheVariants as phase
use Rattle.journal_types.specs.declared.Event.{Event}
use Rattle.journal_types.specs.declared.Event.TheVariants as event
use Rattle.journal_types.specs.declared.PhaseOf.TheVariants as of
use Rattle.journal_types.specs.declared.Reply.{Reply}
use Rattle.journal_types.specs.declared.Row.{Row}
use Rattle.journal_types.specs.declared.Row.TheVariants as row
use Rattle.journal_types.specs.declared.StackHead.{StackHead}
use Rattle.journal_types.specs.declared.Turn.{Turn}
use Rattle.program_types.specs.Apply.{pushed}
use Rattle.stack_rules.specs.declared.Attached.{Attached}
use Rattle.stack_rules.specs.declared.Choice.{Choice}
use Rattle.stack_rules.specs.declared.LiveList.{LiveList}
use Rattle.stack_rules.specs.declared.Message.{Message}
use Rattle.stack_rules.specs.declared.Stand.{Stand}
use Rattle.stack_rules.specs.declared.Stand.TheVariants as stand
use Rattle.stack_rules.specs.Tests.{is_retain, is_running, is_unbound, is_halted, phase_is_running, phase_is_paused, phase_is_pausing, phase_is_halted, phase_is_restarting}
use Rattle.stack_rules.specs.Heads.{binding_numbers, kind_of_binding}
use Rattle.stack_rules.specs.Net.{Net, after, after_rows, after_turn, after_turns, attached, lists, list_of, seen, start, told, with_state, is_detached}
use Rattle.stack_rules.specs.Places.{position, has_clone, is_clone_of, is_crossed, is_full, is_kept_by, outstanding, state_of}
use Rattle.stack_rules.specs.Targets.{onward, next_status}
use Rattle.stack_rules.specs.Outcome.{Outcome, list_no, oid_no, status_no, cross_no, config_no}
use Rattle.stack_rules.specs.Cancels.{hold_in, is_hold_filter}
use Rattle.stack_rules.specs.Crosses.{first_uncrossed, take_of, done_of, take_up_of, is_too_long_tagged, mux_binding_for}
use Rattle.stack_rules.specs.Pauses.{floors, state_rows, binding_ids, first_unpaused, pause_outcome, begin_outcome, restarting, restart_outcome, running_floors, is_top}
use Rattle.stack_rules.specs.Receives.{give_back_of}
use Rattle.stack_rules.specs.Rewires.{is_in}
use Rattle.stack_rules.specs.Sends.{transmit_of, first_in_ring}
use Rattle.stack_rules.specs.Sound.{outcome, Next, Sound, SoundFrom}
use Rattle.rule_basics.specs.Live.{Each, IsApart, IsBelow}
use Rattle.rule_basics.proofs.Each.{Each-implies}
use Rattle.home_laws.proofs.Known.{by_test}
use Rattle.state_laws.proofs.Rows.{IsSame}
use Rattle.state_laws.proofs.Quiet.{is_plain}
use Rattle.state_laws.specs.Shape.{IsShaped}
use Rattle.state_laws.proofs.Changes.{IsChanged}
use Rattle.state_laws.proofs.Takes.{attached-with_state}
use Rattle.state_laws.proofs.Events.{state_after, at_phase, event_kept, plain_same, turn_is}
use Rattle.pause_laws.specs.Clear.{IsHeld}
use Rattle.pause_laws.proofs.Fronts.{none_live}
use Rattle.pause_laws.proofs.Turns.{held_journal}
use Rattle.work_laws.specs.Bounds.{is_take}
use Rattle.drain_laws.specs.Resting.{Rests, IsResting, ListsRest}
use Rattle.drain_laws.proofs.Reached.{IsReached, reached_next, of_reached}
use Rattle.drain_laws.proofs.Resting.{Fine, Rest, none, closes_none, plain_rest, homeward_rest, issue_on, cross_rest}
use Rattle.drain_laws.proofs.Rested.{Leaves, pump_rest, drain_rest, cancel_rest, transmitted_rest}
use Rattle.drain_laws.proofs.Lent.{lent_rest}

-- the events that change no state of a module
module _ (net : Net) (h : Rest net none net) where
  abbrev OutcomeLeaves : Outcome → Type 0
  OutcomeLeaves o = Leaves net net o.rows

  -- a list that its owner sends or indicates
  root_rest : (next : Net) (owner : ModuleId) (d : Direction) (cancel : Option ℕ) (frames : List (List ℕ)) (i : ℕ) → net.next.list ≡ next.next.list → Rest net none next →
      Rest net none (after (after next (row.Issue (list_no net.next.list) owner (config_no net.modules.config) d cancel origin.Root frames)) (onward net.modules (list_no net.next.list) d i))
  root_rest next owner d cancel frames i e r = issue_on net next none net.modules (list_no net.next.list) owner (config_no net.modules.config) d cancel origin.Root frames i e r

  give_back_rest : (b : ℕ) (o : Option LiveList) → OutcomeLeaves (give_back_of net b o)
  give_back_rest b None = h
  give_back_rest b (Some l) =
      by_test OutcomeLeaves (is_kept_by (Binding b) l.stand) _ _ (λ _. homeward_rest net net none none net.modules l.list l.owner l.direction 0 Success (closes_none l.list.0) h) (λ _. h)

  transmit_rest : (o : Option LiveList) → OutcomeLeaves (transmit_of net o)
  transmit_rest None = h
  transmit_rest (Some l) = transmitted_rest net h l

  done_rest : (s : ListStatus) (o : Option LiveList) → OutcomeLeaves (done_of net s o)
  done_rest s None = h
  done_rest s (Some l) = homeward_rest net net none none net.modules l.list l.owner l.direction (position net.modules.order Miniport) s (closes_none l.list.0) h

  -- a message that was kept is taken: the lists stay
  taken_rest : (binding vlan : ℕ) (o : Option Message) → Rest net none (after_rows (told net (event.CrossTakeUp binding vlan) (take_up_of net o).reply) (take_up_of net o).rows)
  taken_rest binding vlan None = h
  taken_rest binding vlan (Some m) = record { numbered = record { apart = h.numbered.apart; below = h.numbered.below }; each = h.each; free = h.free }

  plain_event : (e : Event) (c : Choice) → is_plain e ≡ true → is_take e ≡ false → Rest net none (state_after net e (outcome net e c))
  plain_event event.Initialize c p t = cc
  plain_event (event.Insert kind position setup) c p t = cc
  plain_event (event.Remove filter) c p t = cc
  plain_event (event.Replace filter kind setup) c p t = cc
  plain_event event.BeginPause c p t = cc
  plain_event event.PauseNext c p t = cc
  plain_event event.RestartNext c p t = cc
  plain_event event.Halt c p t = cc
  plain_event (event.Send binding cancel frames) c p t =
      by_test OutcomeLeaves (phase_is_running net.phase) _ _
      (λ _. by_test OutcomeLeaves (is_full net (Binding binding)) _ _ (λ _. h) (λ _. root_rest net (Binding binding) direction.Down cancel frames 0 refl h))
      (λ _. h)
  plain_event (event.Indicate frames) c p t =
      by_test OutcomeLeaves (is_running net.modules.miniport) _ _
      (λ _. by_test OutcomeLeaves (is_full net Miniport) _ _ (λ _. h) (λ _. root_rest net Miniport direction.Up None frames (position net.modules.order Miniport) refl h))
      (λ _. h)
  plain_event (event.Lend frames) c p t =
      by_test OutcomeLeaves (is_running net.modules.miniport) _ _
      (λ _. by_test OutcomeLeaves (is_full net Miniport) _ _ (λ _. h) (λ _. lent_rest net frames h))
      (λ _. h)
  plain_event (event.GiveBack binding list) c p t = give_back_rest binding (list_of list.0 (lists net.things))
  plain_event (event.Cancel id) c p t = cancel_rest net h id
  plain_event (event.Ask binding kind code value) c p t =
      by_test OutcomeLeaves (is_unbound (state_of net (Binding binding))) _ _ (λ _. h) (λ _. plain_rest net net none (row.OidIssue (oid_no net.next.request) None binding kind code value) refl h)
  plain_event (event.Status name) c p t = by_test OutcomeLeaves (is_halted net.modules.miniport) _ _ (λ _. h)
      (λ _. plain_rest net net none (row.Status (status_no net.next.status) name (next_status net.modules (position net.modules.order Miniport))) refl h)
  plain_event event.Transmit c p t = transmit_rest (first_in_ring net)
  plain_event event.Pump c p t = pump_rest net c.keeps h
  plain_event event.Drain c p t = drain_rest net h c.keeps
  plain_event event.CrossTake c p t = cc
  plain_event (event.CrossPut stack message vlan frames) c p t =
      by_test OutcomeLeaves (phase_is_running net.phase) _ _
      (λ _. by_test OutcomeLeaves (list_any (is_too_long_tagged net.head) frames) _ _ (λ _. h)
      (λ _. by_test OutcomeLeaves (is_full net (Binding (mux_binding_for net.head stack))) _ _ (λ _. h)
      (λ _. root_rest net (Binding (mux_binding_for net.head stack)) direction.Down None (map (pushed vlan) frames) 0 refl h)))
      (λ _. h)
  plain_event (event.CrossDone message status) c p t = done_rest status _
  plain_event (event.CrossTakeUp binding vlan) c p t = taken_rest binding vlan _
  plain_event (event.CrossPutUp stack message frames) c p t =
      by_test OutcomeLeaves (is_running net.modules.miniport) _ _
      (λ _. by_test OutcomeLeaves (is_full net Miniport) _ _ (λ _. h)
      (λ _. root_rest net Miniport direction.Up None frames (position net.modules.order Miniport) refl h))
      (λ _. h)

-- a list is taken to another stack
take_rest : (net : Net) (o : Option LiveList) → Rest net none net → Rest (after_rows net (take_of net o).rows) none (after_rows net (take_of net o).rows)
take_rest net None h = h
take_rest net (Some l) h = cross_rest net l.list (cross_no net.next.message) l.frames h

-- rows that tell states, none of them Detached or Halted: each filter stays of its kind
abbrev pub is_gentle : Row → Bool
is_gentle (row.Phase (of.Module m s)) = not (is_detached s)
is_gentle (row.Phase (of.Stack p)) = not (phase_is_halted p)
is_gentle _ = false

abbrev pub AreGentle : List Row → Type 0
AreGentle [] = Unit {0}
AreGentle (r ∷ rows) = (is_gentle r ≡ true) × AreGentle rows

gentle-append : (xs ys : List Row) → AreGentle xs → AreGentle ys → AreGentle (xs ++ ys)
gentle-append [] ys p q = q
gentle-append (x ∷ xs) ys p q = (p.0, gentle-append xs ys p.1 q)

gentle_states : (s : ModuleState) (ms : List ModuleId) → is_detached s ≡ false → AreGentle (state_rows (s ∷ []) ms)
gentle_states s [] d = tt
gentle_states s (m ∷ ms) d = (rw d refl, gentle_states s ms d)

gentle_two : (q s : ModuleState) (ms : List ModuleId) → is_detached q ≡ false → is_detached s ≡ false → AreGentle (state_rows (q ∷ s ∷ []) ms)
gentle_two q s [] d e = tt
gentle_two q s (m ∷ ms) d e = (rw d refl, (rw e refl, gentle_two q s ms d e))

same_kind : (f : ℕ) (s : ModuleState) (o : Option Attached) → hold_in (option_map (with_state f s) o) ≡ hold_in o
same_kind f s None = refl
same_kind f s (Some a) = elim (a.filter == f) as (λ b. hold_in (Some (cond b (record a { state = s }) a)) ≡ hold_in (Some a)) [ true ↦ refl | false ↦ refl ]

gentle_holds : (net : Net) (r : Row) → is_gentle r ≡ true → (f : ℕ) → is_hold_filter (after net r).modules f ≡ is_hold_filter net.modules f
gentle_holds net (row.Phase (of.Module Miniport s)) g f = refl
gentle_holds net (row.Phase (of.Module (Binding b) s)) g f = refl
gentle_holds net (row.Phase (of.Module (Filter k) s)) g f =
    let entries : List Attached = net.modules.filters in
    let stays : is_detached s ≡ false = off (is_detached s) g in
    ap (λ b. hold_in (attached f (cond b (filter (λ a. not (a.filter == k)) entries) (map (with_state k s) entries)))) stays
    ∙ ap hold_in (attached-with_state f k s entries)
    ∙ same_kind k s (attached f entries)
  where
    off : (b : Bool) → not b ≡ true → b ≡ false
    off true e = cc
    off false e = refl
gentle_holds net (row.Phase (of.Stack p)) g f = refl
gentle_holds net _ g f = cc

gentle_rows : (net : Net) (rows : List Row) → AreGentle rows → (f : ℕ) → is_hold_filter (after_rows net rows).modules f ≡ is_hold_filter net.modules f
gentle_rows net [] g f = refl
gentle_rows net (r ∷ rows) g f = gentle_rows (after net r) rows g.1 f ∙ gentle_holds net r g.0 f

abbrev pub IsGentle : Outcome → Type 0
IsGentle o = AreGentle o.rows

pub begin_gentle : (net : Net) → IsGentle (begin_outcome net)
begin_gentle net = by_test IsGentle (phase_is_running net.phase) _ _ (λ _. (refl, gentle_states state.Pausing (binding_ids 0 net.modules.bindings) refl)) (λ _. tt)

pub pause_gentle : (net : Net) → IsGentle (pause_outcome net)
pause_gentle net =
    let i : ℕ = first_unpaused net in
    by_test IsGentle (phase_is_pausing net.phase) _ _
    (λ _. by_test IsGentle (outstanding net i == 0) _ _
    (λ _. gentle-append (state_rows (state.Paused ∷ []) (slice_index_or (floors net.modules) i [])) _ (gentle_states state.Paused (slice_index_or (floors net.modules) i []) refl)
    (by_test AreGentle (nat_lt (i + 1) (length (floors net.modules))) _ _ (λ _. gentle_states state.Pausing (slice_index_or (floors net.modules) (i + 1) []) refl) (λ _. (refl, tt))))
    (λ _. tt))
    (λ _. tt)

pub restart_gentle : (net : Net) → IsGentle (restart_outcome net)
restart_gentle net =
    let i : ℕ = running_floors net in
    let ms : List ModuleId = slice_index_or (reverse (floors net.modules)) i [] in
    by_test IsGentle (phase_is_paused net.phase || phase_is_restarting net.phase) _ _
    (λ _. gentle-append (restarting net) _ (by_test AreGentle (phase_is_paused net.phase) _ _ (λ _. (refl, tt)) (λ _. tt))
    (gentle-append (state_rows (state.Restarting ∷ state.Running ∷ []) ms) _ (gentle_two state.Restarting state.Running ms refl refl)
    (by_test AreGentle (is_top net i) _ _ (λ _. (refl, tt)) (λ _. tt))))
    (λ _. tt)

-- another state with lists that rest as well
rests_by : (base other : Net) (cloned : Bool) (s : Stand) → other.head ≡ base.head → ((f : ℕ) → is_hold_filter other.modules f ≡ is_hold_filter base.modules f) → Rests base cloned s → Rests other cloned s
rests_by base other cloned stand.Unplaced e f h = h
rests_by base other cloned (stand.Kept Miniport) e f h = tt
rests_by base other cloned (stand.Kept (Filter g)) e f (inl h) = inl (f g ∙ h)
rests_by base other cloned (stand.Kept (Filter g)) e f (inr h) = inr h
rests_by base other cloned (stand.Kept (Binding b)) e f h = subst (λ (head : StackHead). (is_in b (binding_numbers head) ≡ true) × (is_retain (kind_of_binding head b) ≡ true)) (sym e) h
rests_by base other cloned (stand.Passed way to) e f h = tt

fine_by : (base other : Net) (cloned : ℕ → Bool) (l : LiveList) → other.head ≡ base.head → ((f : ℕ) → is_hold_filter other.modules f ≡ is_hold_filter base.modules f) → Fine base none cloned l → Fine other none cloned l
fine_by base other cloned l e f (inl o) = inl o
fine_by base other cloned l e f (inr r) = inr (rests_by base other (cloned l.list.0) l.stand e f r)

rest_by : (base next : Net) → next.head ≡ base.head → ((f : ℕ) → is_hold_filter next.modules f ≡ is_hold_filter base.modules f) → Rest base none next → Rest next none next
rest_by base next e f h = record {
  numbered = h.numbered;
  each = Each-implies _ _ (λ l r. fine_by base next (has_clone next) l e f r) (lists next.things) h.each;
  free = λ g. g;
}

-- the same lists
same_lists : (base net next : Net) → next.things ≡ net.things → next.next.list ≡ net.next.list → Rest base none net → Rest base none next
same_lists base net next e n h = record {
  numbered = record { apart = subst (λ ts. IsApart (lists ts)) (sym e) h.numbered.apart; below = subst (λ ts. IsBelow next.next.list (lists ts)) (sym e) (subst (λ k. IsBelow k (lists net.things)) (sym n) h.numbered.below) };
  each = subst (λ ts. Each (Fine base none (λ k. list_any (λ l. is_clone_of k l.origin) (lists ts))) (lists ts)) (sym e) h.each;
  free = λ f. subst (λ ts. Each (λ l. is_crossed l.crossed ≡ false) (lists ts)) (sym e) (h.free f);
}

-- no list is live
no_lists : (base next : Net) → lists next.things ≡ [] → Rest base none next
no_lists base next e = record {
  numbered = record { apart = subst IsApart (sym e) tt; below = subst (IsBelow next.next.list) (sym e) tt };
  each = subst (Each (Fine base none (has_clone next))) (sym e) tt;
  free = λ f. subst (Each (λ l. is_crossed l.crossed ≡ false)) (sym e) tt;
}

-- an event that is gentle
gentle_event : (net : Net) (e : Event) (c : Choice) (s : IsShaped net) → is_plain e ≡ false → ((r : Reply) → told net e r ≡ net) → IsGentle (outcome net e c) → Rest net none net → Rest (state_after net e (outcome net e c)) none (state_after net e (outcome net e c))
gentle_event net e c s p t g h =
    let next : Net = state_after net e (outcome net e c) in
    let changed : IsChanged net next s = event_kept net s e c p in
    let kinds : (f : ℕ) → is_hold_filter next.modules f ≡ is_hold_filter net.modules f =
    λ f. ap (λ (m : Net). is_hold_filter (after_rows m (outcome net e c).rows).modules f) (t (outcome net e c).reply) ∙ gentle_rows net (outcome net e c).rows g f in
    rest_by net next changed.head kinds (same_lists net net next changed.things changed.list h)

-- an event of a stack without lists
empty_event : (net : Net) (e : Event) (c : Choice) (s : IsShaped net) → is_plain e ≡ false → lists net.things ≡ [] → Rest (state_after net e (outcome net e c)) none (state_after net e (outcome net e c))
empty_event net e c s p n =
    let next : Net = state_after net e (outcome net e c) in
    no_lists next next (ap lists (event_kept net s e c p).things ∙ n)

-- while lists may be live, nothing is initialised, rewired or halted
abbrev may_have : Phase → Bool
may_have p = not (phase_is_paused p || phase_is_halted p)

abbrev ChangesNothing : Net → Event → Outcome → Type 0
ChangesNothing net e o = state_after net e o ≡ net

refused_by : (net : Net) (e : Event) (c : Choice) → is_plain e ≡ false → phase_is_paused net.phase ≡ false → phase_is_halted net.phase ≡ false → (IsGentle (outcome net e c) × ((r : Reply) → told net e r ≡ net)) ⊎ (state_after net e (outcome net e c) ≡ net)
refused_by net event.Initialize c p a b = inr (by_test (ChangesNothing net event.Initialize) (phase_is_halted net.phase) _ _ (λ t. cc) (λ _. refl))
refused_by net (event.Insert kind position setup) c p a b = inr (by_test (ChangesNothing net (event.Insert kind position setup)) (phase_is_paused net.phase) _ _ (λ t. cc) (λ _. refl))
refused_by net (event.Remove filter) c p a b = inr (by_test (ChangesNothing net (event.Remove filter)) (phase_is_paused net.phase) _ _ (λ t. cc) (λ _. refl))
refused_by net (event.Replace old kind setup) c p a b = inr (by_test (ChangesNothing net (event.Replace old kind setup)) (phase_is_paused net.phase) _ _ (λ t. cc) (λ _. refl))
refused_by net event.BeginPause c p a b = inl (begin_gentle net, λ r. refl)
refused_by net event.PauseNext c p a b = inl (pause_gentle net, λ r. refl)
refused_by net event.RestartNext c p a b = inl (restart_gentle net, λ r. refl)
refused_by net event.Halt c p a b = inr (by_test (ChangesNothing net event.Halt) (phase_is_paused net.phase) _ _ (λ t. cc) (λ _. refl))
refused_by net _ c p a b = cc

event_rests : (net : Net) (e : Event) (c : Choice) → IsHeld net → Rest net none net → Rest (state_after net e (outcome net e c)) none (state_after net e (outcome net e c))
event_rests net e c held h = cases (is_plain e) refl
  where
    busy : is_plain e ≡ false → (IsGentle (outcome net e c) × ((r : Reply) → told net e r ≡ net)) ⊎ (state_after net e (outcome net e c) ≡ net) → Rest (state_after net e (outcome net e c)) none (state_after net e (outcome net e c))
    busy p (inl g) = gentle_event net e c held.shape p g.1 g.0 h
    busy p (inr same) = subst (λ m. Rest m none m) (sym same) h

    other : is_plain e ≡ false → (p : Phase) → net.phase ≡ p → Rest (state_after net e (outcome net e c)) none (state_after net e (outcome net e c))
    other q phase.Halted i = empty_event net e c held.shape q (none_live net.modules held.shape.front (lists net.things) (at_phase net phase.Halted held.shape i).1 held.clear.each)
    other q phase.Paused i = empty_event net e c held.shape q (none_live net.modules held.shape.front (lists net.things) (at_phase net phase.Paused held.shape i).1.1 held.clear.each)
    other q phase.Restarting i = busy q (refused_by net e c q (ap phase_is_paused i) (ap phase_is_halted i))
    other q phase.Running i = busy q (refused_by net e c q (ap phase_is_paused i) (ap phase_is_halted i))
    other q phase.Pausing i = busy q (refused_by net e c q (ap phase_is_paused i) (ap phase_is_halted i))

    takes : (e : Event) → is_take e ≡ true → Rest (state_after net e (outcome net e c)) none (state_after net e (outcome net e c))
    takes event.CrossTake t = take_rest net (first_uncrossed net) h
    takes _ t = cc

    by_take : (b : Bool) → is_take e ≡ b → is_plain e ≡ true → Rest (state_after net e (outcome net e c)) none (state_after net e (outcome net e c))
    by_take true t p = takes e t
    by_take false t p =
        let same : IsSame net (state_after net e (outcome net e c)) = plain_same net e c p in
        rest_by net (state_after net e (outcome net e c)) same.head (λ f. ap (λ ms. is_hold_filter ms f) same.modules) (plain_event net h e c p t)

    cases : (b : Bool) → is_plain e ≡ b → Rest (state_after net e (outcome net e c)) none (state_after net e (outcome net e c))
    cases true p = by_take (is_take e) refl p
    cases false p = other p net.phase refl

turn_rests : (net : Net) (turn : Turn) → Next net turn → IsHeld net → Rest net none net → Rest (after_turn net turn) none (after_turn net turn)
turn_rests net turn n held h = subst (λ m. Rest m none m) (sym (turn_is net turn n)) (event_rests net turn.event n.choice held h)

rests_turns : (head : StackHead) (net : Net) (turns : List Turn) → IsReached head net → Rest net none net → SoundFrom net turns → Rest (after_turns net turns) none (after_turns net turns)
rests_turns head net [] r h s = h
rests_turns head net (turn ∷ turns) r h s =
    rests_turns head (after_turn net turn) turns (reached_next head net turn r s.0) (turn_rests net turn s.0 (of_reached IsHeld head net r (held_journal head)) h) s.1

pub rests_journal : (head : StackHead) (turns : List Turn) → Sound head turns → Rest (seen head turns) none (seen head turns)
rests_journal head turns s = rests_turns head (start head) turns (record { turns = []; sound = tt; is = refl }) (no_lists (start head) (start head) refl) s

pub lists_rest : ListsRest
lists_rest head turns s =
    let net : Net = seen head turns in
    Each-implies (Fine net none (has_clone net)) (IsResting net) (λ l f. closed l f) (lists net.things) (rests_journal head turns s).each
  where
    closed : (l : LiveList) → Fine (seen head turns) none (has_clone (seen head turns)) l → IsResting (seen head turns) l
    closed l (inl o) = cc
    closed l (inr r) = r
