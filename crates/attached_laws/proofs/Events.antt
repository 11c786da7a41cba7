-- The rows of each event name modules that are there.
use Rattle.std.proofs.Common.{◌≡◌, ℕ, ◌==◌, ◌||◌, ◌+◌, nat_lt, Bool, true, false, List, [], ◌∷◌, ◌++◌, Option, Some, None, map, filter, find, length, reverse, slice_index_or, refl, ap, sym, ◌∙◌, subst, if◌then◌else◌}
use Rattle.std.specs.List.{list_any}
use Rattle.ndis_base.specs.declared.ModuleId.{ModuleId}
use Rattle.ndis_base.specs.declared.ModuleId.TheVariants.{Miniport, Filter, Binding}
use Rattle.ndis_base.specs.declared.ModuleState.{ModuleState}
use Rattle.ndis_base.specs.declared.ModuleState.TheVariants as state
use Rattle.ndis_base.specs.declared.Phase.TheVariants as phase
use Rattle.journal_types.specs.declared.Event.{Event}
use Rattle.journal_types.specs.declared.Event.TheVariants as event
use Rattle.journal_types.specs.declared.PhaseOf.TheVariants as of
use Rattle.journal_types.specs.declared.Reply.{Reply}
use Rattle.journal_types.specs.declared.Reply.TheVariants as reply
use Rattle.journal_types.specs.declared.Row.{Row}
use Rattle.journal_types.specs.declared.Row.TheVariants as row
use Rattle.stack_rules.specs.declared.Answered.{Answered}
use Rattle.stack_rules.specs.declared.Choice.{Choice}
use Rattle.stack_rules.specs.declared.LiveList.{LiveList}
use Rattle.stack_rules.specs.declared.Message.{Message}
use Rattle.stack_rules.specs.declared.Thing.{Thing}
use Rattle.stack_rules.specs.declared.Thing.TheVariants as thing
use Rattle.stack_rules.specs.Tests.{is_running, is_unbound, is_halted, phase_is_halted, phase_is_running, phase_is_pausing, phase_is_paused, phase_is_restarting}
use Rattle.stack_rules.specs.Messages.{is_for}
use Rattle.stack_rules.specs.Net.{Net, Modules, told, lists, list_of}
use Rattle.stack_rules.specs.Outcome.{Outcome, max_filters, config_no}
use Rattle.stack_rules.specs.Places.{outstanding, is_full, is_kept_by, agenda_first, position, state_of, is_away}
use Rattle.stack_rules.specs.Targets.{has_receive}
use Rattle.stack_rules.specs.Sends.{transmit_of, first_in_ring}
use Rattle.stack_rules.specs.Receives.{give_back_of}
use Rattle.stack_rules.specs.Requests.{Giving, next_giving}
use Rattle.stack_rules.specs.Pauses.{state_row, state_rows, first_unpaused, running_floors, is_top, floors, binding_ids, halt_items, live_items}
use Rattle.stack_rules.specs.Pumps.{thing_rows, request_pump, pump_of, is_pump_moving}
use Rattle.stack_rules.specs.Rewires.{is_in, is_bad_position}
use Rattle.stack_rules.specs.Crosses.{first_uncrossed, take_of, done_of, take_up_of, is_too_long_tagged, mux_binding_for, is_in_message}
use Rattle.stack_rules.specs.Sound.{outcome}
use Rattle.rule_basics.specs.Live.{Each}
use Rattle.state_laws.proofs.Rows.{by_test}
use Rattle.pause_laws.proofs.Works.{each_away}
use Rattle.place_laws.specs.Kept.{EachStatus}
use Rattle.family_laws.proofs.Changes.{OfChanges, initialize_every, begin_every, pause_every, restart_every, halt_every, remove_every, insert_every, replace_every}
use Rattle.attached_laws.proofs.Here.{IsHere, GoesHere, RowIsHere, AreHere, HoldsHere}
use Rattle.attached_laws.proofs.Works.{ListHere, status_goes, here_homeward, here_transmitted, here_lent_up, here_cancel, here_moved, here_status, here_drained, GivesHere, gives_here, here_giving}

-- what the event and its answer tell beside the rows leaves it so
pub told_holds : (ms : Modules) (net : Net) (e : Event) (r : Reply) → HoldsHere ms net → HoldsHere ms (told net e r)
told_holds ms net (event.Insert kind position setup) (reply.Inserted f) h = record { statuses = h.statuses; given = h.given }
told_holds ms net (event.Replace old kind setup) (reply.Replaced f) h = record { statuses = h.statuses; given = h.given }
told_holds ms net (event.CrossTakeUp binding vlan) (reply.Taken message frames) h = record { statuses = h.statuses; given = h.given }
told_holds ms net e r h = h

-- rows of phases and configurations
pub phases_here : (ms : Modules) → OfChanges (RowIsHere ms)
phases_here ms = record { states = λ s m other. tt; stack = λ p. tt }

-- the first status on its way
first_status : (P : _) (ts : List Thing) (s : _) → EachStatus P ts → find is_away ts ≡ Some (thing.Status s) → P s
first_status P [] s h e = cc
first_status P (thing.Status x ∷ ts) s h e = subst P (same x s e) h.0
  where
    same : (x s : _) → Some (thing.Status x) ≡ Some (thing.Status s) → x ≡ s
    same x s e = cc
first_status P (thing.Answer a ∷ ts) s h e = cc
first_status P (thing.List l ∷ ts) s h e = by_away (first_status P ts s h) (is_away (thing.List l)) e
  where
    by_away : (find is_away ts ≡ Some (thing.Status s) → P s) → (b : Bool) → (if b then Some (thing.List l) else find is_away ts) ≡ Some (thing.Status s) → P s
    by_away later true e = cc
    by_away later false e = later e

module _ (net : Net) (owned : Each (ListHere net.modules) (lists net.things)) (holds : HoldsHere net.modules net) where
  abbrev Here : Outcome → Type 0
  Here o = AreHere net.modules o.rows

  -- pumps
  thing_here : (t : Thing) (keeps : Bool) → agenda_first net ≡ Some t → AreHere net.modules (thing_rows net t keeps)
  thing_here (thing.List l) keeps e = let h = each_away (ListHere net.modules) net.things l owned e in here_moved net l l.stand keeps h.0 h.1
  thing_here (thing.Status s) keeps e = here_status net s.number s.name s.to (first_status (λ s. GoesHere net.modules s.to) net.things s holds.statuses e)
  thing_here (thing.Answer a) keeps e = (tt, tt)

  request_here : (o : Option Giving) → next_giving net ≡ o → Here (request_pump net o)
  request_here None e = tt
  request_here (Some g) e = here_giving net g (subst (GivesHere net) e (gives_here net))

  pump_here : (keeps : Bool) (o : Option Thing) → agenda_first net ≡ o → Here (pump_of net keeps o)
  pump_here keeps None e = request_here (next_giving net) refl
  pump_here keeps (Some t) e = thing_here t keeps e

  transmit_here : (o : Option LiveList) → Here (transmit_of net o)
  transmit_here None = tt
  transmit_here (Some l) = here_transmitted net l

  give_back_here : (b : ℕ) (o : Option LiveList) → Here (give_back_of net b o)
  give_back_here b None = tt
  give_back_here b (Some l) = by_test Here (is_kept_by (Binding b) l.stand) _ _ (λ _. (here_homeward net.modules net.modules l 0 _, tt)) (λ _. tt)

  take_here : (o : Option LiveList) → Here (take_of net o)
  take_here None = tt
  take_here (Some l) = (tt, tt)

  done_here : (s : _) (o : Option LiveList) → Here (done_of net s o)
  done_here s None = tt
  done_here s (Some l) = (here_homeward net.modules net.modules l (position net.modules.order Miniport) s, tt)

  take_up_here : (o : Option Message) → Here (take_up_of net o)
  take_up_here None = tt
  take_up_here (Some m) = (tt, tt)

  pub event_here : (e : Event) (c : Choice) → Here (outcome net e c)
  event_here event.Initialize c = initialize_every (RowIsHere net.modules) (phases_here net.modules) (λ config filters. tt) net c.refuses
  event_here (event.Insert kind position setup) c = insert_every (RowIsHere net.modules) (phases_here net.modules) (λ config filters. tt) (λ f. tt) net position c
  event_here (event.Remove filter) c = remove_every (RowIsHere net.modules) (phases_here net.modules) (λ config filters. tt) net filter
  event_here (event.Replace filter kind setup) c = replace_every (RowIsHere net.modules) (phases_here net.modules) (λ config filters. tt) (λ f. tt) net filter c
  event_here (event.Send binding cancel frames) c =
      by_test Here (phase_is_running net.phase) _ _
      (λ _. by_test Here (is_full net (Binding binding)) _ _ (λ _. tt) (λ _. (tt, (tt, tt))))
      (λ _. tt)
  event_here (event.Indicate frames) c =
      by_test Here (is_running net.modules.miniport) _ _
      (λ _. by_test Here (is_full net Miniport) _ _ (λ _. tt) (λ _. (tt, (tt, tt))))
      (λ _. tt)
  event_here (event.Lend frames) c =
      by_test Here (is_running net.modules.miniport) _ _
      (λ _. by_test Here (is_full net Miniport) _ _ (λ _. tt)
      (λ _. (tt, here_lent_up net _ frames (filter (has_receive net.modules) (reverse net.modules.order)))))
      (λ _. tt)
  event_here (event.GiveBack binding list) c = give_back_here binding (list_of list.0 (lists net.things))
  event_here (event.Cancel id) c = here_cancel net id
  event_here (event.Ask binding kind code value) c = by_test Here (is_unbound (state_of net (Binding binding))) _ _ (λ _. tt) (λ _. (tt, tt))
  event_here (event.Status name) c =
      by_test Here (is_halted net.modules.miniport) _ _ (λ _. tt) (λ _. (status_goes net.modules (position net.modules.order Miniport), tt))
  event_here event.Transmit c = transmit_here (first_in_ring net)
  event_here event.Pump c = pump_here c.keeps (agenda_first net) refl
  event_here event.Drain c = by_test Here (is_pump_moving net) _ _ (λ _. pump_here c.keeps (agenda_first net) refl) (λ _. here_drained net)
  event_here event.BeginPause c = begin_every (RowIsHere net.modules) (phases_here net.modules) net
  event_here event.PauseNext c = pause_every (RowIsHere net.modules) (phases_here net.modules) net
  event_here event.RestartNext c = restart_every (RowIsHere net.modules) (phases_here net.modules) net
  event_here event.Halt c = halt_every (RowIsHere net.modules) (phases_here net.modules) net
  event_here event.CrossTake c = take_here (first_uncrossed net)
  event_here (event.CrossPut stack message vlan frames) c =
      by_test Here (phase_is_running net.phase) _ _
      (λ _. by_test Here (list_any (is_too_long_tagged net.head) frames) _ _ (λ _. tt)
      (λ _. by_test Here (is_full net (Binding (mux_binding_for net.head stack))) _ _ (λ _. tt) (λ _. (tt, (tt, (tt, tt))))))
      (λ _. tt)
  event_here (event.CrossDone message status) c = done_here status (find (λ l. is_in_message message.0 l.crossed) (lists net.things))
  event_here (event.CrossTakeUp binding vlan) c = take_up_here (find (is_for binding vlan) net.messages)
  event_here (event.CrossPutUp stack message frames) c =
      by_test Here (is_running net.modules.miniport) _ _
      (λ _. by_test Here (is_full net Miniport) _ _ (λ _. tt) (λ _. (tt, (tt, (tt, tt)))))
      (λ _. tt)
