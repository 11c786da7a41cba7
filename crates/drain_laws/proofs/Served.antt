-- After every sound journal each request waits at a module that takes requests, or is served.
use Rattle.std.proofs.Common.{◌≡◌, ℕ, ◌+◌, ◌==◌, not, Bool, true, false, cond, List, [], ◌∷◌, ◌++◌, Option, Some, None, refl, arith, ap, sym, subst, ◌∙◌, option_map, find, filter, map, length, count_by, replicate, get_or}
use Rattle.std.proofs.lemmas.Bool.Decides.{nat_tests}
use Rattle.std.proofs.lemmas.List.{get_or_past, get_or-replicate, length-replicate}
use Rattle.ndis_base.specs.declared.FilterKind.{FilterKind}
use Rattle.ndis_base.specs.declared.ModuleId.{ModuleId}
use Rattle.ndis_base.specs.declared.ModuleId.TheVariants.{Miniport, Filter, Binding}
use Rattle.ndis_base.specs.declared.ModuleState.{ModuleState}
use Rattle.ndis_base.specs.declared.ModuleState.TheVariants as state
use Rattle.ndis_base.specs.declared.OidKind.{OidKind}
use Rattle.ndis_base.specs.declared.Phase.TheVariants as phase
use Rattle.journal_types.specs.declared.Event.{Event}
use Rattle.journal_types.specs.declared.Event.TheVariants as event
use Rattle.journal_types.specs.declared.PhaseOf.TheVariants as of
use Rattle.journal_types.specs.declared.Reply.{Reply}
use Rattle.journal_types.specs.declared.Reply.TheVariants as reply
use Rattle.journal_types.specs.declared.Row.{Row}
use Rattle.journal_types.specs.declared.Row.TheVariants as row
use Rattle.journal_types.specs.declared.Setup.{Setup}
use Rattle.journal_types.specs.declared.StackHead.{StackHead}
use Rattle.journal_types.specs.declared.Turn.{Turn}
use Rattle.stack_rules.specs.declared.Attached.{Attached}
use Rattle.stack_rules.specs.declared.Choice.{Choice}
use Rattle.stack_rules.specs.declared.Request.{Request}
use Rattle.stack_rules.specs.declared.RequestAt.{RequestAt}
use Rattle.stack_rules.specs.declared.RequestAt.TheVariants as at
use Rattle.stack_rules.specs.declared.Thing.{Thing}
use Rattle.stack_rules.specs.declared.Thing.TheVariants as thing
use Rattle.stack_rules.specs.Tests.{is_unbound, phase_is_halted, phase_is_paused}
use Rattle.stack_rules.specs.Net.{Net, Modules, after, after_rows, after_turn, after_turns, attached, has_oid, is_detached, start, told, with_state, handlers_of}
use Rattle.stack_rules.specs.Outcome.{Outcome, oid_no, max_filters}
use Rattle.stack_rules.specs.Places.{agenda_first, state_of}
use Rattle.stack_rules.specs.Pauses.{binding_ids, state_row, state_rows, initialize_rows, initialize_outcome, live_items, halt_items, halt_rows, halt_outcome}
use Rattle.stack_rules.specs.Pumps.{moved_rows, request_pump, pump_of, is_pump_moving, pump_outcome}
use Rattle.stack_rules.specs.Drains.{drain_rows, drained, drain_outcome}
use Rattle.stack_rules.specs.Requests.{Giving, given_rows_by, giving_rows, is_at_entry, next_giving, ask_outcome}
use Rattle.stack_rules.specs.Rewires.{is_bad_position, is_in, insert_outcome, remove_outcome, replace_outcome}
use Rattle.stack_rules.specs.Statuses.{status_rows}
use Rattle.stack_rules.specs.Sound.{outcome, SoundFrom}
use Rattle.rule_basics.proofs.Counts.{count_by-cons}
use Rattle.state_laws.specs.Shape.{IsShaped}
use Rattle.state_laws.proofs.Rows.{by_test, AreCalm, AreQuiet, is_calm, IsSame, calm_quiet, quiet_rows}
use Rattle.state_laws.proofs.Calm.{is_calm_event, calm_drained, calm_event, calm_moved, calm_status}
use Rattle.state_laws.proofs.Events.{state_after, at_phase, shaped_journal, turn_is, when_halted}
use Rattle.state_laws.proofs.Takes.{attached-with_state}
use Rattle.rule_basics.specs.Live.{EachRequest, EachApart}
use Rattle.request_laws.specs.Requested.{IsRequested}
use Rattle.request_laws.proofs.Givings.{GivesNext, gives_next}
use Rattle.request_laws.proofs.Events.{requested_journal}
use Rattle.request_laws.proofs.Rows.{AreStill, AsksSame, is_still, still_rows}
use Rattle.drain_laws.specs.Serving.{Takes, AreServed, RequestsAreServed}
use Rattle.drain_laws.proofs.Reached.{IsReached, reached_next, of_reached}
use Rattle.drain_laws.proofs.Rests.{is_gentle, AreGentle, IsGentle, begin_gentle, pause_gentle, restart_gentle}
use Rattle.drain_laws.proofs.Serving.{served_same, entry_served, ask_served, answer_served, giving_served}
use Rattle.drain_laws.proofs.Tests.{not_both}

-- each request waits or is served, and a halted stack has none
pub record IsServing (net : Net) : Type 0 where
  pub served : AreServed net
  pub halted : net.phase ≡ phase.Halted → net.requests ≡ []

-- rows that tell nothing of requests, and leave the modules
serving_same : (net next : Net) → AsksSame net next → ((m : ModuleId) → Takes net.modules m → Takes next.modules m) → IsServing net → IsServing next
serving_same net next s t h = record { served = served_same net next s t h.served; halted = λ e. s.requests ∙ h.halted (s.phase e) }

takes_by : (ms other : Modules) → other ≡ ms → (m : ModuleId) → Takes ms m → Takes other m
takes_by ms other e m h = subst (λ (x : Modules). Takes x m) (sym e) h

calm_one : (r : Row) → is_calm r ≡ true → is_still r ≡ true
calm_one (row.Phase of) h = cc
calm_one (row.Config config filters) h = cc
calm_one (row.OidIssue request parent binding kind code value) h = cc
calm_one (row.OidGive request m) h = cc
calm_one (row.OidDone request status value) h = cc
calm_one _ h = refl

calm_still : (rows : List Row) → AreCalm rows → AreStill rows
calm_still [] h = tt
calm_still (r ∷ rows) h = (calm_one r h.0, calm_still rows h.1)

calm_rows : (net : Net) (rows : List Row) → AreCalm rows → IsServing net → IsServing (after_rows net rows)
calm_rows net rows c h =
    let same : IsSame net (after_rows net rows) = quiet_rows net rows (calm_quiet rows c) in
    serving_same net (after_rows net rows) (still_rows net rows (calm_still rows c)) (takes_by net.modules (after_rows net rows).modules same.modules) h

told_serving : (net : Net) (e : Event) (r : Reply) → is_calm_event e ≡ true → IsServing net → IsServing (told net e r)
told_serving net (event.CrossTakeUp binding vlan) (reply.Taken message frames) p h = record { served = h.served; halted = h.halted }
told_serving net (event.Insert kind position setup) r p h = cc
told_serving net (event.Replace old kind setup) r p h = cc
told_serving net e r p h = h

calm_serving : (net : Net) (e : Event) (c : Choice) → is_calm_event e ≡ true → IsServing net → IsServing (state_after net e (outcome net e c))
calm_serving net e c p h =
    let o : Outcome = outcome net e c in
    calm_rows (told net e o.reply) o.rows (calm_event net e c p) (told_serving net e o.reply p h)

-- modules take states
gentle_one : (r : Row) → is_gentle r ≡ true → is_still r ≡ true
gentle_one (row.Phase (of.Module m s)) h = refl
gentle_one (row.Phase (of.Stack p)) h = h
gentle_one _ h = cc

gentle_still : (rows : List Row) → AreGentle rows → AreStill rows
gentle_still [] h = tt
gentle_still (r ∷ rows) h = (gentle_one r h.0, gentle_still rows h.1)

same_pair : (f : ℕ) (s : ModuleState) (o : Option Attached) → (handlers_of (option_map (with_state f s) o)).oid ≡ (handlers_of o).oid
same_pair f s None = refl
same_pair f s (Some a) = elim (a.filter == f) as (λ b. (handlers_of (Some (cond b (record a { state = s }) a))).oid ≡ (handlers_of (Some a)).oid) [ true ↦ refl | false ↦ refl ]

gentle_oid : (net : Net) (r : Row) → is_gentle r ≡ true → (f : ℕ) → has_oid (after net r).modules f ≡ has_oid net.modules f
gentle_oid net (row.Phase (of.Module Miniport s)) g f = refl
gentle_oid net (row.Phase (of.Module (Binding b) s)) g f = refl
gentle_oid net (row.Phase (of.Module (Filter k) s)) g f =
    let entries : List Attached = net.modules.filters in
    let stays : is_detached s ≡ false = off (is_detached s) g in
    ap (λ b. (handlers_of (attached f (cond b (filter (λ a. not (a.filter == k)) entries) (map (with_state k s) entries)))).oid) stays
    ∙ ap (λ o. (handlers_of o).oid) (attached-with_state f k s entries)
    ∙ same_pair k s (attached f entries)
  where
    off : (b : Bool) → not b ≡ true → b ≡ false
    off true e = cc
    off false e = refl
gentle_oid net (row.Phase (of.Stack p)) g f = refl
gentle_oid net _ g f = cc

gentle_oids : (net : Net) (rows : List Row) → AreGentle rows → (f : ℕ) → has_oid (after_rows net rows).modules f ≡ has_oid net.modules f
gentle_oids net [] g f = refl
gentle_oids net (r ∷ rows) g f = gentle_oids (after net r) rows g.1 f ∙ gentle_oid net r g.0 f

gentle_serving : (net : Net) (o : Outcome) → IsGentle o → IsServing net → IsServing (after_rows net o.rows)
gentle_serving net o g h =
    let same : AsksSame net (after_rows net o.rows) = still_rows net o.rows (gentle_still o.rows g) in
    serving_same net (after_rows net o.rows) same (λ m t. takes same.order m t) h
  where
    takes : (after_rows net o.rows).modules.order ≡ net.modules.order → (m : ModuleId) → Takes net.modules m → Takes (after_rows net o.rows).modules m
    takes e Miniport t = tt
    takes e (Filter f) t = (ap (is_in f) e ∙ t.0, gentle_oids net o.rows g f ∙ t.1)
    takes e (Binding b) t = t

-- a stack with no request
none_serving : (next : Net) → next.requests ≡ [] → IsServing next
none_serving next e = record { served = entry_served next [] e tt; halted = λ _. e }

-- all requests are at the entry
is_zero : (n : ℕ) → (n == 0) ≡ true → n ≡ 0
is_zero n h = grind (arith, nat_tests)

entry_is : (a : RequestAt) → not (is_at_entry a) ≡ false → a ≡ at.Entry
entry_is at.Entry h = refl
entry_is (at.Waiting m) h = cc
entry_is (at.Given m) h = cc

all_at_entry : (rs : List Request) → count_by (λ (r : Request). not (is_at_entry r.at)) rs ≡ 0 → EachRequest (λ r. r.at ≡ at.Entry) rs
all_at_entry [] h = tt
all_at_entry (r ∷ rs) h =
    let whole = count_by-cons (λ (r : Request). not (is_at_entry r.at)) r rs in
    let cases : (b : Bool) → not (is_at_entry r.at) ≡ b → count_by (λ (r : Request). not (is_at_entry r.at)) (r ∷ rs) ≡ cond b 1 0 + count_by (λ (r : Request). not (is_at_entry r.at)) rs → EachRequest (λ r. r.at ≡ at.Entry) (r ∷ rs) = elim [
      | true ↦ λ t w. absurd (omega (arith, h, w))
      | false ↦ λ t w. (entry_is r.at t, all_at_entry rs (omega (arith, h, w)))
    ] in
    cases (not (is_at_entry r.at)) refl whole

entry_serving : (net next : Net) → next.requests ≡ net.requests → next.phase ≡ net.phase → (live_items net == 0) ≡ true → IsServing net → IsServing next
entry_serving net next e p t h =
    let none = is_zero (live_items net) t in
    record { served = entry_served next net.requests e (all_at_entry net.requests (omega (arith, none))); halted = λ i. e ∙ h.halted (sym p ∙ i) }

-- rows of states leave the requests
abbrev is_state_row : Row → Bool
is_state_row (row.Phase of) = true
is_state_row (row.Config config filters) = true
is_state_row _ = false

abbrev AreStateRows : List Row → Type 0
AreStateRows [] = Unit {0}
AreStateRows (r ∷ rows) = (is_state_row r ≡ true) × AreStateRows rows

state_requests : (net : Net) (r : Row) → is_state_row r ≡ true → (after net r).requests ≡ net.requests
state_requests net (row.Phase (of.Module m s)) h = refl
state_requests net (row.Phase (of.Stack p)) h = refl
state_requests net (row.Config config filters) h = refl
state_requests net _ h = cc

states_requests : (net : Net) (rows : List Row) → AreStateRows rows → (after_rows net rows).requests ≡ net.requests
states_requests net [] h = refl
states_requests net (r ∷ rows) h = states_requests (after net r) rows h.1 ∙ state_requests net r h.0

states-append : (xs ys : List Row) → AreStateRows xs → AreStateRows ys → AreStateRows (xs ++ ys)
states-append [] ys p q = q
states-append (x ∷ xs) ys p q = (p.0, states-append xs ys p.1 q)

each_state : (ss : List ModuleState) (m : ModuleId) → AreStateRows (map (λ s. state_row s m) ss)
each_state [] m = tt
each_state (s ∷ ss) m = (refl, each_state ss m)

all_states : (ss : List ModuleState) (ms : List ModuleId) → AreStateRows (state_rows ss ms)
all_states ss [] = tt
all_states ss (m ∷ ms) = states-append (map (λ s. state_row s m) ss) (state_rows ss ms) (each_state ss m) (all_states ss ms)

initialize_serving : (net : Net) (refuses : Bool) → IsServing net → IsServing (state_after net event.Initialize (initialize_outcome net refuses))
initialize_serving net refuses h =
    let K : Outcome → Type 0 = λ o. IsServing (state_after net event.Initialize o) in
    by_test K (phase_is_halted net.phase) _ _
    (λ t. by_test K refuses _ _ (λ _. h)
    (λ _. none_serving (after_rows net (initialize_rows net))
    (states_requests net (initialize_rows net) (refl, states-append (state_rows (state.Opening ∷ state.Paused ∷ []) (binding_ids 0 net.modules.bindings)) _ (all_states (state.Opening ∷ state.Paused ∷ []) (binding_ids 0 net.modules.bindings)) (refl, (refl, tt)))
    ∙ h.halted (when_halted net.phase t))))
    (λ _. h)

no_requests : (rs : List Request) → length rs ≡ 0 → rs ≡ []
no_requests [] h = refl
no_requests (r ∷ rs) h = absurd (omega (arith, h))

halt_serving : (net : Net) → IsServing net → IsServing (state_after net event.Halt (halt_outcome net))
halt_serving net h =
    let K : Outcome → Type 0 = λ o. IsServing (state_after net event.Halt o) in
    by_test K (phase_is_paused net.phase) _ _
    (λ _. by_test K (halt_items net == 0) _ _
    (λ t. let none = is_zero (halt_items net) t in
    none_serving (after_rows net (halt_rows net))
    (states_requests net (halt_rows net) (states-append (state_rows (state.Closing ∷ state.Unbound ∷ []) (binding_ids 0 net.modules.bindings)) _ (all_states (state.Closing ∷ state.Unbound ∷ []) (binding_ids 0 net.modules.bindings))
    (states-append (state_rows (state.Detached ∷ []) (map Filter net.modules.order)) _ (all_states (state.Detached ∷ []) (map Filter net.modules.order)) (refl, (refl, tt))))
    ∙ no_requests net.requests (omega (arith, none))))
    (λ _. h))
    (λ _. h)

insert_serving : (net : Net) (kind : FilterKind) (position : ℕ) (setup : Setup) (c : Choice) → IsServing net → IsServing (state_after net (event.Insert kind position setup) (insert_outcome net position c))
insert_serving net kind position setup c h =
    let K : Outcome → Type 0 = λ o. IsServing (state_after net (event.Insert kind position setup) o) in
    by_test K (phase_is_paused net.phase) _ _
    (λ _. by_test K (live_items net == 0) _ _
    (λ t. by_test K (length net.modules.order == max_filters net.head) _ _ (λ _. h)
    (λ _. by_test K (is_bad_position net position) _ _ (λ _. h)
    (λ _. by_test K c.shelf_empty _ _ (λ _. h)
    (λ _. by_test K c.refuses _ _ (λ _. h) (λ _. entry_serving net _ refl refl t h)))))
    (λ _. h))
    (λ _. h)

remove_serving : (net : Net) (f : ℕ) → IsServing net → IsServing (state_after net (event.Remove f) (remove_outcome net f))
remove_serving net f h =
    let K : Outcome → Type 0 = λ o. IsServing (state_after net (event.Remove f) o) in
    by_test K (phase_is_paused net.phase) _ _
    (λ _. by_test K (live_items net == 0) _ _
    (λ t. by_test K (is_in f net.modules.order) _ _ (λ _. entry_serving net _ refl refl t h) (λ _. h))
    (λ _. h))
    (λ _. h)

replace_serving : (net : Net) (old : ℕ) (kind : FilterKind) (setup : Setup) (c : Choice) → IsServing net → IsServing (state_after net (event.Replace old kind setup) (replace_outcome net old c))
replace_serving net old kind setup c h =
    let K : Outcome → Type 0 = λ o. IsServing (state_after net (event.Replace old kind setup) o) in
    by_test K (phase_is_paused net.phase) _ _
    (λ _. by_test K (live_items net == 0) _ _
    (λ t. by_test K (is_in old net.modules.order) _ _
    (λ _. by_test K c.shelf_empty _ _ (λ _. h)
    (λ _. by_test K c.refuses _ _ (λ _. h) (λ _. entry_serving net _ refl refl t h)))
    (λ _. h))
    (λ _. h))
    (λ _. h)

-- a halted stack is asked nothing, since no binding is bound
all_unbound : (many b : ℕ) → get_or (replicate many state.Unbound) b state.Unbound ≡ state.Unbound
all_unbound many b = grind (arith, get_or-replicate many b state.Unbound state.Unbound, get_or_past (replicate many state.Unbound) b state.Unbound, length-replicate many state.Unbound)

ask_serving : (net : Net) (s : IsShaped net) (binding : ℕ) (kind : OidKind) (code : ℕ) (value : List ℕ) → IsServing net → IsServing (after_rows net (ask_outcome net binding kind code value).rows)
ask_serving net s binding kind code value h =
    by_test (λ (o : Outcome). IsServing (after_rows net o.rows)) (is_unbound (state_of net (Binding binding))) _ _ (λ _. h)
    (λ t. record {
      served = ask_served net (oid_no net.next.request) binding kind code value h.served;
      halted = λ e.
          let f = at_phase net phase.Halted s e in
          let unbound : state_of net (Binding binding) ≡ state.Unbound = ap (λ states. get_or states binding state.Unbound) f.0.bindings ∙ all_unbound (length net.head.bindings) binding in
          let same : is_unbound (state_of net (Binding binding)) ≡ true = ap is_unbound unbound in
          absurd (not_both (is_unbound (state_of net (Binding binding))) same t);
    })

-- a pump
module _ (net : Net) (a : EachApart net.requests) (h : IsServing net) where
  request_serving : (o : Option Giving) → next_giving net ≡ o → IsServing (after_rows net (request_pump net o).rows)
  request_serving None e = h
  request_serving (Some g) e =
      let n : GivesNext net g = gives_next net g e in
      let next : Net = after_rows net (giving_rows net g) in
      record { served = giving_served net g a n h.served; halted = λ i. absurd (some n.test net.requests (h.halted (sym (same g).phase ∙ i)) n.found) }
    where
      some : (test : Request → Bool) (rs : List Request) → rs ≡ [] → find test rs ≡ Some g.request → ⊥
      some test [] e f = cc
      some test (r ∷ rs) e f = cc

      given : (m : ModuleId) (r : Request) → AreQuiet (given_rows_by net r m)
      given Miniport r = (refl, tt)
      given (Filter f) r = (refl, tt)
      given (Binding b) r = tt

      same : (g : Giving) → IsSame net (after_rows net (giving_rows net g))
      same g = quiet_rows net (giving_rows net g) (refl, given g.module_id g.request)

  pump_of_serving : (keeps : Bool) (o : Option Thing) → agenda_first net ≡ o → IsServing (after_rows net (pump_of net keeps o).rows)
  pump_of_serving keeps None e = request_serving (next_giving net) refl
  pump_of_serving keeps (Some (thing.List l)) e = calm_rows net (moved_rows net l l.stand keeps) (calm_moved net l l.stand keeps) h
  pump_of_serving keeps (Some (thing.Status s)) e = calm_rows net (status_rows net s.number s.name s.to) (calm_status net s.number s.name s.to) h
  pump_of_serving keeps (Some (thing.Answer x)) e = record {
    served = answer_served net x.parent x.status x.value a h.served;
    halted = λ i. ap (λ rs. filter (λ (r : Request). not (r.request.0 == x.parent.0)) rs) (h.halted i);
  }

  pump_serving : (keeps : Bool) → IsServing (after_rows net (pump_outcome net keeps).rows)
  pump_serving keeps = pump_of_serving keeps (agenda_first net) refl

  drain_serving : (keeps : Bool) → IsServing (after_rows net (drain_outcome net keeps).rows)
  drain_serving keeps =
      by_test (λ (o : Outcome). IsServing (after_rows net o.rows)) (is_pump_moving net) _ _ (λ _. pump_serving keeps)
      (λ _. calm_rows net (drained (drain_rows net)).rows (calm_drained net) h)

event_serving : (net : Net) (s : IsShaped net) (a : EachApart net.requests) (e : Event) (c : Choice) → IsServing net → IsServing (state_after net e (outcome net e c))
event_serving net s a event.Initialize c h = initialize_serving net c.refuses h
event_serving net s a (event.Insert kind position setup) c h = insert_serving net kind position setup c h
event_serving net s a (event.Remove f) c h = remove_serving net f h
event_serving net s a (event.Replace old kind setup) c h = replace_serving net old kind setup c h
event_serving net s a event.BeginPause c h = gentle_serving net (outcome net event.BeginPause c) (begin_gentle net) h
event_serving net s a event.PauseNext c h = gentle_serving net (outcome net event.PauseNext c) (pause_gentle net) h
event_serving net s a event.RestartNext c h = gentle_serving net (outcome net event.RestartNext c) (restart_gentle net) h
event_serving net s a event.Halt c h = halt_serving net h
event_serving net s a (event.Ask binding kind code value) c h = ask_serving net s binding kind code value h
event_serving net s a event.Pump c h = pump_serving net a h c.keeps
event_serving net s a event.Drain c h = drain_serving net a h c.keeps
event_serving net s a e c h = calm_serving net e c refl h

serving_turns : (head : StackHead) (net : Net) (turns : List Turn) → IsReached head net → IsServing net → SoundFrom net turns → IsServing (after_turns net turns)
serving_turns head net [] r h s = h
serving_turns head net (turn ∷ turns) r h s =
    let asked : IsRequested net = of_reached IsRequested head net r (requested_journal head) in
    let shape : IsShaped net = of_reached IsShaped head net r (shaped_journal head) in
    let next : IsServing (after_turn net turn) = subst IsServing (sym (turn_is net turn s.0)) (event_serving net shape asked.apart turn.event s.0.choice h) in
    serving_turns head (after_turn net turn) turns (reached_next head net turn r s.0) next s.1

pub requests_served : RequestsAreServed
requests_served head turns s = (serving_turns head (start head) turns (record { turns = []; sound = tt; is = refl }) (record { served = tt; halted = λ e. refl }) s).served
