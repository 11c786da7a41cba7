-- While a stack is Halted nothing is there, and most events write nothing.
use Rattle.std.proofs.Common.{◌≡◌, ℕ, ◌==◌, ◌||◌, ◌⊎◌, inl, inr, Bool, true, false, List, [], ◌∷◌, ◌++◌, Option, Some, None, length, count_by, map, refl, arith, ap, sym, subst, ◌∙◌}
use Rattle.std.specs.List.{flat_map}
use Rattle.ndis_base.specs.declared.ModuleId.{ModuleId}
use Rattle.ndis_base.specs.declared.ModuleId.TheVariants.{Binding}
use Rattle.ndis_base.specs.declared.ModuleState.{ModuleState}
use Rattle.ndis_base.specs.declared.ModuleState.TheVariants as state
use Rattle.ndis_base.specs.declared.Phase.{Phase}
use Rattle.ndis_base.specs.declared.Phase.TheVariants as phase
use Rattle.journal_types.specs.declared.Event.{Event}
use Rattle.journal_types.specs.declared.Event.TheVariants as event
use Rattle.journal_types.specs.declared.PhaseOf.TheVariants as of
use Rattle.journal_types.specs.declared.Reply.{Reply}
use Rattle.journal_types.specs.declared.Reply.TheVariants as reply
use Rattle.journal_types.specs.declared.Row.{Row}
use Rattle.journal_types.specs.declared.Row.TheVariants as row
use Rattle.journal_types.specs.declared.StackHead.{StackHead}
use Rattle.journal_types.specs.declared.Turn.{Turn}
use Rattle.stack_rules.specs.declared.Answered.{Answered}
use Rattle.stack_rules.specs.declared.Choice.{Choice}
use Rattle.stack_rules.specs.declared.Message.{Message}
use Rattle.stack_rules.specs.declared.Request.{Request}
use Rattle.stack_rules.specs.declared.Thing.{Thing}
use Rattle.stack_rules.specs.declared.Thing.TheVariants as thing
use Rattle.stack_rules.specs.Tests.{is_retain, is_unbound, is_virtual, phase_is_halted, phase_is_paused, phase_is_pausing, phase_is_restarting, phase_is_running}
use Rattle.stack_rules.specs.Heads.{binding_numbers, kind_of_binding}
use Rattle.stack_rules.specs.Net.{Net, start, told, after_rows, after_turn, after_turns, seen, lists, request_of}
use Rattle.stack_rules.specs.Outcome.{Outcome, answered, max_filters}
use Rattle.stack_rules.specs.Places.{outstanding, state_of}
use Rattle.stack_rules.specs.Cancels.{cancel_rows_at, is_hold_filter, queues}
use Rattle.stack_rules.specs.Crosses.{take_of, take_up_of}
use Rattle.stack_rules.specs.Drains.{returns_all, passes_all, empties_ring, drain_rows, drained, drain_outcome}
use Rattle.stack_rules.specs.Pauses.{binding_ids, state_rows, is_status_thing, live_items, halt_items, paused_reply, paused_rows, first_unpaused, restart_at, restart_rows, running_floors}
use Rattle.stack_rules.specs.Pumps.{request_pump, is_pump_moving, pump_outcome}
use Rattle.stack_rules.specs.Requests.{lowest_giving, oid_modules, or_else}
use Rattle.stack_rules.specs.Rewires.{is_in, is_bad_position}
use Rattle.stack_rules.specs.Sends.{transmit_of}
use Rattle.stack_rules.specs.Sound.{outcome, Next, SoundFrom, Sound}
use Rattle.rule_basics.proofs.Counts.{count_by-cons}
use Rattle.state_laws.proofs.Rows.{by_test, IsSame}
use Rattle.state_laws.proofs.Calm.{All-append, All-map, first_of_all}
use Rattle.state_laws.proofs.Quiet.{is_plain}
use Rattle.state_laws.proofs.Events.{state_after, at_phase, when_halted, when_paused, event_kept, plain_same, turn_is}
use Rattle.pause_laws.specs.Clear.{IsHeld}
use Rattle.pause_laws.proofs.Fronts.{none_live}
use Rattle.pause_laws.proofs.Turns.{event_held, held_journal}
use Rattle.request_laws.proofs.Asked.{HasHolder, none_some, Each}
use Rattle.request_laws.proofs.Answers as answers
use Rattle.request_laws.proofs.Rows.{found_in, IsKept, AreStill, still_rows, kept_start}
use Rattle.request_laws.proofs.Phases.{state_rows_still, paused_still, restart_still, is_zero, no_requests}
use Rattle.request_laws.proofs.Events.{event_asks}

-- a stack that is Halted, with nothing kept, on its way or asked
pub record HasNothing (net : Net) : Type 0 where
  pub halted : net.phase ≡ phase.Halted
  pub miniport : net.modules.miniport ≡ state.Halted
  pub things : net.things ≡ []
  pub requests : net.requests ≡ []

-- the state with nothing in it
abbrev emptied : Net → Net
emptied net = record net { phase = phase.Halted; modules = record net.modules { miniport = state.Halted }; things = []; requests = [] }

emptied_is : (net : Net) → HasNothing net → emptied net ≡ net
emptied_is net h =
    let of_parts : Phase → ModuleState → List Thing → List Request → Net = λ p m ts rs. record net { phase = p; modules = record net.modules { miniport = m }; things = ts; requests = rs } in
    ap (λ p. of_parts p state.Halted [] []) (sym h.halted)
    ∙ ap (λ m. of_parts net.phase m [] []) (sym h.miniport)
    ∙ ap (λ ts. of_parts net.phase net.modules.miniport ts []) (sym h.things)
    ∙ ap (λ rs. of_parts net.phase net.modules.miniport net.things rs) (sym h.requests)

-- without requests none is given
no_giving : (ms : List ModuleId) → lowest_giving [] ms ≡ None
no_giving [] = refl
no_giving (m ∷ ms) = no_giving ms

-- a pump finds nothing
pump_idle : (net : Net) (keeps : Bool) → pump_outcome (emptied net) keeps ≡ answered reply.Idle
pump_idle net keeps = ap (λ o. request_pump (emptied net) (or_else o None)) (no_giving (oid_modules (emptied net).modules))

-- nor does a drain
no_drains : (net : Net) → drain_rows (emptied net) ≡ []
no_drains net =
    let now : Net = emptied net in
    let Nothing : List Row → Type 0 = λ rows. rows ≡ [] in
    first_of_all Nothing refl (map (returns_all now) (binding_numbers now.head) ++ (map (passes_all now) now.modules.order ++ empties_ring now ∷ []))
    (All-append Nothing (map (returns_all now) (binding_numbers now.head)) _ (All-map Nothing (returns_all now) (binding_numbers now.head) (λ b. by_test Nothing (is_retain (kind_of_binding now.head b)) [] [] (λ _. refl) (λ _. refl)))
    (All-append Nothing (map (passes_all now) now.modules.order) _ (All-map Nothing (passes_all now) now.modules.order (λ f. by_test Nothing (is_hold_filter now.modules f) [] [] (λ _. refl) (λ _. refl))) (refl, tt)))

drain_idle : (net : Net) (keeps : Bool) → drain_outcome (emptied net) keeps ≡ answered reply.Idle
drain_idle net keeps = by_test (λ o. o ≡ answered reply.Idle) (is_pump_moving (emptied net)) (pump_outcome (emptied net) keeps) (drained (drain_rows (emptied net))) (λ _. pump_idle net keeps) (λ _. ap drained (no_drains net))

-- a cancel finds no list
no_cancels : (net : Net) (id : ℕ) (ms : List ModuleId) → flat_map (cancel_rows_at (emptied net) id) ms ≡ []
no_cancels net id [] = refl
no_cancels net id (m ∷ ms) = no_cancels net id ms

-- the events that write nothing while the stack is Halted
abbrev pub is_silent : Event → Bool
is_silent (event.Ask binding kind code value) = false
is_silent (event.CrossTakeUp binding vlan) = false
is_silent e = is_plain e

-- the event writes no row
abbrev WritesNone : Outcome → Type 0
WritesNone o = o.rows ≡ []

-- such events write nothing, one by one
emptied_silent : (net : Net) (e : Event) (c : Choice) → is_silent e ≡ true → WritesNone (outcome (emptied net) e c)
emptied_silent net (event.Send binding cancel frames) c q = refl
emptied_silent net (event.Indicate frames) c q = refl
emptied_silent net (event.Lend frames) c q = refl
emptied_silent net (event.GiveBack binding list) c q = refl
emptied_silent net (event.Cancel id) c q = no_cancels net id (queues (emptied net).modules)
emptied_silent net (event.Status name) c q = refl
emptied_silent net event.Transmit c q = by_test (λ o. WritesNone (transmit_of (emptied net) o)) (is_virtual net.head.kind) None None (λ _. refl) (λ _. refl)
emptied_silent net event.Pump c q = ap (λ (o : Outcome). o.rows) (pump_idle net c.keeps)
emptied_silent net event.Drain c q = ap (λ (o : Outcome). o.rows) (drain_idle net c.keeps)
emptied_silent net event.CrossTake c q = by_test (λ o. WritesNone (take_of (emptied net) o)) (is_virtual net.head.kind) None None (λ _. refl) (λ _. refl)
emptied_silent net (event.CrossPut stack message vlan frames) c q = refl
emptied_silent net (event.CrossDone message status) c q = refl
emptied_silent net (event.CrossPutUp stack message frames) c q = refl
emptied_silent net e c q = cc

silent_writes : (net : Net) (e : Event) (c : Choice) → HasNothing net → is_silent e ≡ true → WritesNone (outcome net e c)
silent_writes net e c h q = subst (λ n. WritesNone (outcome n e c)) (emptied_is net h) (emptied_silent net e c q)

-- nor do they tell anything beside their rows
silent_tells : (net : Net) (e : Event) (r : Reply) → is_silent e ≡ true → told net e r ≡ net
silent_tells net (event.Insert kind position setup) r q = cc
silent_tells net (event.Replace old kind setup) r q = cc
silent_tells net (event.CrossTakeUp binding vlan) r q = cc
silent_tells net e r q = refl

-- such an event changes nothing
silent_after : (net : Net) (e : Event) (r : Reply) (rows : List Row) → is_silent e ≡ true → rows ≡ [] → after_rows (told net e r) rows ≡ net
silent_after net e r rows q w = ap (after_rows (told net e r)) w ∙ silent_tells net e r q

-- a message that is taken up
take_up_things : (net : Net) (binding vlan : ℕ) (o : Option Message) → (state_after net (event.CrossTakeUp binding vlan) (take_up_of net o)).things ≡ net.things
take_up_things net binding vlan None = refl
take_up_things net binding vlan (Some m) = refl

-- and so nothing comes to be kept or on its way
plain_things : (net : Net) (e : Event) (c : Choice) → is_plain e ≡ true → HasNothing net → (state_after net e (outcome net e c)).things ≡ []
plain_things net (event.Ask binding kind code value) c p h =
    by_test (λ o. (state_after net (event.Ask binding kind code value) o).things ≡ []) (is_unbound (state_of net (Binding binding))) _ _ (λ _. h.things) (λ _. h.things)
plain_things net (event.CrossTakeUp binding vlan) c p h = take_up_things net binding vlan _ ∙ h.things
plain_things net e c p h = ap (λ (n : Net). n.things) (silent_after net e (outcome net e c).reply (outcome net e c).rows p (silent_writes net e c h p)) ∙ h.things

-- a stack is halted by a halt alone, where nothing is on its way or asked
abbrev ComesFrom : Net → Event → Outcome → Type 0
ComesFrom net e o = (state_after net e o).phase ≡ phase.Halted → (net.phase ≡ phase.Halted) ⊎ ((net.phase ≡ phase.Paused) × (halt_items net ≡ 0))

-- rows without a halt
still_from : (net : Net) (e : Event) (r : Reply) (rows : List Row) → ((r : Reply) → told net e r ≡ net) → AreStill rows → ComesFrom net e (record { reply = r; rows = rows })
still_from net e r rows t s h = inl ((still_rows net rows s).phase (sym (ap (λ (n : Net). (after_rows n rows).phase) (t r)) ∙ h))

-- one event after the other
halt_from : (net : Net) (e : Event) (c : Choice) → is_plain e ≡ false → ComesFrom net e (outcome net e c)
halt_from net event.Initialize c p = by_test (ComesFrom net event.Initialize) (phase_is_halted net.phase) _ _ (λ t h. inl (when_halted net.phase t)) (λ _ h. inl h)
halt_from net (event.Insert kind position setup) c p =
    let K : Outcome → Type 0 = ComesFrom net (event.Insert kind position setup) in
    by_test K (phase_is_paused net.phase) _ _
    (λ _. by_test K (live_items net == 0) _ _
    (λ _. by_test K (length net.modules.order == max_filters net.head) _ _ (λ _ h. inl h)
    (λ _. by_test K (is_bad_position net position) _ _ (λ _ h. inl h)
    (λ _. by_test K c.shelf_empty _ _ (λ _ h. inl h)
    (λ _. by_test K c.refuses _ _ (λ _ h. inl h) (λ _ h. inl h)))))
    (λ _ h. inl h))
    (λ _ h. inl h)
halt_from net (event.Remove filter) c p =
    let K : Outcome → Type 0 = ComesFrom net (event.Remove filter) in
    by_test K (phase_is_paused net.phase) _ _
    (λ _. by_test K (live_items net == 0) _ _ (λ _. by_test K (is_in filter net.modules.order) _ _ (λ _ h. inl h) (λ _ h. inl h)) (λ _ h. inl h))
    (λ _ h. inl h)
halt_from net (event.Replace old kind setup) c p =
    let K : Outcome → Type 0 = ComesFrom net (event.Replace old kind setup) in
    by_test K (phase_is_paused net.phase) _ _
    (λ _. by_test K (live_items net == 0) _ _
    (λ _. by_test K (is_in old net.modules.order) _ _
    (λ _. by_test K c.shelf_empty _ _ (λ _ h. inl h) (λ _. by_test K c.refuses _ _ (λ _ h. inl h) (λ _ h. inl h)))
    (λ _ h. inl h))
    (λ _ h. inl h))
    (λ _ h. inl h)
halt_from net event.BeginPause c p =
    by_test (ComesFrom net event.BeginPause) (phase_is_running net.phase) _ _
    (λ _. still_from net event.BeginPause reply.Ok (row.Phase (of.Stack phase.Pausing) ∷ state_rows (state.Pausing ∷ []) (binding_ids 0 net.modules.bindings)) (λ r. refl) (refl, state_rows_still (state.Pausing ∷ []) (binding_ids 0 net.modules.bindings)))
    (λ _ h. inl h)
halt_from net event.PauseNext c p =
    let K : Outcome → Type 0 = ComesFrom net event.PauseNext in
    by_test K (phase_is_pausing net.phase) _ _
    (λ _. by_test K (outstanding net (first_unpaused net) == 0) _ _
    (λ _. still_from net event.PauseNext (paused_reply net (first_unpaused net)) (paused_rows net (first_unpaused net)) (λ r. refl) (paused_still net (first_unpaused net))) (λ _ h. inl h))
    (λ _ h. inl h)
halt_from net event.RestartNext c p =
    by_test (ComesFrom net event.RestartNext) (phase_is_paused net.phase || phase_is_restarting net.phase) _ _
    (λ _. still_from net event.RestartNext (restart_at net (running_floors net)).reply (restart_rows net (running_floors net)) (λ r. refl) (restart_still net (running_floors net)))
    (λ _ h. inl h)
halt_from net event.Halt c p =
    let K : Outcome → Type 0 = ComesFrom net event.Halt in
    by_test K (phase_is_paused net.phase) _ _
    (λ t. by_test K (halt_items net == 0) _ _ (λ z h. inr (when_paused net.phase t, is_zero (halt_items net) z)) (λ _ h. inl h))
    (λ _ h. inl h)
halt_from net e c p = cc

-- no list, no status and no answer is nothing
no_things : (ts : List Thing) → lists ts ≡ [] → count_by is_status_thing ts ≡ 0 → answers.answered ts ≡ [] → ts ≡ []
no_things [] l s a = refl
no_things (thing.List x ∷ ts) l s a = cc
no_things (thing.Status x ∷ ts) l s a = let whole = count_by-cons is_status_thing (thing.Status x) ts in absurd (omega (arith, whole, s))
no_things (thing.Answer x ∷ ts) l s a = cc

-- without requests there are no answers
no_answers : (order : List ℕ) (found : ℕ → Option Request) (given : List Answered) → ((n : ℕ) → found n ≡ None) → Each (λ a. HasHolder order found a.parent.0) given → given ≡ []
no_answers order found [] n h = refl
no_answers order found (a ∷ others) n h = absurd (none_some h.0.1.request (sym (n a.parent.0) ∙ h.0.1.here))

-- what is kept of the state, turn by turn
record IsStanding (net : Net) : Type 0 where
  held : IsHeld net
  asked : IsKept net
  empty : net.phase ≡ phase.Halted → net.things ≡ []

-- what is kept says that a Halted stack has nothing
nothing_of : (net : Net) → IsStanding net → net.phase ≡ phase.Halted → HasNothing net
nothing_of net s h = record { halted = h; miniport = (at_phase net phase.Halted s.held.shape h).0.miniport; things = s.empty h; requests = s.asked.halted h }

-- a Paused stack that may be halted has no things
paused_things : (net : Net) → IsStanding net → net.phase ≡ phase.Paused → halt_items net ≡ 0 → net.things ≡ []
paused_things net s h z =
    let none : net.requests ≡ [] = no_requests net.requests (omega (arith, z)) in
    no_things net.things (none_live net.modules s.held.shape.front (lists net.things) (at_phase net phase.Paused s.held.shape h).1.1 s.held.clear.each) (omega (arith, z))
    (no_answers net.modules.order (found_in net) (answers.answered net.things) (λ n. ap (request_of n) none) s.asked.asked.held)

-- each event keeps a Halted stack empty
event_things : (net : Net) (e : Event) (c : Choice) → IsStanding net → (state_after net e (outcome net e c)).phase ≡ phase.Halted → (state_after net e (outcome net e c)).things ≡ []
event_things net e c s h = cases (is_plain e) refl
  where
    from : (net.phase ≡ phase.Halted) ⊎ ((net.phase ≡ phase.Paused) × (halt_items net ≡ 0)) → net.things ≡ []
    from (inl halted) = s.empty halted
    from (inr paused) = paused_things net s paused.0 paused.1

    cases : (b : Bool) → is_plain e ≡ b → (state_after net e (outcome net e c)).things ≡ []
    cases true p = let same : IsSame net (state_after net e (outcome net e c)) = plain_same net e c p in plain_things net e c p (nothing_of net s (sym same.phase ∙ h))
    cases false p = (event_kept net s.held.shape e c p).things ∙ from (halt_from net e c p h)

standing_turns : (net : Net) (turns : List Turn) → IsStanding net → SoundFrom net turns → IsStanding (after_turns net turns)
standing_turns net [] s n = s
standing_turns net (turn ∷ turns) s n =
    let next : Net = state_after net turn.event (outcome net turn.event n.0.choice) in
    let stands : IsStanding next = record {
      held = event_held net turn.event n.0.choice s.held;
      asked = event_asks net s.held.shape turn.event n.0.choice s.asked;
      empty = event_things net turn.event n.0.choice s;
    } in
    standing_turns (after_turn net turn) turns (subst IsStanding (sym (turn_is net turn n.0)) stands) n.1

standing_start : (head : StackHead) → IsStanding (start head)
standing_start head = record { held = held_journal head [] tt; asked = kept_start head; empty = λ h. refl }

-- after a sound journal that leaves the stack Halted nothing is there
pub nothing_while_halted : (head : StackHead) (turns : List Turn) → Sound head turns → (seen head turns).phase ≡ phase.Halted → HasNothing (seen head turns)
nothing_while_halted head turns s h = nothing_of (seen head turns) (standing_turns (start head) turns (standing_start head) s) h

-- a turn with a silent event changes nothing then
pub silent_turn : (net : Net) (turn : Turn) → HasNothing net → Next net turn → is_silent turn.event ≡ true → after_turn net turn ≡ net
silent_turn net turn h n q = silent_after net turn.event turn.reply turn.rows q (n.rows ∙ silent_writes net turn.event n.choice h q)

-- a pump and a drain move nothing then
pub pump_rests : (net : Net) (keeps : Bool) → HasNothing net → pump_outcome net keeps ≡ answered reply.Idle
pump_rests net keeps h = subst (λ n. pump_outcome n keeps ≡ answered reply.Idle) (emptied_is net h) (pump_idle net keeps)

pub drain_rests : (net : Net) (keeps : Bool) → HasNothing net → drain_outcome net keeps ≡ answered reply.Idle
drain_rests net keeps h = subst (λ n. drain_outcome n keeps ≡ answered reply.Idle) (emptied_is net h) (drain_idle net keeps)
