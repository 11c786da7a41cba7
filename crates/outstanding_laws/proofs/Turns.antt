-- After each sound journal each list was passed as it should be.
use Rattle.std.proofs.Common.{◌≡◌, ℕ, ◌+◌, ◌-◌, ◌<◌, ◌≤◌, ◌==◌, ◌&&◌, ◌||◌, ◌⊎◌, inl, inr, not, nat_lt, slice_index_or, filter, option_map, Bool, true, false, cond, List, [], ◌∷◌, ◌++◌, Option, Some, None, length, replicate, map, reverse, take, drop, refl, arith, ap, sym, subst, ◌∙◌}
use Rattle.ndis_base.specs.declared.ModuleId.{ModuleId}
use Rattle.ndis_base.specs.declared.ModuleId.TheVariants.{Miniport, Filter, Binding}
use Rattle.ndis_base.specs.declared.ModuleState.{ModuleState}
use Rattle.ndis_base.specs.declared.ModuleState.TheVariants as state
use Rattle.ndis_base.specs.declared.Handlers.{Handlers}
use Rattle.ndis_base.specs.declared.Phase.{Phase}
use Rattle.ndis_base.specs.declared.Phase.TheVariants as phase
use Rattle.journal_types.specs.declared.PassWay.TheVariants as way
use Rattle.journal_types.specs.declared.PhaseOf.TheVariants as of
use Rattle.journal_types.specs.declared.Target.{Target}
use Rattle.journal_types.specs.declared.Target.TheVariants.{Module, Bindings}
use Rattle.journal_types.specs.declared.StackHead.{StackHead}
use Rattle.journal_types.specs.declared.Event.{Event}
use Rattle.journal_types.specs.declared.Event.TheVariants as event
use Rattle.journal_types.specs.declared.Row.{Row}
use Rattle.journal_types.specs.declared.Row.TheVariants as row
use Rattle.journal_types.specs.declared.Turn.{Turn}
use Rattle.stack_rules.specs.declared.Attached.{Attached}
use Rattle.stack_rules.specs.declared.Choice.{Choice}
use Rattle.stack_rules.specs.declared.LiveList.{LiveList}
use Rattle.stack_rules.specs.declared.Stand.{Stand}
use Rattle.stack_rules.specs.declared.Stand.TheVariants as stand
use Rattle.stack_rules.specs.Tests.{is_down, phase_is_halted, phase_is_paused, phase_is_running, phase_is_pausing, phase_is_restarting}
use Rattle.stack_rules.specs.Net.{Net, Modules, start, after, after_rows, after_turn, after_turns, seen, lists, list_of, attached, handlers_of, with_state, is_detached, modules_after}
use Rattle.stack_rules.specs.Places.{position, outstanding}
use Rattle.stack_rules.specs.Targets.{has_send, has_receive, first_filter, next_up, next_done}
use Rattle.stack_rules.specs.Rewires.{is_in}
use Rattle.stack_rules.specs.Outcome.{Outcome}
use Rattle.stack_rules.specs.Pauses.{state_rows, binding_ids, floors, first_unpaused, paused_rows, restarting, is_top, restart_rows, running_floors}
use Rattle.stack_rules.specs.Sound.{Next, outcome, SoundFrom, Sound}
use Rattle.rule_basics.specs.Live.{Each}
use Rattle.rule_basics.proofs.Each.{Each-found, Each-implies}
use Rattle.rule_basics.proofs.Lives.{find_is}
use Rattle.std.proofs.lemmas.List.{length-set, length-replicate}
use Rattle.state_laws.specs.Laws.{IsThere}
use Rattle.state_laws.specs.Shape.{IsDistinct, IsShaped}
use Rattle.state_laws.proofs.Rows.{by_test, IsSame}
use Rattle.state_laws.proofs.Quiet.{is_plain}
use Rattle.state_laws.proofs.Takes.{attached-with_state}
use Rattle.state_laws.proofs.Events.{state_after, at_phase, event_kept, plain_same, turn_is, when_halted, when_paused}
use Rattle.pause_laws.specs.Clear.{IsHeld}
use Rattle.pause_laws.proofs.Fronts.{none_live}
use Rattle.pause_laws.proofs.Turns.{held_journal}
use Rattle.place_laws.specs.Kept.{HasOriginal, IsPlaced}
use Rattle.place_laws.specs.Listed.{IsListed}
use Rattle.place_laws.proofs.Looks.{look}
use Rattle.place_laws.proofs.Keepers.{all_found}
use Rattle.place_laws.proofs.Turns.{lists_stand}
use Rattle.outstanding_laws.specs.Outstanding.{passes_sends, passes_receives, IsPassedAt, IsPassed, EachIsPassed}
use Rattle.outstanding_laws.proofs.Rows.{May, MayKeep, GoesDown, GoesBack, Fits, IsRight, All}
use Rattle.outstanding_laws.proofs.Moves.{Facts, Going}
use Rattle.outstanding_laws.proofs.Events.{plain_leaves}

-- as many bindings, and the same filters with the same handlers
record IsRouted (ms other : Modules) : Type 0 where
  bindings : length other.bindings ≡ length ms.bindings
  order : other.order ≡ ms.order
  sends : (f : ℕ) → has_send other f ≡ has_send ms f
  receives : (f : ℕ) → has_receive other f ≡ has_receive ms f

routed_refl : (ms : Modules) → IsRouted ms ms
routed_refl ms = record { bindings = refl; order = refl; sends = λ f. refl; receives = λ f. refl }

routed_then : (a b c : Modules) → IsRouted a b → IsRouted b c → IsRouted a c
routed_then a b c h k = record { bindings = k.bindings ∙ h.bindings; order = k.order ∙ h.order; sends = λ f. k.sends f ∙ h.sends f; receives = λ f. k.receives f ∙ h.receives f }

-- a filter's state changes nothing of its handlers
handlers_same : (g f : ℕ) (s : ModuleState) (entries : List Attached) → handlers_of (attached g (map (with_state f s) entries)) ≡ handlers_of (attached g entries)
handlers_same g f s entries = ap handlers_of (attached-with_state g f s entries) ∙ at (attached g entries)
  where
    at : (o : Option Attached) → handlers_of (option_map (with_state f s) o) ≡ handlers_of o
    at None = refl
    at (Some a) = elim (a.filter == f) as (λ b. handlers_of (Some (cond b (record a { state = s }) a)) ≡ handlers_of (Some a)) [ true ↦ refl | false ↦ refl ]

state_routed : (ms : Modules) (m : ModuleId) (s : ModuleState) → is_detached s ≡ false → IsRouted ms (modules_after ms m s)
state_routed ms Miniport s d = record { bindings = refl; order = refl; sends = λ f. refl; receives = λ f. refl }
state_routed ms (Binding b) s d = record { bindings = length-set ms.bindings b s; order = refl; sends = λ f. refl; receives = λ f. refl }
state_routed ms (Filter g) s d =
    subst (λ b. IsRouted ms (record ms { filters = cond b (filter (λ a. not (a.filter == g)) ms.filters) (map (with_state g s) ms.filters) })) (sym d) record {
      bindings = refl;
      order = refl;
      sends = λ f. ap (λ (h : Handlers). h.send) (handlers_same f g s ms.filters);
      receives = λ f. ap (λ (h : Handlers). h.receive) (handlers_same f g s ms.filters);
    }

-- rows that only tell states, none of them Detached
abbrev IsMild : Row → Type 0
IsMild (row.Phase (of.Module m s)) = is_detached s ≡ false
IsMild (row.Phase (of.Stack p)) = Unit {0}
IsMild _ = ⊥

abbrev AreMild : List Row → Type 0
AreMild [] = Unit {0}
AreMild (r ∷ rows) = IsMild r × AreMild rows

mild-append : (xs ys : List Row) → AreMild xs → AreMild ys → AreMild (xs ++ ys)
mild-append [] ys h k = k
mild-append (x ∷ xs) ys h k = (h.0, mild-append xs ys h.1 k)

mild_one : (s : ModuleState) → is_detached s ≡ false → (ms : List ModuleId) → AreMild (state_rows (s ∷ []) ms)
mild_one s d [] = tt
mild_one s d (m ∷ ms) = (d, mild_one s d ms)

mild_two : (s t : ModuleState) → is_detached s ≡ false → is_detached t ≡ false → (ms : List ModuleId) → AreMild (state_rows (s ∷ t ∷ []) ms)
mild_two s t d e [] = tt
mild_two s t d e (m ∷ ms) = (d, (e, mild_two s t d e ms))

row_routed : (net : Net) (r : Row) → IsMild r → IsRouted net.modules (after net r).modules
row_routed net (row.Phase (of.Module m s)) d = state_routed net.modules m s d
row_routed net (row.Phase (of.Stack p)) d = routed_refl net.modules
row_routed net (row.Issue list owner config direction cancel origin frames) d = absurd d
row_routed net (row.Give list m handler) d = absurd d
row_routed net (row.Pass list way to) d = absurd d
row_routed net (row.Keep list m) d = absurd d
row_routed net (row.TurnBack list m status) d = absurd d
row_routed net (row.Home list owner status) d = absurd d
row_routed net (row.Wire list frames) d = absurd d
row_routed net (row.Deliver list binding how frames) d = absurd d
row_routed net (row.Config config filters) d = absurd d
row_routed net (row.OidIssue request parent binding kind code value) d = absurd d
row_routed net (row.OidGive request m) d = absurd d
row_routed net (row.OidDone request status value) d = absurd d
row_routed net (row.Status number name to) d = absurd d
row_routed net (row.Seen number m) d = absurd d
row_routed net (row.CrossOut message way frames) d = absurd d
row_routed net (row.CrossIn stack message way frames) d = absurd d

rows_routed : (net : Net) (rows : List Row) → AreMild rows → IsRouted net.modules (after_rows net rows).modules
rows_routed net [] h = routed_refl net.modules
rows_routed net (r ∷ rows) h = routed_then net.modules (after net r).modules (after_rows (after net r) rows).modules (row_routed net r h.0) (rows_routed (after net r) rows h.1)

-- an event that changes modules keeps the routes, or no list is live
abbrev Keeps : Net → Event → Outcome → Type 0
Keeps net e o = IsRouted net.modules (state_after net e o).modules ⊎ (lists net.things ≡ [])

paused_mild : (net : Net) (i : ℕ) → AreMild (paused_rows net i)
paused_mild net i =
    mild-append (state_rows (state.Paused ∷ []) (slice_index_or (floors net.modules) i [])) _ (mild_one state.Paused refl (slice_index_or (floors net.modules) i []))
    (by_test AreMild (nat_lt (i + 1) (length (floors net.modules))) _ _ (λ _. mild_one state.Pausing refl (slice_index_or (floors net.modules) (i + 1) [])) (λ _. (tt, tt)))

restart_mild : (net : Net) (i : ℕ) → AreMild (restart_rows net i)
restart_mild net i =
    mild-append (restarting net) _ (by_test AreMild (phase_is_paused net.phase) _ _ (λ _. (tt, tt)) (λ _. tt))
    (mild-append (state_rows (state.Restarting ∷ state.Running ∷ []) (slice_index_or (reverse (floors net.modules)) i [])) _ (mild_two state.Restarting state.Running refl refl (slice_index_or (reverse (floors net.modules)) i []))
    (by_test AreMild (is_top net i) _ _ (λ _. (tt, tt)) (λ _. tt)))

-- nothing is live where all positions are Paused
none_paused : (net : Net) → IsHeld net → phase_is_paused net.phase ≡ true → lists net.things ≡ []
none_paused net h t = none_live net.modules h.shape.front (lists net.things) (at_phase net phase.Paused h.shape (when_paused net.phase t)).1.1 h.clear.each

pub none_halted : (net : Net) → IsHeld net → net.phase ≡ phase.Halted → lists net.things ≡ []
none_halted net h e = none_live net.modules h.shape.front (lists net.things) (at_phase net phase.Halted h.shape e).1 h.clear.each

event_keeps : (net : Net) (e : Event) (c : Choice) → IsHeld net → is_plain e ≡ false → Keeps net e (outcome net e c)
event_keeps net event.Initialize c h p =
    by_test (Keeps net event.Initialize) (phase_is_halted net.phase) _ _ (λ t. inr (none_halted net h (when_halted net.phase t))) (λ _. inl (routed_refl net.modules))
event_keeps net (event.Insert kind place setup) c h p =
    by_test (Keeps net (event.Insert kind place setup)) (phase_is_paused net.phase) _ _ (λ t. inr (none_paused net h t)) (λ _. inl (routed_refl net.modules))
event_keeps net (event.Remove old) c h p =
    by_test (Keeps net (event.Remove old)) (phase_is_paused net.phase) _ _ (λ t. inr (none_paused net h t)) (λ _. inl (routed_refl net.modules))
event_keeps net (event.Replace old kind setup) c h p =
    by_test (Keeps net (event.Replace old kind setup)) (phase_is_paused net.phase) _ _ (λ t. inr (none_paused net h t)) (λ _. inl (routed_refl net.modules))
event_keeps net event.BeginPause c h p =
    by_test (Keeps net event.BeginPause) (phase_is_running net.phase) _ _
    (λ _. inl (rows_routed net (row.Phase (of.Stack phase.Pausing) ∷ state_rows (state.Pausing ∷ []) (binding_ids 0 net.modules.bindings)) (tt, mild_one state.Pausing refl (binding_ids 0 net.modules.bindings))))
    (λ _. inl (routed_refl net.modules))
event_keeps net event.PauseNext c h p =
    by_test (Keeps net event.PauseNext) (phase_is_pausing net.phase) _ _
    (λ _. by_test (Keeps net event.PauseNext) (outstanding net (first_unpaused net) == 0) _ _
    (λ _. inl (rows_routed net (paused_rows net (first_unpaused net)) (paused_mild net (first_unpaused net))))
    (λ _. inl (routed_refl net.modules)))
    (λ _. inl (routed_refl net.modules))
event_keeps net event.RestartNext c h p =
    by_test (Keeps net event.RestartNext) (phase_is_paused net.phase || phase_is_restarting net.phase) _ _
    (λ _. inl (rows_routed net (restart_rows net (running_floors net)) (restart_mild net (running_floors net))))
    (λ _. inl (routed_refl net.modules))
event_keeps net event.Halt c h p =
    by_test (Keeps net event.Halt) (phase_is_paused net.phase) _ _ (λ t. inr (none_paused net h t)) (λ _. inl (routed_refl net.modules))
event_keeps net (event.Send binding cancel frames) c h p = absurd (cc)
event_keeps net (event.Indicate frames) c h p = absurd (cc)
event_keeps net (event.Lend frames) c h p = absurd (cc)
event_keeps net (event.GiveBack binding list) c h p = absurd (cc)
event_keeps net (event.Cancel id) c h p = absurd (cc)
event_keeps net (event.Ask binding kind code value) c h p = absurd (cc)
event_keeps net (event.Status name) c h p = absurd (cc)
event_keeps net event.Transmit c h p = absurd (cc)
event_keeps net event.Pump c h p = absurd (cc)
event_keeps net event.Drain c h p = absurd (cc)
event_keeps net event.CrossTake c h p = absurd (cc)
event_keeps net (event.CrossPut stack message vlan frames) c h p = absurd (cc)
event_keeps net (event.CrossDone message status) c h p = absurd (cc)
event_keeps net (event.CrossTakeUp binding vlan) c h p = absurd (cc)
event_keeps net (event.CrossPutUp stack message frames) c h p = absurd (cc)

-- what stands right does so by the same routes
first_same : (a b : ℕ → Bool) (fs : List ℕ) (other : Target) → ((f : ℕ) → a f ≡ b f) → first_filter a fs other ≡ first_filter b fs other
first_same a b [] other e = refl
first_same a b (f ∷ fs) other e = rw (e f, first_same a b fs other e) refl

module _ (ms other : Modules) (r : IsRouted ms other) where
  at_same : (m : ModuleId) → position other.order m ≡ position ms.order m
  at_same m = ap (λ o. position o m) r.order

  sends_same : (m : ModuleId) → passes_sends ms m ≡ true → passes_sends other m ≡ true
  sends_same Miniport h = refl
  sends_same (Filter f) h = ap (λ o. is_in f o && has_send other f) r.order ∙ ap (λ b. is_in f ms.order && b) (r.sends f) ∙ h
  sends_same (Binding b) h = h

  receives_same : (m : ModuleId) → passes_receives ms m ≡ true → passes_receives other m ≡ true
  receives_same Miniport h = refl
  receives_same (Filter f) h = ap (λ o. is_in f o && has_receive other f) r.order ∙ ap (λ b. is_in f ms.order && b) (r.receives f) ∙ h
  receives_same (Binding b) h = h

  up_same : (m : ModuleId) → next_up ms (position ms.order m) ≡ next_up other (position other.order m)
  up_same m =
      sym (ap (λ o. first_filter (has_receive other) (reverse (take (position o m - 1) o)) Bindings) r.order
      ∙ first_same (has_receive other) (has_receive ms) (reverse (take (position ms.order m - 1) ms.order)) Bindings r.receives)

  done_same : (m owner : ModuleId) → next_done ms (position ms.order m) owner ≡ next_done other (position other.order m) owner
  done_same m owner =
      sym (ap (λ o. first_filter (has_send other) (reverse (drop (position o owner) (take (position o m - 1) o))) (Module owner)) r.order
      ∙ first_same (has_send other) (has_send ms) (reverse (drop (position ms.order owner) (take (position ms.order m - 1) ms.order))) (Module owner) r.sends)

  less_same : (a b : ModuleId) → position ms.order a < position ms.order b → position other.order a < position other.order b
  less_same a b h = omega (arith, h, at_same a, at_same b)

  may_same : (sends : Bool) (owner m : ModuleId) → May ms sends owner m → May other sends owner m
  may_same sends owner m h = record {
    sent = λ t. let p = h.sent t in (sends_same m p.0, less_same owner m p.1);
    risen = λ t. let p = h.risen t in (receives_same m p.0, less_same m owner p.1);
  }

  keep_same : (sends : Bool) (owner m : ModuleId) → MayKeep ms sends owner m → MayKeep other sends owner m
  keep_same sends owner Miniport h = may_same sends owner Miniport h
  keep_same sends owner (Filter f) h = may_same sends owner (Filter f) h
  keep_same sends owner (Binding b) h = (h.0, (omega (arith, h.1.0, r.bindings), omega (arith, h.1.1, at_same owner)))

  down_same : (owner : ModuleId) (to : Target) → GoesDown ms owner to → GoesDown other owner to
  down_same owner Bindings h = tt
  down_same owner (Module m) h = (sends_same m h.0, less_same owner m h.1)

  back_same : (owner : ModuleId) (to : Target) → GoesBack ms owner to → GoesBack other owner to
  back_same owner to (inl e) = inl e
  back_same owner to (inr g) = inr (g.0, g.1, receives_same (Filter g.0) g.2)

  fits_same : (sends : Bool) (owner last : ModuleId) (s : Stand) → Fits ms sends owner last s → Fits other sends owner last s
  fits_same sends owner last stand.Unplaced h = tt
  fits_same sends owner last (stand.Kept m) h = (h.0, keep_same sends owner m h.1)
  fits_same sends owner last (stand.Passed way.Down to) h = (h.0, down_same owner to h.1)
  fits_same sends owner last (stand.Passed way.Up to) h = (h.0, (receives_same last h.1.0, (h.1.1.0 ∙ up_same last, omega (arith, h.1.1.1, at_same last, at_same owner))))
  fits_same sends owner last (stand.Passed (way.Done status) to) h = (h.0, (sends_same last h.1.0, (h.1.1.0 ∙ done_same last owner, less_same owner last h.1.1.1)))
  fits_same sends owner last (stand.Passed (way.Back status) to) h = (h.0, back_same owner to h.1)

-- no filter is twice in the order
pub distinct_of : (net : Net) (s : IsShaped net) → IsDistinct net.modules.order
distinct_of net s = by net.phase refl
  where
    by : (p : Phase) → net.phase ≡ p → IsDistinct net.modules.order
    by phase.Halted e = (at_phase net phase.Halted s e).0.distinct
    by phase.Paused e = (at_phase net phase.Paused s e).0.distinct
    by phase.Restarting e = (at_phase net phase.Restarting s e).0.distinct
    by phase.Running e = (at_phase net phase.Running s e).0.distinct
    by phase.Pausing e = (at_phase net phase.Pausing s e).0.distinct

-- as many bindings as the head says
many_of : (net : Net) (s : IsShaped net) → length net.modules.bindings ≡ length net.head.bindings
many_of net s = by net.phase refl
  where
    are : (x : ModuleState) → net.modules.bindings ≡ replicate (length net.head.bindings) x → length net.modules.bindings ≡ length net.head.bindings
    are x e = ap length e ∙ length-replicate (length net.head.bindings) x

    by : (p : Phase) → net.phase ≡ p → length net.modules.bindings ≡ length net.head.bindings
    by phase.Halted e = are state.Unbound (at_phase net phase.Halted s e).0.bindings
    by phase.Paused e = are state.Paused (at_phase net phase.Paused s e).1.0.bindings
    by phase.Restarting e = are _ (at_phase net phase.Restarting s e).1.states.bindings
    by phase.Running e = are _ (at_phase net phase.Running s e).1.0.states.bindings
    by phase.Pausing e = are _ (at_phase net phase.Pausing s e).1.states.bindings

-- each list stands right, and its owner is a module of the configuration
abbrev pub IsSound : Net → LiveList → Type 0
IsSound net x = IsRight net.modules x × IsThere net x.owner

abbrev pub AreRight : Net → Type 0
AreRight net = All (λ k x. IsSound net x) net

none_right : (net : Net) → lists net.things ≡ [] → AreRight net
none_right net e k x f = clash (sym (ap (list_of k) e) ∙ f)
  where
    clash : None ≡ Some x → IsSound net x
    clash h = absurd (cc)

changed_right : (net next : Net) → lists next.things ≡ lists net.things → (IsRouted net.modules next.modules ⊎ (lists net.things ≡ [])) → AreRight net → AreRight next
changed_right net next e (inl r) h k x f =
    let was : IsSound net x = h k x (ap (list_of k) (sym e) ∙ f) in
    (fits_same net.modules next.modules r (is_down x.direction) x.owner x.last x.stand was.0, there_same x.owner was.1)
  where
    there_same : (m : ModuleId) → IsThere net m → IsThere next m
    there_same Miniport t = tt
    there_same (Filter f) t = ap (is_in f) r.order ∙ t
    there_same (Binding b) t = omega (arith, t, r.bindings)
changed_right net next e (inr none) h k x f = none_right next (e ∙ none) k x f

there_in : (net next : Net) (m : ModuleId) → next.modules ≡ net.modules → IsThere net m → IsThere next m
there_in net next Miniport e t = tt
there_in net next (Filter f) e t = ap (λ (ms : Modules). is_in f ms.order) e ∙ t
there_in net next (Binding b) e t = omega (arith, t, ap (λ (ms : Modules). length ms.bindings) e)

event_right : (net : Net) (e : Event) (c : Choice) → IsHeld net → Facts net → AreRight (state_after net e (outcome net e c))
event_right net e c h facts =
    let next : Net = state_after net e (outcome net e c) in
    let cases : (b : Bool) → is_plain e ≡ b → AreRight next = elim [
      | true ↦ λ p.
          let same : IsSame net next = plain_same net e c p in
          let g : Going net facts next = plain_leaves net facts e c p in
          λ k x f. let was = g.all k x f in (subst (λ ms. IsRight ms x) (sym same.modules) was.right, there_in net next x.owner same.modules was.same.there)
      | false ↦ λ p. changed_right net next (ap lists (event_kept net h.shape e c p).things) (event_keeps net e c h p) (λ k x f. (facts.right k x f, facts.there k x f))
    ] in
    cases (is_plain e) refl

-- the facts where a turn begins
module _ (head : StackHead) (bound : 1 ≤ length head.bindings) where
  pub facts_of : (before : List Turn) → Sound head before → AreRight (seen head before) → Facts (seen head before)
  facts_of before sound right = by net.phase refl
    where
      net : Net
      net = seen head before

      held : IsHeld net
      held = held_journal head before sound

      below : All (λ k x. k < net.next.list) net
      below k x f = omega (arith, (find_is k (lists net.things) x f).0, Each-found (λ l. l.list.0 < net.next.list) k (lists net.things) x held.clear.below f)

      clash : (n : ℕ) (l : LiveList) → lists net.things ≡ [] → look net n ≡ Some l → ⊥
      clash n l none f = absurd (cc (sym (ap (list_of n) none) ∙ f))

      none : lists net.things ≡ [] → Facts net
      none e = record {
        distinct = distinct_of net held.shape;
        apart = held.clear.apart;
        below = below;
        right = λ k x f. (right k x f).0;
        there = λ k x f. (right k x f).1;
        many = many_of net held.shape;
        originals = λ c l o f m g. absurd (clash c.list.0 c e f);
        crossed = λ l f t. absurd (clash l.list.0 l e f);
      }

      some : IsListed net → Facts net
      some listed = record {
        distinct = distinct_of net held.shape;
        apart = held.clear.apart;
        below = below;
        right = λ k x f. (right k x f).0;
        there = λ k x f. (right k x f).1;
        many = many_of net held.shape;
        originals = λ c l o f m g. let has : HasOriginal net c = Each-found (HasOriginal net) c.list.0 (lists net.things) c listed.originals f in (has o l m g).kept;
        crossed = λ l f t. let p : IsPlaced net l = Each-found (IsPlaced net) l.list.0 (lists net.things) l listed.placed f in (p.crossed t).0;
      }

      by : (p : Phase) → net.phase ≡ p → Facts net
      by phase.Halted e = none (none_halted net held e)
      by phase.Paused e = some (lists_stand head before sound bound (λ h. cc))
      by phase.Restarting e = some (lists_stand head before sound bound (λ h. cc))
      by phase.Running e = some (lists_stand head before sound bound (λ h. cc))
      by phase.Pausing e = some (lists_stand head before sound bound (λ h. cc))

  -- the state after a journal
  record IsKept (net : Net) : Type 0 where
    before : List Turn
    sound : Sound head before
    at : seen head before ≡ net
    right : AreRight net

  turns-snoc : (net : Net) (before : List Turn) (turn : Turn) → after_turns net (before ++ turn ∷ []) ≡ after_turn (after_turns net before) turn
  turns-snoc net [] turn = refl
  turns-snoc net (t ∷ before) turn = turns-snoc (after_turn net t) before turn

  sound-snoc : (net : Net) (before : List Turn) (turn : Turn) → SoundFrom net before → Next (after_turns net before) turn → SoundFrom net (before ++ turn ∷ [])
  sound-snoc net [] turn s n = (n, tt)
  sound-snoc net (t ∷ before) turn s n = (s.0, sound-snoc (after_turn net t) before turn s.1 n)

  turn_right : (net : Net) (turn : Turn) → Next net turn → IsHeld net → Facts net → AreRight (after_turn net turn)
  turn_right net turn n h facts = subst AreRight (sym (turn_is net turn n)) (event_right net turn.event n.choice h facts)

  turn_kept : (net : Net) (turn : Turn) → Next net turn → IsKept net → IsKept (after_turn net turn)
  turn_kept net turn n k = record {
    before = k.before ++ turn ∷ [];
    sound = sound-snoc (start head) k.before turn k.sound (subst (λ x. Next x turn) (sym k.at) n);
    at = turns-snoc (start head) k.before turn ∙ ap (λ x. after_turn x turn) k.at;
    right = turn_right net turn n (subst IsHeld k.at (held_journal head k.before k.sound)) (subst Facts k.at (facts_of k.before k.sound (subst AreRight (sym k.at) k.right)));
  }

  kept_turns : (net : Net) (turns : List Turn) → IsKept net → SoundFrom net turns → IsKept (after_turns net turns)
  kept_turns net [] k s = k
  kept_turns net (turn ∷ turns) k s = kept_turns (after_turn net turn) turns (turn_kept net turn s.0 k) s.1

  pub right_journal : (turns : List Turn) → Sound head turns → AreRight (seen head turns)
  right_journal turns s = (kept_turns (start head) turns record { before = []; sound = tt; at = refl; right = none_right (start head) refl } s).right

-- a fact of each list that stands right
pub each_right : (head : StackHead) (turns : List Turn) (P : LiveList → Type 0) → Sound head turns → 1 ≤ length head.bindings → ((l : LiveList) → IsSound (seen head turns) l → P l) → Each P (lists (seen head turns).things)
each_right head turns P s bound f =
    let net : Net = seen head turns in
    Each-implies (λ l. look net l.list.0 ≡ Some l) P (λ l e. f l (right_journal head bound turns s l.list.0 l e)) (lists net.things) (all_found (lists net.things) (held_journal head turns s).clear.apart)

-- the law
passed_of : (ms : Modules) (l : LiveList) (s : Stand) → Fits ms (is_down l.direction) l.owner l.last s → IsPassedAt ms l s
passed_of ms l stand.Unplaced h = tt
passed_of ms l (stand.Kept m) h = tt
passed_of ms l (stand.Passed way.Down to) h = tt
passed_of ms l (stand.Passed way.Up to) h = (h.1.0, h.1.1.0)
passed_of ms l (stand.Passed (way.Done status) to) h = (h.1.0, h.1.1.0)
passed_of ms l (stand.Passed (way.Back status) to) h = tt

pub each_is_passed : EachIsPassed
each_is_passed head turns s bound = each_right head turns (IsPassed (seen head turns).modules) s bound (λ l h. passed_of (seen head turns).modules l l.stand h.0)
