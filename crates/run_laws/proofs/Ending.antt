-- Halting a stack, and what an idle pump tells of it.
use Rattle.std.proofs.Common.{◌≡◌, ℕ, ◌<◌, ◌==◌, ◌||◌, Bool, true, false, cond, List, [], ◌∷◌, ◌++◌, Option, Some, None, count_by, find, is_some, length, map, refl, arith, ap, sym, subst, ◌∙◌}
use Rattle.ndis_base.specs.declared.ModuleId.{ModuleId}
use Rattle.ndis_base.specs.declared.ModuleId.TheVariants.{Miniport, Filter, Binding}
use Rattle.ndis_base.specs.declared.ModuleState.TheVariants as state
use Rattle.ndis_base.specs.declared.Phase.TheVariants as phase
use Rattle.journal_types.specs.declared.Event.{Event}
use Rattle.journal_types.specs.declared.Event.TheVariants as event
use Rattle.journal_types.specs.declared.PhaseOf.TheVariants as of
use Rattle.journal_types.specs.declared.Refusal.TheVariants as refusal
use Rattle.journal_types.specs.declared.Reply.TheVariants as reply
use Rattle.journal_types.specs.declared.Row.{Row}
use Rattle.journal_types.specs.declared.Row.TheVariants as row
use Rattle.journal_types.specs.declared.Turn.{Turn}
use Rattle.stack_rules.specs.declared.Answered.{Answered}
use Rattle.stack_rules.specs.declared.Choice.{Choice}
use Rattle.stack_rules.specs.declared.Request.{Request}
use Rattle.stack_rules.specs.declared.RequestAt.{RequestAt}
use Rattle.stack_rules.specs.declared.RequestAt.TheVariants as at
use Rattle.stack_rules.specs.declared.Thing.{Thing}
use Rattle.stack_rules.specs.declared.Thing.TheVariants as thing
use Rattle.stack_rules.specs.Tests.{phase_is_halted, phase_is_paused}
use Rattle.stack_rules.specs.Net.{Net, after, after_rows, after_turn, first_oid, request_of, seen}
use Rattle.stack_rules.specs.Outcome.{Outcome}
use Rattle.stack_rules.specs.Places.{agenda_first, is_away, is_passed, position}
use Rattle.stack_rules.specs.Pauses.{binding_ids, halt_items, halt_outcome, halt_rows, is_status_thing, statuses_away, state_row, state_rows}
use Rattle.stack_rules.specs.Requests.{Giving, giving_to, has_waiting, is_at_entry, is_busy, lowest_giving, next_giving, oid_modules, or_else}
use Rattle.stack_rules.specs.Pumps.{is_pump_moving, moved_rows, pump_of, pump_outcome, request_pump}
use Rattle.stack_rules.specs.Statuses.{status_rows}
use Rattle.stack_rules.specs.Drains.{drain_rows, drained, drain_outcome}
use Rattle.stack_rules.specs.Sound.{outcome, Next}
use Rattle.rule_basics.specs.Live.{EachRequest}
use Rattle.home_laws.proofs.Known.{by_test}
use Rattle.state_laws.proofs.Rows.{after_rows-append, is_calm, AreCalm}
use Rattle.state_laws.proofs.Calm.{calm_drained, calm_moved, calm_status}
use Rattle.state_laws.proofs.Events.{state_after, turn_is}
use Rattle.pause_laws.proofs.Turns.{none_while_paused}
use Rattle.place_laws.specs.Kept.{place_position, EachAnswer, IsAsked, IsBelow, IsGiven, IsInPlace}
use Rattle.request_laws.proofs.Finds.{EachRequest-implies}
use Rattle.request_laws.proofs.Events.{requested_journal}
use Rattle.family_laws.proofs.Changes.{Every}
use Rattle.family_laws.proofs.Configs.{changed_rows}
use Rattle.work_laws.proofs.InPlace.{all_in_place}
use Rattle.drain_laws.specs.Serving.{has_answer, has_clone_of, is_served, AreServed, IsServed}
use Rattle.drain_laws.proofs.Done.{no_requests, no_things}
use Rattle.drain_laws.proofs.Served.{requests_served}
use Rattle.drain_laws.proofs.Tests.{not_both}
use Rattle.run_laws.specs.Turns.{ChangesNothing, EachTurn, LeadsTo}
use Rattle.run_laws.specs.Ending.{is_ending, EmptiesRequests, EmptiesThings, Halts, IsBusy, KeepsNoRequests}
use Rattle.run_laws.proofs.Turns.{IsTurn, leads, nothing, turn_of}

-- a halt
halted_phase : (net : Net) → (after_rows net (halt_rows net)).phase ≡ phase.Halted
halted_phase net =
    let top : List Row = state_rows (state.Closing ∷ state.Unbound ∷ []) (binding_ids 0 net.modules.bindings) in
    let filters : List Row = state_rows (state.Detached ∷ []) (map Filter net.modules.order) in
    let last : List Row = state_row state.Halted Miniport ∷ row.Phase (of.Stack phase.Halted) ∷ [] in
    ap (λ (m : Net). m.phase) (after_rows-append net top (filters ++ last)) ∙ ap (λ (m : Net). m.phase) (after_rows-append (after_rows net top) filters last)

halted_by : (net : Net) (turn : Turn) → net.phase ≡ phase.Paused → halt_items net ≡ 0 → IsTurn net turn (halt_outcome net) (after_rows net (halt_outcome net).rows) → LeadsTo net turn reply.Halted phase.Halted
halted_by net turn p z =
    let By : Outcome → Type 0 = λ o. IsTurn net turn o (after_rows net o.rows) → LeadsTo net turn reply.Halted phase.Halted in
    by_test By (phase_is_paused net.phase) _ _
    (λ _. by_test By (halt_items net == 0) _ _
    (λ _ t. leads net turn _ _ reply.Halted phase.Halted t refl (halted_phase net))
    (λ f. absurd (not_both (halt_items net == 0) (ap (λ n. n == 0) z) f)))
    (λ f. absurd (not_both (phase_is_paused net.phase) (ap phase_is_paused p) f))

busy_by : (net : Net) (turn : Turn) → net.phase ≡ phase.Paused → (halt_items net == 0) ≡ false → IsTurn net turn (halt_outcome net) (after_rows net (halt_outcome net).rows) → ChangesNothing net turn (reply.Refused (refusal.Busy (halt_items net)))
busy_by net turn p z =
    let By : Outcome → Type 0 = λ o. IsTurn net turn o (after_rows net o.rows) → ChangesNothing net turn (reply.Refused (refusal.Busy (halt_items net))) in
    by_test By (phase_is_paused net.phase) _ _
    (λ _. by_test By (halt_items net == 0) _ _
    (λ q. absurd (not_both (halt_items net == 0) q z))
    (λ _ t. nothing net turn _ net (reply.Refused (refusal.Busy (halt_items net))) t refl refl))
    (λ f. absurd (not_both (phase_is_paused net.phase) (ap phase_is_paused p) f))

pub halts : EachTurn Halts
halts head turns turn s bound n e p z = halted_by (seen head turns) turn p z (turn_of (seen head turns) turn event.Halt n e)

pub stays_busy : EachTurn IsBusy
stays_busy head turns turn s bound n e p z = busy_by (seen head turns) turn p z (turn_of (seen head turns) turn event.Halt n e)

-- where nothing is on its way and no request is left, a halt waits for nothing
pub nothing_waits : (net : Net) → net.things ≡ [] → net.requests ≡ [] → halt_items net ≡ 0
nothing_waits net t r =
    let things : statuses_away net ≡ 0 = ap (count_by is_status_thing) t in
    let requests : length net.requests ≡ 0 = ap length r in
    omega (arith, things, requests)

-- an idle pump
request_idle : (net : Net) (g : Option Giving) → (request_pump net g).reply ≡ reply.Idle → is_some g ≡ false
request_idle net None e = refl
request_idle net (Some g) e = cc

pump_idle : (net : Net) (keeps : Bool) (t : Option Thing) → (pump_of net keeps t).reply ≡ reply.Idle → (is_some t ≡ false) × (is_some (next_giving net) ≡ false)
pump_idle net keeps None e = (refl, request_idle net (next_giving net) e)
pump_idle net keeps (Some t) e = cc

turn_idle : (net : Net) (turn : Turn) → Next net turn → turn.event ≡ event.Pump → turn.reply ≡ reply.Idle → (is_some (agenda_first net) ≡ false) × (is_some (next_giving net) ≡ false)
turn_idle net turn n e i = pump_idle net n.choice.keeps (agenda_first net) (sym (turn_of net turn event.Pump n e).answer ∙ i)

-- where nothing is on its way, no answer is
no_answer : (k : ℕ) (ts : List Thing) → is_some (find is_away ts) ≡ false → has_answer k ts ≡ false
no_answer k [] e = refl
no_answer k (thing.List l ∷ ts) e = cases (is_passed l.stand) (λ f. no_answer k ts f) e
  where
    cases : (b : Bool) → (is_some (find is_away ts) ≡ false → has_answer k ts ≡ false) → is_some (cond b (Some (thing.List l)) (find is_away ts)) ≡ false → has_answer k ts ≡ false
    cases true rest f = cc
    cases false rest f = rest f
no_answer k (thing.Status s ∷ ts) e = cc
no_answer k (thing.Answer a ∷ ts) e = cc

-- the requests alone
abbrev alone : Net → Net
alone net = record net { things = [] }

served_alone : (net : Net) → ((k : ℕ) → has_answer k net.things ≡ false) → AreServed net → AreServed (alone net)
served_alone net none h = EachRequest-implies _ _ (λ r s. one r.request.0 r.at s) net.requests h
  where
    clone : (k : ℕ) (b : Bool) → has_answer k net.things ≡ b → b ≡ false → (has_clone_of k net.requests || b) ≡ true → (has_clone_of k net.requests || false) ≡ true
    clone k true e f h = cc
    clone k false e f h = h

    one : (k : ℕ) (place : RequestAt) → IsServed net.modules (is_served net) k place → IsServed net.modules (is_served (alone net)) k place
    one k at.Entry s = tt
    one k (at.Waiting m) s = s
    one k (at.Given Miniport) s = s
    one k (at.Given (Filter f)) s = clone k (has_answer k net.things) refl (none k) s
    one k (at.Given (Binding b)) s = s

same_position : (net : Net) (place : RequestAt) → place_position net place ≡ place_position (alone net) place
same_position net at.Entry = refl
same_position net (at.Waiting m) = refl
same_position net (at.Given m) = refl

asked_alone : (net : Net) → EachRequest (IsAsked net) net.requests → EachRequest (IsAsked (alone net)) net.requests
asked_alone net h = EachRequest-implies _ _ (λ r a g e. one r g.0 (a g e)) net.requests h
  where
    one : (r : Request) (k : ℕ) → IsBelow net r k → IsBelow (alone net) r k
    one r k b = record {
      parent = record { filter = b.parent.filter; request = b.parent.request; found = b.parent.found; at = b.parent.at; there = b.parent.there };
      below = subst (λ i. position net.modules.order (Filter b.parent.filter) < i) (same_position net r.at) b.below;
    }

pub empties_requests : EachTurn EmptiesRequests
empties_requests head turns turn s bound n e i p h =
    let net : Net = seen head turns in
    let idle = turn_idle net turn n e i in
    let place : IsInPlace net = all_in_place head turns s bound (λ q. absurd (not_both (phase_is_halted net.phase) (ap phase_is_halted q) h)) in
    no_requests (alone net) p h refl idle.1 (served_alone net (λ k. no_answer k net.things idle.0) (requests_served head turns s)) place.apart (asked_alone net place.asked)

pub empties_things : EachTurn EmptiesThings
empties_things head turns turn s bound n e i p =
    let net : Net = seen head turns in
    no_things net.things (turn_idle net turn n e i).0 (none_while_paused head turns s p)

-- rows that tell nothing of requests
abbrev IsSilent : Row → Type 0
IsSilent (row.OidIssue request parent binding kind code value) = ⊥
IsSilent (row.OidGive request m) = ⊥
IsSilent (row.OidDone request status value) = ⊥
IsSilent _ = Unit {0}

silent_row : (net : Net) (r : Row) → IsSilent r → (after net r).requests ≡ net.requests
silent_row net (row.OidIssue request parent binding kind code value) h = absurd h
silent_row net (row.OidGive request m) h = absurd h
silent_row net (row.OidDone request status value) h = absurd h
silent_row net (row.Phase (of.Module m s)) h = refl
silent_row net (row.Phase (of.Stack p)) h = refl
silent_row net _ h = refl

silent_rows : (net : Net) (rows : List Row) → Every IsSilent rows → (after_rows net rows).requests ≡ net.requests
silent_rows net [] h = refl
silent_rows net (r ∷ rows) h = silent_rows (after net r) rows h.1 ∙ silent_row net r h.0

calm_silent : (r : Row) → is_calm r ≡ true → IsSilent r
calm_silent (row.OidIssue request parent binding kind code value) h = cc
calm_silent (row.OidGive request m) h = cc
calm_silent (row.OidDone request status value) h = cc
calm_silent _ h = tt

calm_silents : (rows : List Row) → AreCalm rows → Every IsSilent rows
calm_silents [] h = tt
calm_silents (r ∷ rows) h = (calm_silent r h.0, calm_silents rows h.1)

-- where there is no request, none is given
none_lowest : (ms : List ModuleId) → lowest_giving [] ms ≡ None
none_lowest [] = refl
none_lowest (m ∷ ms) = none_lowest ms

none_given : (net : Net) → net.requests ≡ [] → next_giving net ≡ None
none_given net e =
    let top : ModuleId = first_oid net.modules net.modules.order in
    let still : Bool = phase_is_paused net.phase || phase_is_halted net.phase in
    ap (λ rs. or_else (lowest_giving rs (oid_modules net.modules)) (cond (still || (is_busy rs top || has_waiting rs top)) None (giving_to top (find (λ r. is_at_entry r.at) rs)))) e
    ∙ ap (λ g. or_else g (cond (still || (is_busy [] top || has_waiting [] top)) None None)) (none_lowest (oid_modules net.modules))
    ∙ either (still || (is_busy [] top || has_waiting [] top))
  where
    either : (b : Bool) → cond {A = Option Giving} b None None ≡ None
    either true = refl
    either false = refl

answer_found : (P : Answered → Type 0) (ts : List Thing) (a : Answered) → EachAnswer P ts → find is_away ts ≡ Some (thing.Answer a) → P a
answer_found P [] a h f = cc
answer_found P (thing.List l ∷ ts) a h f = cases (is_passed l.stand) (λ g. answer_found P ts a h g) f
  where
    cases : (b : Bool) → (find is_away ts ≡ Some (thing.Answer a) → P a) → cond b (Some (thing.List l)) (find is_away ts) ≡ Some (thing.Answer a) → P a
    cases true rest g = cc
    cases false rest g = rest g
answer_found P (thing.Status s ∷ ts) a h f = cc
answer_found P (thing.Answer x ∷ ts) a h f = let same : x ≡ a = cc in subst P same h.0

abbrev OutcomeSilent : Outcome → Type 0
OutcomeSilent o = Every IsSilent o.rows

-- what is known where there is no request
record IsFree (net : Net) : Type 0 where
  none : net.requests ≡ []
  answers : EachAnswer (λ a. IsGiven net a.parent.0) net.things

pump_silent : (net : Net) → IsFree net → (keeps : Bool) → OutcomeSilent (pump_outcome net keeps)
pump_silent net h keeps = by (agenda_first net) refl
  where
    given : (k : ℕ) → IsGiven net k → ⊥
    given k g = let none : None ≡ Some g.request = ap (request_of k) (sym h.none) ∙ g.found in cc

    by : (o : Option Thing) → agenda_first net ≡ o → OutcomeSilent (pump_of net keeps o)
    by None e = subst (λ g. OutcomeSilent (request_pump net g)) (sym (none_given net h.none)) tt
    by (Some (thing.List l)) e = calm_silents (moved_rows net l l.stand keeps) (calm_moved net l l.stand keeps)
    by (Some (thing.Status s)) e = calm_silents (status_rows net s.number s.name s.to) (calm_status net s.number s.name s.to)
    by (Some (thing.Answer a)) e = absurd (given a.parent.0 (answer_found (λ a. IsGiven net a.parent.0) net.things a h.answers e))

drain_silent : (net : Net) → IsFree net → (keeps : Bool) → OutcomeSilent (drain_outcome net keeps)
drain_silent net h keeps =
    by_test OutcomeSilent (is_pump_moving net) _ _ (λ _. pump_silent net h keeps) (λ _. calm_silents (drained (drain_rows net)).rows (calm_drained net))

changes_silent : (net : Net) (e : Event) (c : Choice) → is_ending e ≡ true → IsFree net → OutcomeSilent (outcome net e c)
changes_silent net event.Pump c p h = pump_silent net h c.keeps
changes_silent net event.Drain c p h = drain_silent net h c.keeps
changes_silent net event.BeginPause c p h = changed_rows IsSilent record { states = λ x m a. tt; stack = λ x. tt } (λ config filters. tt) (λ f x. tt) net event.BeginPause c refl
changes_silent net event.PauseNext c p h = changed_rows IsSilent record { states = λ x m a. tt; stack = λ x. tt } (λ config filters. tt) (λ f x. tt) net event.PauseNext c refl
changes_silent net event.RestartNext c p h = changed_rows IsSilent record { states = λ x m a. tt; stack = λ x. tt } (λ config filters. tt) (λ f x. tt) net event.RestartNext c refl
changes_silent net _ c p h = cc

told_nothing : (net : Net) (e : Event) (c : Choice) → is_ending e ≡ true → state_after net e (outcome net e c) ≡ after_rows net (outcome net e c).rows
told_nothing net event.Pump c p = refl
told_nothing net event.Drain c p = refl
told_nothing net event.BeginPause c p = refl
told_nothing net event.PauseNext c p = refl
told_nothing net event.RestartNext c p = refl
told_nothing net _ c p = cc

pub keeps_no_requests : EachTurn KeepsNoRequests
keeps_no_requests head turns turn s bound n e none =
    let net : Net = seen head turns in
    let rows : List Row = (outcome net turn.event n.choice).rows in
    let after : after_turn net turn ≡ after_rows net rows = turn_is net turn n ∙ told_nothing net turn.event n.choice e in
    ap (λ (m : Net). m.requests) after
    ∙ silent_rows net rows (changes_silent net turn.event n.choice e record { none = none; answers = (requested_journal head turns s).answers })
    ∙ none
