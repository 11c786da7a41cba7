-- Each event keeps what is kept of the requests.
use Rattle.std.proofs.Common.{◌≡◌, ℕ, Bool, true, List, [], ◌∷◌, Option, Some, None, replicate, length, get_or, refl, arith, sym, subst, ap, ◌∙◌}
use Rattle.std.proofs.lemmas.List.{get_or-replicate, get_or_past, length-replicate}
use Rattle.ndis_base.specs.declared.ModuleId.TheVariants.{Binding}
use Rattle.ndis_base.specs.declared.ModuleState.TheVariants as state
use Rattle.ndis_base.specs.declared.OidKind.{OidKind}
use Rattle.ndis_base.specs.declared.Phase.{Phase}
use Rattle.ndis_base.specs.declared.Phase.TheVariants as phase
use Rattle.journal_types.specs.declared.Event.{Event}
use Rattle.journal_types.specs.declared.Event.TheVariants as event
use Rattle.journal_types.specs.declared.Reply.{Reply}
use Rattle.journal_types.specs.declared.Reply.TheVariants as reply
use Rattle.journal_types.specs.declared.Row.{Row}
use Rattle.journal_types.specs.declared.Row.TheVariants as row
use Rattle.journal_types.specs.declared.StackHead.{StackHead}
use Rattle.journal_types.specs.declared.Turn.{Turn}
use Rattle.stack_rules.specs.declared.Answered.{Answered}
use Rattle.stack_rules.specs.declared.Choice.{Choice}
use Rattle.stack_rules.specs.declared.Thing.{Thing}
use Rattle.stack_rules.specs.declared.Thing.TheVariants as thing
use Rattle.stack_rules.specs.Tests.{is_unbound}
use Rattle.stack_rules.specs.Net.{Net, start, told, after_rows, after_turn, after_turns, seen}
use Rattle.stack_rules.specs.Outcome.{Outcome, oid_no}
use Rattle.stack_rules.specs.Places.{agenda_first, is_away, state_of}
use Rattle.stack_rules.specs.Requests.{Giving, next_giving, ask_outcome}
use Rattle.stack_rules.specs.Pumps.{moved_rows, request_pump, pump_of, pump_outcome, is_pump_moving}
use Rattle.stack_rules.specs.Statuses.{status_rows}
use Rattle.stack_rules.specs.Drains.{drain_rows, drained, drain_outcome}
use Rattle.stack_rules.specs.Sound.{outcome, SoundFrom, Sound}
use Rattle.state_laws.specs.Shape.{IsDistinct, Fits, IsShaped}
use Rattle.state_laws.proofs.Rows.{by_test, is_calm, AreCalm}
use Rattle.state_laws.proofs.Calm.{calm_moved, calm_status, calm_drained, calm_event}
use Rattle.state_laws.proofs.Events.{at_phase, state_after, turn_is, shaped_start, shaped_turns}
use Rattle.place_laws.specs.Kept.{IsGiven, IsAsked}
use Rattle.request_laws.specs.Requested.{IsRequested}
use Rattle.request_laws.proofs.Asked.{HasHolder, HasNoClone, IsAbove, none_some, Each-implies}
use Rattle.request_laws.proofs.Finds.{EachRequest-implies, each_found}
use Rattle.request_laws.proofs.Answers.{answered, each_answer, answer_found}
use Rattle.request_laws.proofs.Rows.{found_in, IsKept, AsksSame, asks-refl, asks-then, kept_same, is_still, AreStill, still_rows, kept_issue, kept_done, kept_start}
use Rattle.request_laws.proofs.Givings.{gives_next, kept_giving}
use Rattle.request_laws.proofs.Phases.{kept_still, kept_initialize, kept_begin, kept_pause, kept_restart, kept_halting, kept_insert, kept_remove, kept_replace}

-- rows of lists and statuses tell nothing of requests
still_one : (r : Row) → is_calm r ≡ true → is_still r ≡ true
still_one (row.Phase of) h = cc
still_one (row.Config config filters) h = cc
still_one (row.OidIssue request parent binding kind code value) h = cc
still_one (row.OidGive request m) h = cc
still_one (row.OidDone request status value) h = cc
still_one _ h = refl

still_all : (rows : List Row) → AreCalm rows → AreStill rows
still_all [] h = tt
still_all (r ∷ rows) h = (still_one r h.0, still_all rows h.1)

told_asks : (net : Net) (e : Event) (r : Reply) → AsksSame net (told net e r)
told_asks net (event.Insert kind position setup) (reply.Inserted f) = record { order = refl; requests = refl; answers = refl; number = refl; phase = λ e. e }
told_asks net (event.Replace old kind setup) (reply.Replaced f) = record { order = refl; requests = refl; answers = refl; number = refl; phase = λ e. e }
told_asks net (event.CrossTakeUp binding vlan) (reply.Taken message frames) = record { order = refl; requests = refl; answers = refl; number = refl; phase = λ e. e }
told_asks net e r = asks-refl net

kept_calm : (net : Net) (e : Event) (o : Outcome) → IsKept net → AreCalm o.rows → IsKept (state_after net e o)
kept_calm net e o k h =
    let now : Net = told net e o.reply in
    kept_same net (after_rows now o.rows) (asks-then net now (after_rows now o.rows) (told_asks net e o.reply) (still_rows now o.rows (still_all o.rows h))) k

-- no filter is twice in the order
distinct : (net : Net) → IsShaped net → IsDistinct net.modules.order
distinct net s = by net.phase s.fits
  where
    by : (p : Phase) → Fits (length net.head.bindings) net.next.filter net.modules s.front p → IsDistinct net.modules.order
    by phase.Halted f = f.0.distinct
    by phase.Paused f = f.0.distinct
    by phase.Restarting f = f.0.distinct
    by phase.Running f = f.0.distinct
    by phase.Pausing f = f.0.distinct

-- a halted stack is asked nothing, since no binding is bound
all_unbound : (many b : ℕ) → get_or (replicate many state.Unbound) b state.Unbound ≡ state.Unbound
all_unbound many b = grind (arith, get_or-replicate many b state.Unbound state.Unbound, get_or_past (replicate many state.Unbound) b state.Unbound, length-replicate many state.Unbound)

kept_ask : (net : Net) (s : IsShaped net) (binding : ℕ) (kind : OidKind) (code : ℕ) (value : List ℕ) → IsKept net → IsKept (state_after net (event.Ask binding kind code value) (ask_outcome net binding kind code value))
kept_ask net s binding kind code value k =
    by_test (λ o. IsKept (state_after net (event.Ask binding kind code value) o)) (is_unbound (state_of net (Binding binding))) _ _ (λ _. k)
    (λ t. kept_issue net (oid_no net.next.request) None binding kind code value k refl
    (λ e. let f = at_phase net phase.Halted s e in
    let unbound : state_of net (Binding binding) ≡ state.Unbound = ap (λ states. get_or states binding state.Unbound) f.0.bindings ∙ all_unbound (length net.head.bindings) binding in
    let same : is_unbound (state_of net (Binding binding)) ≡ true = ap is_unbound unbound in
    cc)
    (λ g e. absurd (none_some g e)))

-- a pump
kept_answer : (net : Net) (a : Answered) → IsKept net → agenda_first net ≡ Some (thing.Answer a) → IsKept (after_rows net (row.OidDone a.parent a.status a.value ∷ []))
kept_answer net a k e =
    let h : HasHolder net.modules.order (found_in net) a.parent.0 = answer_found (λ a. HasHolder net.modules.order (found_in net) a.parent.0) is_away net.things a k.asked.held e in
    let alone : HasNoClone (found_in net) a.parent.0 = answer_found (λ a. HasNoClone (found_in net) a.parent.0) is_away net.things a k.asked.alone e in
    kept_done net a.parent a.status a.value h.1.request k h.1.here alone

kept_request : (net : Net) (s : IsShaped net) (o : Option Giving) → IsKept net → next_giving net ≡ o → IsKept (after_rows net (request_pump net o).rows)
kept_request net s None k e = k
kept_request net s (Some g) k e = kept_giving net g k (distinct net s) (gives_next net g e)

kept_pump_of : (net : Net) (s : IsShaped net) (keeps : Bool) (o : Option Thing) → IsKept net → agenda_first net ≡ o → IsKept (after_rows net (pump_of net keeps o).rows)
kept_pump_of net s keeps None k e = kept_request net s (next_giving net) k refl
kept_pump_of net s keeps (Some (thing.List l)) k e = kept_still net _ k (still_all (moved_rows net l l.stand keeps) (calm_moved net l l.stand keeps))
kept_pump_of net s keeps (Some (thing.Status a)) k e = kept_still net _ k (still_all (status_rows net a.number a.name a.to) (calm_status net a.number a.name a.to))
kept_pump_of net s keeps (Some (thing.Answer a)) k e = kept_answer net a k e

kept_pump : (net : Net) (s : IsShaped net) (keeps : Bool) → IsKept net → IsKept (after_rows net (pump_outcome net keeps).rows)
kept_pump net s keeps k = kept_pump_of net s keeps (agenda_first net) k refl

kept_drain : (net : Net) (s : IsShaped net) (keeps : Bool) → IsKept net → IsKept (after_rows net (drain_outcome net keeps).rows)
kept_drain net s keeps k =
    by_test (λ (o : Outcome). IsKept (after_rows net o.rows)) (is_pump_moving net) _ _ (λ _. kept_pump net s keeps k)
    (λ _. kept_still net (drained (drain_rows net)).rows k (still_all (drained (drain_rows net)).rows (calm_drained net)))

pub event_asks : (net : Net) (s : IsShaped net) (e : Event) (c : Choice) → IsKept net → IsKept (state_after net e (outcome net e c))
event_asks net s event.Initialize c k = kept_initialize net c.refuses k
event_asks net s (event.Insert kind position setup) c k = kept_insert net kind position setup c k
event_asks net s (event.Remove f) c k = kept_remove net f k
event_asks net s (event.Replace old kind setup) c k = kept_replace net old kind setup c k
event_asks net s event.BeginPause c k = kept_begin net k
event_asks net s event.PauseNext c k = kept_pause net k
event_asks net s event.RestartNext c k = kept_restart net k
event_asks net s event.Halt c k = kept_halting net k
event_asks net s (event.Ask binding kind code value) c k = kept_ask net s binding kind code value k
event_asks net s event.Pump c k = kept_pump net s c.keeps k
event_asks net s event.Drain c k = kept_drain net s c.keeps k
event_asks net s e c k = kept_calm net e (outcome net e c) k (calm_event net e c refl)

-- what is kept says where requests and answers stand
requested : (net : Net) → IsKept net → IsRequested net
requested net k = record {
  answers = each_answer (λ a. IsGiven net a.parent.0) net.things
      (Each-implies (λ a. HasHolder net.modules.order (found_in net) a.parent.0) (λ a. IsGiven net a.parent.0)
      (λ a h. record { filter = h.0; request = h.1.request; found = h.1.here; at = h.1.at; there = h.1.there }) (answered net.things) k.asked.held);
  apart = k.apart;
  asked = EachRequest-implies (λ r. found_in net r.request.0 ≡ Some r) (IsAsked net)
      (λ r f g p. let a : IsAbove net.modules.order (found_in net) r.at g.0 = k.asked.asked r.request.0 r g f p in
      record {
        parent = record { filter = a.filter; request = a.parent.request; found = a.parent.here; at = a.parent.at; there = a.parent.there };
        below = a.below;
      }) net.requests (each_found net.requests k.apart);
}

kept_turns : (net : Net) (turns : List Turn) → IsShaped net → IsKept net → SoundFrom net turns → IsKept (after_turns net turns)
kept_turns net [] s k h = k
kept_turns net (turn ∷ turns) s k h =
    kept_turns (after_turn net turn) turns (shaped_turns net (turn ∷ []) s (h.0, tt)) (subst IsKept (sym (turn_is net turn h.0)) (event_asks net s turn.event h.0.choice k)) h.1

pub requested_journal : (head : StackHead) (turns : List Turn) → Sound head turns → IsRequested (seen head turns)
requested_journal head turns h = requested (seen head turns) (kept_turns (start head) turns (shaped_start head) (kept_start head) h)
