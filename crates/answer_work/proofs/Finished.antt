-- An answer at a filter is worked as the rules have it.
use Rattle.std.proofs.Common.{◌≡◌, ℕ, ◌≤◌, ◌<◌, Bool, false, List, [], ◌++◌, Option, Some, length, slice_set, refl, sym, ap, ◌∙◌, subst, arith}
use Rattle.std.proofs.lemmas.List.{set-get_or}
use Rattle.std.proofs.lemmas.List.Elements.{All-nil}
use Rattle.ndis_base.specs.declared.ModuleId.{ModuleId}
use Rattle.ndis_base.specs.declared.ModuleId.TheVariants.{Filter}
use Rattle.ndis_base.specs.declared.OidNo.{OidNo}
use Rattle.journal_types.specs.declared.Event.TheVariants as event
use Rattle.journal_types.specs.declared.Reply.TheVariants as reply
use Rattle.buffer_pools.specs.Views.{PoolView}
use Rattle.stack_rules.specs.declared.Answered.{Answered}
use Rattle.stack_rules.specs.declared.Request.{Request}
use Rattle.stack_rules.specs.declared.RequestAt.TheVariants as at
use Rattle.stack_rules.specs.declared.Thing.TheVariants as thing
use Rattle.stack_rules.specs.Net.{Net, request_of}
use Rattle.stack_rules.specs.Outcome.{Outcome}
use Rattle.stack_rules.specs.Places.{agenda_first}
use Rattle.stack_rules.specs.Pumps.{pump_of, pump_outcome}
use Rattle.stack_rules.specs.Requests.{answer_rows}
use Rattle.promise_rules.specs.declared.Called.TheVariants as called
use Rattle.promise_rules.specs.Calls.{call}
use Rattle.driver_views.specs.States.{FilterState, ProtocolState, called_for}
use Rattle.hand_lemmas.specs.Hands.{Hands}
use Rattle.driver_tray.specs.Tray.{TrayView, completed, first_answer}
use Rattle.book_lemmas.specs.Called.{SitsAt, filter_called}
use Rattle.book_lemmas.specs.Did.{holder_now, asker_now, completes}
use Rattle.book_lemmas.specs.Stands.{IsCarriedSized}
use Rattle.book_lemmas.specs.Views.{BookView, HeldView, no_pool, filter_at, pool_at, seat_of, hands_of}
use Rattle.book_lemmas.proofs.Called.{sits_at, filter_is_called, filter_leaves}
use Rattle.call_lemmas.specs.InCall.{InCall}
use Rattle.call_lemmas.proofs.Answers.{Tally, tally_then, tally_filter, in_completed}
use Rattle.call_lemmas.proofs.Ends.{enters}
use Rattle.call_lemmas.proofs.Served.{counts_call}
use Rattle.book_parts.specs.Events.{IsBook, IsIdle}
use Rattle.book_parts.proofs.Events.{Begins, begins_roomed, begins_called, begins_stands, did_event, Ends}
use Rattle.binding_work.proofs.Sending.{IsDone, any_choice}
use Rattle.filter_work.specs.Works.{called_with}
use Rattle.answer_work.specs.Told.{told_of_answer}
use Rattle.answer_work.specs.Works.{holder_in, FinishesFirst}
use Rattle.answer_work.proofs.Asked.{first_away, given_is}
use Rattle.answer_work.proofs.Bound.{bound_within}
use Rattle.answer_work.proofs.Ended.{told, tally_told, ends_told, book_is}

-- what the rules say of it
pump_is : (net : Net) (keeps : Bool) (a : Answered) → agenda_first net ≡ Some (thing.Answer a) → pump_outcome net keeps ≡ record { reply = reply.Moved; rows = answer_rows a.parent a.status a.value }
pump_is net keeps a first = ap (pump_of net keeps) first

-- only the driver of a filter changed
abbrev filter_set : HeldView → ℕ → FilterState → HeldView
filter_set held place s = record held { filters = slice_set held.filters place s }

same_pool : (held : HeldView) (place : ℕ) (s : FilterState) → filter_called held place s (pool_at held.filter_pools (Some place)) ≡ filter_set held place s
same_pool held place s = ap (λ ps. record held { filters = slice_set held.filters place s; filter_pools = ps }) (set-get_or held.filter_pools place no_pool)

-- the driver that counted it
abbrev finished : FilterState → FilterState
finished s = record s { did = called_for called.OidComplete s.did }

-- what is held once the filter completed the request and the binding was told
abbrev pub finished_at : HeldView → ℕ → FilterState → Option OidNo → ℕ → HeldView
finished_at held place s parent n = told (filter_set held place s) parent n

finished_done : (old : BookView) (t : TrayView) (a : Answered) (r : Request) (f place : ℕ) → IsBook old → IsIdle old → first_answer old.tray.queue ≡ Some a → request_of a.parent.0 old.tray.net.requests ≡ Some r → r.at ≡ at.Given (Filter f) → seat_of old.held.seats f ≡ Some place
    → r.binding < length old.held.protocols → Begins old.tray t [] → 1 ≤ t.room.turns
    → IsDone old (record { tray = completed (record t { caller = Filter f }) a.parent a.status a.value; held = finished_at old.held place (finished (filter_at old.held.filters (Some place))) r.parent r.binding }) event.Pump reply.Moved
finished_done old t a r f place k i first found given seat within begins turns =
    let m : ModuleId = Filter f in
    let net : Net = old.tray.net in
    let pool : PoolView = pool_at old.held.filter_pools (Some place) in
    let s : FilterState = filter_at old.held.filters (Some place) in
    let b : TrayView = called_with t f pool in
    let h : Hands = hands_of b.queue old.held [] in
    let g : Begins old.tray b [] = begins_called m pool begins in
    let stands = begins_stands k g in
    let entered = enters b old.held m [] [] stands refl (ap (pool_at old.held.filter_pools) (sym seat)) (All-nil IsCarriedSized) stands.sized.carried in
    let begin = subst (λ o. InCall b h m [] [] [] b (record { front = []; loose = []; kept = (filter_at old.held.filters o).kept })) seat entered in
    let here : request_of a.parent.0 b.net.requests ≡ Some r = ap (λ (n : Net). request_of a.parent.0 n.requests) g.net ∙ found in
    let left : TrayView = completed b a.parent a.status a.value in
    let done = in_completed a.parent a.status a.value (Some r) here begin in
    let sits : SitsAt old.held f place = sits_at stands f place seat in
    let mid : HeldView = filter_called old.held place (finished s) pool in
    let calls : call m called.OidComplete ++ asker_now r.parent r.binding ≡ completes (Some r) = ap (λ p. holder_now p ++ asker_now r.parent r.binding) (sym given) in
    let first_tally : Tally old.held.seats (call m called.OidComplete) old.held (filter_set old.held place (finished s)) =
    tally_filter old.held f place (finished s) (call m called.OidComplete) sits (refl, tt) (counts_call m called.OidComplete s.did) refl (omega arith) in
    let tally : Tally old.held.seats (call m called.OidComplete ++ asker_now r.parent r.binding) old.held (finished_at old.held place (finished s) r.parent r.binding) =
    tally_then first_tally (tally_told (filter_set old.held place (finished s)) r.parent r.binding within) in
    let ends : Ends old (record { tray = record left { pool = t.pool }; held = told mid r.parent r.binding }) (answer_rows a.parent a.status a.value) =
    ends_told mid r.parent r.binding t.pool k g done (filter_is_called old.held f place (finished s) pool sits)
    (filter_leaves old.held f place (finished s) pool sits refl refl done.size done.bytes) k.stands.ring within (k.stands.protocol_pools ∙ sym k.stands.protocols)
    (subst (λ cs. Tally old.held.seats cs old.held (told mid r.parent r.binding)) calls
    (subst (λ (x : HeldView). Tally old.held.seats (call m called.OidComplete ++ asker_now r.parent r.binding) old.held (told x r.parent r.binding)) (sym (same_pool old.held place (finished s))) tally)) in
    let outcome_is = pump_is net false a (first_away old a k first) in
    let all : IsDone old (record { tray = record left { pool = t.pool }; held = told mid r.parent r.binding }) event.Pump reply.Moved = record {
      did = did_event old _ (answer_rows a.parent a.status a.value) event.Pump any_choice reply.Moved k i ends (sym (ap (λ (o : Outcome). o.reply) outcome_is)) (sym (ap (λ (o : Outcome). o.rows) outcome_is)) refl tt (refl, refl);
      turn = record { room = omega (arith, turns, done.used.turns) };
    } in
    subst (λ (q : HeldView). IsDone old (record { tray = record left { pool = t.pool }; held = told q r.parent r.binding }) event.Pump reply.Moved) (same_pool old.held place (finished s)) all

-- the whole event
pub finished_event : (old new : BookView) (a : Answered) (r : Request) (f place : ℕ) (s' : FilterState) → IsBook old → IsIdle old → first_answer old.tray.queue ≡ Some a → request_of a.parent.0 old.tray.net.requests ≡ Some r → holder_in r.at ≡ Some f
    → seat_of old.held.seats f ≡ Some place → FinishesFirst f a (filter_at old.held.filters (Some place)) old.tray s' new.tray
    → new.held ≡ finished_at old.held place s' r.parent r.binding → IsDone old new event.Pump reply.Moved
finished_event old new a r f place s' k i first found given seat d held =
    subst (λ (v : BookView). IsDone old v event.Pump reply.Moved) (book_is d.finishes.tray (held ∙ ap (λ s. finished_at old.held place s r.parent r.binding) d.finishes.same))
    (finished_done old d.begun a r f place k i first found (given_is r.at f given) seat (bound_within old r a.parent.0 k i found) (begins_roomed old.tray d.begun d.roomed.same d.roomed.covers d.roomed.slack) d.turns)

-- the view with other drivers
pub finished_held : (held : HeldView) (place : ℕ) (s : FilterState) (filters : List FilterState) (parent : Option OidNo) (n : ℕ) (protocols : List ProtocolState)
    → filters ≡ slice_set held.filters place s → protocols ≡ told_of_answer parent n held.protocols → record held { filters = filters; protocols = protocols } ≡ finished_at held place s parent n
finished_held held place s filters parent n protocols e p = ap (λ fs. record held { filters = fs; protocols = protocols }) e ∙ ap (λ ps. record held { filters = slice_set held.filters place s; protocols = ps }) p
