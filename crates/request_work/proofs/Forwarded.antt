-- A request at a filter is forwarded as the rules have it.
use Rattle.std.proofs.Common.{◌≡◌, ℕ, ◌≤◌, Bool, false, List, [], None, Some, slice_set, refl, sym, ap, ◌∙◌, subst, arith}
use Rattle.std.proofs.lemmas.List.{set-get_or}
use Rattle.std.proofs.lemmas.List.Elements.{All-nil}
use Rattle.ndis_base.specs.declared.ModuleId.{ModuleId}
use Rattle.ndis_base.specs.declared.ModuleId.TheVariants.{Filter}
use Rattle.journal_types.specs.declared.Event.TheVariants as event
use Rattle.journal_types.specs.declared.Reply.TheVariants as reply
use Rattle.journal_types.specs.declared.Row.{Row}
use Rattle.buffer_pools.specs.Views.{PoolView}
use Rattle.stack_rules.specs.declared.Request.{Request}
use Rattle.stack_rules.specs.Net.{Net}
use Rattle.stack_rules.specs.Outcome.{Outcome}
use Rattle.stack_rules.specs.Places.{agenda_first}
use Rattle.stack_rules.specs.Pumps.{pump_of, pump_outcome, request_pump}
use Rattle.stack_rules.specs.Requests.{Giving, next_giving, giving_rows}
use Rattle.promise_rules.specs.declared.Called.TheVariants as called
use Rattle.driver_views.specs.States.{FilterState, called_for}
use Rattle.hand_lemmas.specs.Hands.{Hands}
use Rattle.driver_tray.specs.Tray.{TrayView, request_given, forwarded, first_way}
use Rattle.book_lemmas.specs.Called.{SitsAt, filter_called}
use Rattle.book_lemmas.specs.Stands.{IsCarriedSized}
use Rattle.book_lemmas.specs.Views.{BookView, HeldView, no_pool, filter_at, pool_at, seat_of, hands_of}
use Rattle.book_lemmas.proofs.Called.{sits_at, filter_is_called, filter_leaves}
use Rattle.call_lemmas.specs.InCall.{InCall}
use Rattle.call_lemmas.proofs.Ends.{enters}
use Rattle.call_lemmas.proofs.Requests.{in_request_given, in_forwarded}
use Rattle.call_lemmas.proofs.Served.{counts_call, did_filter}
use Rattle.book_parts.specs.Events.{IsBook, IsIdle}
use Rattle.book_parts.proofs.Events.{Begins, begins_roomed, begins_called, begins_stands, did_event, ends_call}
use Rattle.binding_work.proofs.Sending.{IsDone, any_choice}
use Rattle.filter_work.specs.Works.{called_with}
use Rattle.request_work.specs.Works.{ForwardsFirst}
use Rattle.request_work.proofs.Gives.{GivesTo, first_is}

-- what the rules say of it
pump_is : (net : Net) (keeps : Bool) (g : Giving) → agenda_first net ≡ None → next_giving net ≡ Some g → pump_outcome net keeps ≡ record { reply = reply.Moved; rows = giving_rows net g }
pump_is net keeps g none next = ap (pump_of net keeps) none ∙ ap (request_pump net) next

-- only the driver of a filter changed
abbrev filter_asked : HeldView → ℕ → FilterState → HeldView
filter_asked held place s = record held { filters = slice_set held.filters place s }

-- its pool is what it was
same_pool : (held : HeldView) (place : ℕ) (s : FilterState) → filter_called held place s (pool_at held.filter_pools (Some place)) ≡ filter_asked held place s
same_pool held place s = ap (λ ps. record held { filters = slice_set held.filters place s; filter_pools = ps }) (set-get_or held.filter_pools place no_pool)

-- the driver that counted a request
abbrev counted : FilterState → FilterState
counted s = record s { did = called_for called.Oid s.did }

abbrev given_rows : Net → Request → ℕ → List Row
given_rows net r f = giving_rows net (record { request = r; module_id = Filter f })

forwarded_done : (old : BookView) (t : TrayView) (r : Request) (f place : ℕ) → IsBook old → IsIdle old → first_way old.tray.queue ≡ None → GivesTo old r f → seat_of old.held.seats f ≡ Some place
    → Begins old.tray t [] → 1 ≤ t.room.turns
    → IsDone old (record { tray = forwarded (request_given (record t { caller = Filter f }) r.request (Filter f)) r; held = filter_asked old.held place (counted (filter_at old.held.filters (Some place))) }) event.Pump reply.Moved
forwarded_done old t r f place k i none next seat begins turns =
    let m : ModuleId = Filter f in
    let net : Net = old.tray.net in
    let pool : PoolView = pool_at old.held.filter_pools (Some place) in
    let s : FilterState = filter_at old.held.filters (Some place) in
    let b : TrayView = called_with t f pool in
    let h : Hands = hands_of b.queue old.held [] in
    let g : Begins old.tray b [] = begins_called m pool begins in
    let stands = begins_stands k g in
    let entered = enters b old.held m [] [] stands refl (ap (pool_at old.held.filter_pools) (sym seat)) (All-nil IsCarriedSized) stands.sized.carried in
    let begin = subst (λ o. InCall b h m [] [] [] b (record { front = []; loose = []; kept = (filter_at old.held.filters o).kept })) seat entered in
    let left : TrayView = forwarded (request_given b r.request m) r in
    let done = in_forwarded r (in_request_given r.request begin) in
    let sits : SitsAt old.held f place = sits_at stands f place seat in
    let held : HeldView = filter_called old.held place (counted s) pool in
    let ends = ends_call held t.pool k g done (filter_is_called old.held f place (counted s) pool sits)
    (filter_leaves old.held f place (counted s) pool sits refl refl done.size done.bytes) k.stands.ring
    (did_filter old.held place (counted s) pool done sits (refl, tt) (counts_call m called.Oid s.did) refl (omega arith)) in
    let outcome_is = pump_is net false (record { request = r; module_id = m }) (first_is old k none) next in
    let all : IsDone old (record { tray = record left { pool = t.pool }; held = held }) event.Pump reply.Moved = record {
      did = did_event old _ (given_rows b.net r f) event.Pump any_choice reply.Moved k i ends (sym (ap (λ (o : Outcome). o.reply) outcome_is))
          (ap (λ (n : Net). given_rows n r f) g.net ∙ sym (ap (λ (o : Outcome). o.rows) outcome_is)) refl tt (refl, refl);
      turn = record { room = omega (arith, turns, done.used.turns) };
    } in
    subst (λ (q : HeldView). IsDone old (record { tray = record left { pool = t.pool }; held = q }) event.Pump reply.Moved) (same_pool old.held place (counted s)) all

book_is : {new : BookView} {t : TrayView} {h : HeldView} → new.tray ≡ t → new.held ≡ h → record { tray = t; held = h } ≡ new
book_is {new} {t} {h} e f = ap (λ x. record { tray = x; held = h }) (sym e) ∙ ap (λ x. record { tray = new.tray; held = x }) (sym f)

-- the filter at the place forwarded it
pub forwarded_event : (old new : BookView) (r : Request) (f place : ℕ) (s' : FilterState) → IsBook old → IsIdle old → first_way old.tray.queue ≡ None → GivesTo old r f → seat_of old.held.seats f ≡ Some place
    → ForwardsFirst f r (filter_at old.held.filters (Some place)) old.tray s' new.tray → new.held ≡ filter_asked old.held place s' → IsDone old new event.Pump reply.Moved
forwarded_event old new r f place s' k i none next seat d held =
    subst (λ (v : BookView). IsDone old v event.Pump reply.Moved) (book_is d.forwards.tray (held ∙ ap (filter_asked old.held place) d.forwards.same))
    (forwarded_done old d.begun r f place k i none next seat (begins_roomed old.tray d.begun d.roomed.same d.roomed.covers d.roomed.slack) d.turns)

-- the view with other filters
pub asked_at : (held : HeldView) (place : ℕ) (s : FilterState) (filters : List FilterState) → filters ≡ slice_set held.filters place s → record held { filters = filters } ≡ filter_asked held place s
asked_at held place s filters e = ap (λ fs. record held { filters = fs }) e
