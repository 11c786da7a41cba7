-- The miniport answers a request as the rules have it.
use Rattle.std.proofs.Common.{◌≡◌, ℕ, ◌≤◌, ◌<◌, cond, Bool, false, List, [], ◌++◌, Option, Some, None, option_map, length, refl, sym, ap, ◌∙◌, subst, arith, eq-eqb}
use Rattle.ndis_base.specs.declared.ModuleId.TheVariants.{Miniport}
use Rattle.ndis_base.specs.declared.OidNo.{OidNo}
use Rattle.journal_types.specs.declared.Event.TheVariants as event
use Rattle.journal_types.specs.declared.Reply.TheVariants as reply
use Rattle.journal_types.specs.declared.Row.TheVariants as row
use Rattle.buffer_pools.specs.Views.{PoolView}
use Rattle.stack_rules.specs.declared.Request.{Request}
use Rattle.stack_rules.specs.declared.RequestAt.TheVariants as at
use Rattle.stack_rules.specs.Net.{Net, after, request_of, given_to}
use Rattle.stack_rules.specs.OidTable.{report_of}
use Rattle.stack_rules.specs.Outcome.{Outcome}
use Rattle.stack_rules.specs.Places.{agenda_first}
use Rattle.stack_rules.specs.Pumps.{pump_of, pump_outcome, request_pump}
use Rattle.stack_rules.specs.Requests.{Giving, next_giving, giving_rows}
use Rattle.request_laws.proofs.Finds.{found_given}
use Rattle.promise_rules.specs.declared.Called.TheVariants as called
use Rattle.promise_rules.specs.Calls.{call}
use Rattle.driver_views.specs.States.{MiniportState, ProtocolState}
use Rattle.driver_tray.specs.Tray.{TrayView, first_way}
use Rattle.book_lemmas.specs.Called.{miniport_called}
use Rattle.book_lemmas.specs.Did.{asker_now}
use Rattle.book_lemmas.specs.Views.{BookView, HeldView}
use Rattle.book_lemmas.proofs.Called.{miniport_is_called, miniport_leaves}
use Rattle.call_lemmas.proofs.Answers.{Tally, tally_then, tally_miniport, in_completed}
use Rattle.call_lemmas.proofs.Requests.{in_request_given}
use Rattle.call_lemmas.proofs.Served.{counts_call}
use Rattle.book_parts.specs.Events.{IsBook, IsIdle}
use Rattle.book_parts.proofs.Events.{Begins, begins_roomed, begins_called, did_event, Ends}
use Rattle.miniport_work.specs.Works.{called_with}
use Rattle.miniport_work.proofs.Ended.{begins_call}
use Rattle.binding_work.proofs.Sending.{IsDone, any_choice}
use Rattle.filter_work.specs.Works.{IsRoomed}
use Rattle.answer_work.specs.Told.{told_of_answer}
use Rattle.answer_work.specs.Works.{reported, asked, Reports}
use Rattle.answer_work.proofs.Asked.{nothing_away, next_found}
use Rattle.answer_work.proofs.Bound.{bound_within}
use Rattle.answer_work.proofs.Ended.{told, tally_told, ends_told, book_is}

-- what is given to the miniport
abbrev pub giving : Request → Giving
giving r = record { request = r; module_id = Miniport }

-- what the rules say of it
pump_is : (net : Net) (keeps : Bool) (r : Request) → agenda_first net ≡ None → next_giving net ≡ Some (giving r) → pump_outcome net keeps ≡ record { reply = reply.Moved; rows = giving_rows net (giving r) }
pump_is net keeps r first next = ap (pump_of net keeps) first ∙ ap (request_pump net) next

-- the request once it is given
given_now : (net : Net) (r : Request) → request_of r.request.0 net.requests ≡ Some r → request_of r.request.0 (after net (row.OidGive r.request Miniport)).requests ≡ Some (record r { at = at.Given Miniport })
given_now net r found =
    found_given r.request.0 Miniport net.requests r.request.0 ∙ ap (option_map (given_to r.request.0 Miniport)) found
    ∙ ap (λ b. Some (cond b (record r { at = at.Given Miniport }) r)) (eq-eqb r.request.0 r.request.0 refl)

-- what is held once the miniport answered and the binding was told
abbrev pub reported_at : HeldView → MiniportState → Option OidNo → ℕ → HeldView
reported_at held s parent n = told (record held { miniport = s }) parent n

reported_done : (old : BookView) (t : TrayView) (r : Request) → IsBook old → IsIdle old → first_way old.tray.queue ≡ None → next_giving old.tray.net ≡ Some (giving r) → r.binding < length old.held.protocols → Begins old.tray t [] → 1 ≤ t.room.turns
    → IsDone old (record { tray = reported r t; held = reported_at old.held (asked old.held.miniport) r.parent r.binding }) event.Pump reply.Moved
reported_done old t r k i none next within begins turns =
    let net : Net = old.tray.net in
    let pool : PoolView = old.held.miniport_pool in
    let s : MiniportState = asked old.held.miniport in
    let b : TrayView = called_with t pool in
    let g : Begins old.tray b [] = begins_called Miniport pool begins in
    let here : request_of r.request.0 b.net.requests ≡ Some r = ap (λ (n : Net). request_of r.request.0 n.requests) g.net ∙ next_found old r k i next in
    let given = in_request_given r.request (begins_call k begins) in
    let done = in_completed r.request (report_of t.net r).status (report_of t.net r).value (Some (record r { at = at.Given Miniport })) (given_now b.net r here) given in
    let left : TrayView = reported r b in
    let mid : HeldView = miniport_called old.held s pool in
    let first_tally : Tally old.held.seats (call Miniport called.Oid) old.held mid =
    tally_miniport old.held s (call Miniport called.Oid) (refl, tt) (counts_call Miniport called.Oid old.held.miniport.did) (omega arith) in
    let tally : Tally old.held.seats (call Miniport called.Oid ++ asker_now r.parent r.binding) old.held (told mid r.parent r.binding) = tally_then first_tally (tally_told mid r.parent r.binding within) in
    let ends : Ends old (record { tray = record left { pool = t.pool }; held = told mid r.parent r.binding }) (giving_rows t.net (giving r)) =
    ends_told mid r.parent r.binding t.pool k g done (miniport_is_called old.held s pool)
    (miniport_leaves old.held s pool refl refl done.size done.bytes) k.stands.ring within (k.stands.protocol_pools ∙ sym k.stands.protocols) tally in
    let outcome_is = pump_is net false r (nothing_away old k none) next in
    record {
      did = did_event old _ (giving_rows t.net (giving r)) event.Pump any_choice reply.Moved k i ends (sym (ap (λ (o : Outcome). o.reply) outcome_is))
          (ap (λ (n : Net). giving_rows n (giving r)) g.net ∙ sym (ap (λ (o : Outcome). o.rows) outcome_is)) refl tt (refl, refl);
      turn = record { room = omega (arith, turns, done.used.turns) };
    }

-- the request that the miniport is given next is of a binding that has a protocol
pub next_bound : (old : BookView) (r : Request) → IsBook old → IsIdle old → next_giving old.tray.net ≡ Some (giving r) → r.binding < length old.held.protocols
next_bound old r k i next = bound_within old r r.request.0 k i (next_found old r k i next)

-- the whole event
pub reported_event : (old new : BookView) (t : TrayView) (r : Request) (s' : MiniportState) → IsBook old → IsIdle old → first_way old.tray.queue ≡ None → next_giving old.tray.net ≡ Some (giving r)
    → IsRoomed old.tray t → 1 ≤ t.room.turns → Reports r old.held.miniport t s' new.tray → new.held ≡ reported_at old.held s' r.parent r.binding → IsDone old new event.Pump reply.Moved
reported_event old new t r s' k i none next roomed turns d held =
    subst (λ (v : BookView). IsDone old v event.Pump reply.Moved) (book_is d.tray (held ∙ ap (λ s. reported_at old.held s r.parent r.binding) d.same))
    (reported_done old t r k i none next (next_bound old r k i next) (begins_roomed old.tray t roomed.same roomed.covers roomed.slack) turns)

-- the view with other drivers
pub reported_held : (held : HeldView) (s : MiniportState) (parent : Option OidNo) (n : ℕ) (protocols : List ProtocolState) → protocols ≡ told_of_answer parent n held.protocols → record held { miniport = s; protocols = protocols } ≡ reported_at held s parent n
reported_held held s parent n protocols e = ap (λ ps. record held { miniport = s; protocols = ps }) e
