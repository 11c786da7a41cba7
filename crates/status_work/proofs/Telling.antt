-- A status at the bindings is worked as the rules have it.
use Rattle.std.proofs.Common.{◌≡◌, ℕ, zero, suc, ◌+◌, ◌≤◌, ◌<◌, false, List, [], ◌∷◌, ◌++◌, Some, length, slice_index_or, slice_set, refl, sym, ap, ◌∙◌, subst, arith, append_assoc, append-nil}
use Rattle.std.proofs.lemmas.List.{set-get_or}
use Rattle.std.proofs.lemmas.List.Elements.{All-nil}
use Rattle.ndis_base.specs.declared.ModuleId.{ModuleId}
use Rattle.ndis_base.specs.declared.ModuleId.TheVariants.{Binding}
use Rattle.ndis_base.specs.declared.ModuleState.{ModuleState}
use Rattle.ndis_base.specs.declared.StatusNo.{StatusNo}
use Rattle.journal_types.specs.declared.Event.TheVariants as event
use Rattle.journal_types.specs.declared.Reply.TheVariants as reply
use Rattle.journal_types.specs.declared.Row.{Row}
use Rattle.journal_types.specs.declared.Row.TheVariants as row
use Rattle.journal_types.specs.declared.Target.TheVariants.{Bindings}
use Rattle.buffer_pools.specs.Views.{PoolView}
use Rattle.stack_rules.specs.declared.StatusAway.{StatusAway}
use Rattle.stack_rules.specs.Net.{Net}
use Rattle.stack_rules.specs.Outcome.{Outcome}
use Rattle.stack_rules.specs.Statuses.{seen_by_all, status_rows}
use Rattle.promise_rules.specs.declared.Called.TheVariants as called
use Rattle.driver_views.specs.States.{ProtocolState}
use Rattle.driver_tray.specs.Tray.{TrayView, first_status}
use Rattle.book_lemmas.specs.Called.{protocol_called}
use Rattle.book_lemmas.specs.Stands.{IsCarriedSized}
use Rattle.book_lemmas.specs.Views.{BookView, HeldView, no_pool, no_protocol}
use Rattle.book_lemmas.proofs.Between.{bindings_count}
use Rattle.book_lemmas.proofs.Called.{protocol_is_called, protocol_leaves}
use Rattle.call_lemmas.proofs.Ends.{enters}
use Rattle.call_lemmas.proofs.Served.{counts_call, did_protocol}
use Rattle.call_lemmas.proofs.Statuses.{in_seen}
use Rattle.book_parts.specs.Events.{IsBook, IsIdle}
use Rattle.book_parts.proofs.Events.{Ends, begins_roomed, did_event, ends_still}
use Rattle.binding_work.specs.Sends.{called_with}
use Rattle.binding_work.proofs.Sending.{IsDone, any_choice, between}
use Rattle.delivery_work.proofs.Further.{ends_further}
use Rattle.filter_work.specs.Works.{IsRoomed}
use Rattle.status_work.specs.Told.{seen_by_first, heard, heard_by_first}
use Rattle.status_work.proofs.Firsts.{first_away}
use Rattle.status_work.proofs.Heard.{heard_length, seen_turns}
use Rattle.status_work.proofs.Seen.{pump_is}

-- only the protocols changed
abbrev pub protocols_heard : HeldView → List ProtocolState → HeldView
protocols_heard held protocols = record held { protocols = protocols }

-- the book once so many bindings saw the status
abbrev pub told : BookView → TrayView → StatusNo → ℕ → BookView
told old t number b = record { tray = seen_by_first b number t; held = protocols_heard old.held (heard_by_first b old.held.protocols) }

-- the rows of the first so many bindings
abbrev rows_of_first : ℕ → StatusNo → List Row
rows_of_first zero number = []
rows_of_first (suc b) number = rows_of_first b number ++ row.Seen number (Binding b) ∷ []

-- the rules' rows from a binding on follow those of the bindings before it
rows_from : (number : StatusNo) (b : ℕ) (ss : List ModuleState) → rows_of_first b number ++ seen_by_all number b ss ≡ rows_of_first (b + length ss) number
rows_from number b [] = append-nil (rows_of_first b number) ∙ ap (λ n. rows_of_first n number) (let none : b ≡ b + 0 = omega arith in none)
rows_from number b (s ∷ ss) =
    let next : suc b ≡ b + 1 = omega arith in
    let all : (b + 1) + length ss ≡ b + length (s ∷ ss) = omega arith in
    sym (append_assoc (rows_of_first b number) (row.Seen number (Binding b) ∷ []) (seen_by_all number (b + 1) ss))
    ∙ ap (λ n. rows_of_first n number ++ seen_by_all number (b + 1) ss) next
    ∙ rows_from number (b + 1) ss
    ∙ ap (λ n. rows_of_first n number) all

rows_are : (number : StatusNo) (many : ℕ) (ss : List ModuleState) → many ≡ length ss → rows_of_first many number ≡ seen_by_all number 0 ss
rows_are number many ss count = ap (λ n. rows_of_first n number) count ∙ ap (λ n. rows_of_first n number) (let all : length ss ≡ 0 + length ss = omega arith in all) ∙ sym (rows_from number 0 ss)

-- which module is called matters to no event
recalled : {old : BookView} {held : HeldView} {rows : List Row} (t : TrayView) (m : ModuleId) → Ends old (record { tray = record t { caller = m }; held = held }) rows → Ends old (record { tray = t; held = held }) rows
recalled t m e = record {
  head = e.head;
  turns = e.turns;
  told_by = e.told_by;
  net = e.net;
  rows_are = e.rows_are;
  used = record { rows_used = e.used.rows_used; frames = e.used.frames; bytes = e.used.bytes; slack = e.used.slack; turns = e.used.turns; payloads = e.used.payloads };
  did = e.did;
  stands = e.stands;
}

-- the protocol's pool is what it was
same_pool : (held : HeldView) (b : ℕ) (s : ProtocolState) → protocol_called held b s (slice_index_or held.protocol_pools b no_pool) ≡ protocols_heard held (slice_set held.protocols b s)
same_pool held b s = ap (λ ps. record held { protocols = slice_set held.protocols b s; protocol_pools = ps }) (set-get_or held.protocol_pools b no_pool)

-- one more binding sees the status
tell_step : (old : BookView) (t : TrayView) (number : StatusNo) (b : ℕ) (rows : List Row) → Ends old (told old t number b) rows → b < length old.held.protocols → length old.held.protocol_pools ≡ length old.held.protocols
    → Ends old (told old t number (suc b)) (rows ++ row.Seen number (Binding b) ∷ [])
tell_step old t number b rows e within pools =
    let m : ModuleId = Binding b in
    let held : HeldView = (told old t number b).held in
    let now : TrayView = seen_by_first b number t in
    let s : ProtocolState = slice_index_or held.protocols b no_protocol in
    let pool : PoolView = slice_index_or held.protocol_pools b no_pool in
    let there : b < length held.protocols = subst (λ n. b < n) (sym (heard_length b old.held.protocols)) within in
    let housed : b < length held.protocol_pools = omega (arith, within, pools) in
    let entered = enters (called_with now m pool) held m [] [] e.stands refl refl (All-nil IsCarriedSized) e.stands.sized.carried in
    let in_call = in_seen number entered in
    let further = ends_further now held [] rows (protocol_called held b (heard s) pool) now.pool e in_call (protocol_is_called held b (heard s) pool there housed)
    (protocol_leaves held b (heard s) pool there housed refl refl in_call.size in_call.bytes) e.stands.ring
    (did_protocol held (heard s) pool in_call there (refl, tt) (counts_call m called.Status s.did)) in
    recalled (seen_by_first (suc b) number t) m
    (subst (λ (h : HeldView). Ends old (record { tray = record (seen_by_first (suc b) number t) { caller = m }; held = h }) (rows ++ row.Seen number m ∷ [])) (same_pool held b (heard s)) further)

all_told : (old : BookView) (t : TrayView) (number : StatusNo) (b : ℕ) → Ends old (told old t number 0) [] → b ≤ length old.held.protocols → length old.held.protocol_pools ≡ length old.held.protocols
    → Ends old (told old t number b) (rows_of_first b number)
all_told old t number zero e within pools = e
all_told old t number (suc b) e within pools = tell_step old t number b (rows_of_first b number) (all_told old t number b e (omega (arith, within)) pools) (omega (arith, within)) pools

book_is : {new : BookView} {t : TrayView} {h : HeldView} → new.tray ≡ t → new.held ≡ h → record { tray = t; held = h } ≡ new
book_is {new} {t} {h} e f = ap (λ x. record { tray = x; held = h }) (sym e) ∙ ap (λ x. record { tray = new.tray; held = x }) (sym f)

-- the whole event
pub told_event : (old new : BookView) (t : TrayView) (x : StatusAway) (many : ℕ) → IsBook old → IsIdle old → first_status old.tray.queue ≡ Some x → x.to ≡ Bindings → IsRoomed old.tray t → 1 ≤ t.room.turns → many ≡ length old.held.protocols
    → new.tray ≡ seen_by_first many x.number t → new.held ≡ protocols_heard old.held (heard_by_first many old.held.protocols) → IsDone old new event.Pump reply.Moved
told_event old new t x many k i first to r turns count tray held =
    let net : Net = old.tray.net in
    let pools : length old.held.protocol_pools ≡ length old.held.protocols = k.stands.protocol_pools ∙ sym k.stands.protocols in
    let ends = all_told old t x.number many (ends_still t k (begins_roomed old.tray t r.same r.covers r.slack)) (omega (arith, count)) pools in
    let all : many ≡ length net.modules.bindings = count ∙ k.stands.protocols ∙ sym (bindings_count (between old k i)) in
    let outcome_is = pump_is net false x (first_away old x k first) in
    let left = seen_turns many x.number t in
    subst (λ (v : BookView). IsDone old v event.Pump reply.Moved) (book_is tray held)
    (record {
      did = did_event old (told old t x.number many) (rows_of_first many x.number) event.Pump any_choice reply.Moved k i ends (sym (ap (λ (o : Outcome). o.reply) outcome_is))
          (rows_are x.number many net.modules.bindings all ∙ ap (status_rows net x.number x.name) (sym to) ∙ sym (ap (λ (o : Outcome). o.rows) outcome_is)) refl tt (refl, refl);
      turn = record { room = omega (arith, turns, left) };
    })
