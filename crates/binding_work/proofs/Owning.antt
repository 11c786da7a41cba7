-- A receive that one binding takes is delivered as the rules have it.
use Rattle.std.proofs.Common.{◌≡◌, ℕ, ◌≤◌, ◌==◌, ◌&&◌, not, Bool, true, false, cond, List, [], ◌∷◌, ◌++◌, slice_index_or, refl, sym, ap, ◌∙◌, subst, arith, append-nil, All}
use Rattle.std.proofs.lemmas.List.Elements.{All-nil, All-cons, All-head, All-tail}
use Rattle.ndis_base.specs.declared.ListStatus.TheVariants.{Paused}
use Rattle.ndis_base.specs.declared.ModuleId.{ModuleId}
use Rattle.ndis_base.specs.declared.ModuleId.TheVariants.{Binding}
use Rattle.ndis_base.specs.declared.Phase.TheVariants as phase
use Rattle.ndis_base.specs.declared.ProtocolKind.{ProtocolKind}
use Rattle.journal_types.specs.declared.Event.TheVariants as event
use Rattle.journal_types.specs.declared.How.TheVariants.{Own}
use Rattle.journal_types.specs.declared.PassWay.TheVariants as way
use Rattle.journal_types.specs.declared.Reply.TheVariants as reply
use Rattle.journal_types.specs.declared.Row.{Row}
use Rattle.journal_types.specs.declared.Row.TheVariants as row
use Rattle.journal_types.specs.declared.Target.TheVariants.{Bindings}
use Rattle.buffer_pools.specs.Views.{ListView, PoolView, live_count}
use Rattle.stack_rules.specs.declared.Choice.{Choice}
use Rattle.stack_rules.specs.declared.LiveList.{LiveList}
use Rattle.stack_rules.specs.Deliveries.{takers, echoes, echoed, delivered, settled, last_of, delivery_rows}
use Rattle.stack_rules.specs.Heads.{kind_of_binding}
use Rattle.stack_rules.specs.Net.{Net}
use Rattle.stack_rules.specs.Outcome.{Outcome}
use Rattle.stack_rules.specs.Places.{is_full}
use Rattle.stack_rules.specs.Pumps.{moved_rows}
use Rattle.stack_rules.specs.Targets.{turned_back}
use Rattle.stack_rules.specs.Tests.{phase_is_running, is_echo, is_retain}
use Rattle.promise_rules.specs.declared.Called.TheVariants as called
use Rattle.promise_rules.specs.Calls.{call}
use Rattle.agenda_items.specs.declared.Carried.{Carried}
use Rattle.agenda_items.specs.declared.Carried.TheVariants.{List as a_list}
use Rattle.driver_views.specs.States.{ProtocolState}
use Rattle.hand_lemmas.specs.Hands.{Common, in_hand, in_state}
use Rattle.hand_lemmas.proofs.Tells.{IsNext, next_list}
use Rattle.book_lemmas.specs.Called.{protocol_called}
use Rattle.book_lemmas.specs.Stands.{IsCarriedSized}
use Rattle.book_lemmas.specs.Views.{BookView, no_protocol, held_pool, hands_of}
use Rattle.book_lemmas.proofs.Called.{protocol_is_called, protocol_leaves}
use Rattle.driver_tray.specs.Tray as tray
use Rattle.driver_tray.specs.Tray.{TrayView}
use Rattle.driver_calls.specs.Protocols.{IsReceived}
use Rattle.call_lemmas.specs.Served.{Counts}
use Rattle.call_lemmas.proofs.Deliveries.{does_echo, settle_rows, taker_counts, in_received}
use Rattle.call_lemmas.proofs.Ends.{enters}
use Rattle.call_lemmas.proofs.Served.{did_protocol}
use Rattle.book_parts.specs.Events.{IsBook, IsIdle}
use Rattle.book_parts.proofs.Events.{Begins, begins_called, begins_stands, did_event, ends_call}
use Rattle.binding_work.specs.Sends.{called_with}
use Rattle.binding_work.proofs.Homing.{pump_is}
use Rattle.binding_work.proofs.Sending.{IsBound, IsDone, full_at, any_choice}

-- the rows of one delivery are those of the rules where one binding takes the list
abbrev one_rows : Net → ℕ → Bool → Bool → Common → List Row
one_rows net b does keeps c = row.Deliver c.list b Own c.frames ∷ (cond does (echoed net net.next.list b c.frames) [] ++ settle_rows net.modules b keeps c)

with_end : (net : Net) (b : ℕ) (does : Bool) (fs : List (List ℕ)) → cond does (echoed net net.next.list b fs) [] ≡ cond does (echoed net net.next.list b fs ++ []) []
with_end net b true fs = sym (append-nil (echoed net net.next.list b fs))
with_end net b false fs = refl

one_is : (net : Net) (x : LiveList) (l : ListView) (b : ℕ) (does keeps : Bool) → in_state x ≡ in_hand l → echoes net b ≡ does → (keeps && is_retain (kind_of_binding net.head b)) ≡ keeps → takers net x.frames ≡ b ∷ []
    → one_rows net b does keeps (in_hand l) ≡ delivery_rows net x keeps
one_is net x l b does keeps same echo kept taken =
    ap (one_rows net b does keeps) (sym same)
    ∙ ap (λ es. row.Deliver x.list b Own x.frames ∷ (es ++ settle_rows net.modules b keeps (in_state x))) (with_end net b does x.frames)
    ∙ ap (λ d. row.Deliver x.list b Own x.frames ∷ (cond d (echoed net net.next.list b x.frames ++ []) [] ++ settle_rows net.modules b keeps (in_state x))) (sym echo)
    ∙ ap (λ q. row.Deliver x.list b Own x.frames ∷ (cond (echoes net b) (echoed net net.next.list b x.frames ++ []) [] ++ settle_rows net.modules b q (in_state x))) (sym kept)
    ∙ ap (λ ts. delivered net x.list x.frames Own net.next.list ts ++ settled net x keeps (last_of ts)) (sym taken)

keeps_so : (keeps retain : Bool) → (keeps ≡ true → retain ≡ true) → (keeps && retain) ≡ keeps
keeps_so true retain may = may refl
keeps_so false retain may = refl

echoes_is : (net : Net) (b : ℕ) (kind : ProtocolKind) (full : Bool) → kind ≡ kind_of_binding net.head b → phase_is_running net.phase ≡ true → is_full net (Binding b) ≡ full → echoes net b ≡ (is_echo kind && not full)
echoes_is net b kind full same running is =
    ap (λ k. is_echo k && (phase_is_running net.phase && not (is_full net (Binding b)))) (sym same)
    ∙ ap (λ r. is_echo kind && (r && not (is_full net (Binding b)))) running
    ∙ ap (λ f. is_echo kind && not f) is

pub one_event : (old : BookView) (t mid : TrayView) (b : ℕ) (l : ListView) (s' : ProtocolState) → IsBook old → IsIdle old → IsBound old b → 1 ≤ t.room.turns → Begins old.tray t (a_list l way.Up Bindings ∷ [])
    → old.tray.net.phase ≡ phase.Running → takers old.tray.net l.frames ≡ b ∷ [] → (slice_index_or old.held.protocols b no_protocol).kind ≡ kind_of_binding old.tray.net.head b
    → IsReceived (slice_index_or old.held.protocols b no_protocol) l (tray.delivered (called_with t (Binding b) (held_pool old.held (Binding b))) l b Own) s' mid
    → IsDone old (record { tray = record mid { pool = t.pool }; held = protocol_called old.held b s' mid.pool }) event.Pump reply.Moved
one_event old t mid b l s' k i bound turns begins running taken kind r =
    let m : ModuleId = Binding b in
    let pool : PoolView = held_pool old.held m in
    let s : ProtocolState = slice_index_or old.held.protocols b no_protocol in
    let front : List Carried = a_list l way.Up Bindings ∷ [] in
    let n : IsNext old.tray.net (hands_of old.tray.queue old.held []) l way.Up Bindings = next_list old.tray.net (hands_of old.tray.queue old.held []) l way.Up Bindings t.queue k.stands.agrees begins.queue in
    let same : in_state n.x ≡ in_hand l = ap in_state (sym n.is) ∙ n.mine.same in
    let g = begins_called m pool begins in
    let stands = begins_stands k g in
    let sized : All IsCarriedSized (front ++ t.queue) = stands.sized.carried in
    let own = All-head IsCarriedSized (a_list l way.Up Bindings) t.queue sized in
    let entered = enters (called_with t m pool) old.held m front [] stands refl refl (All-cons IsCarriedSized (a_list l way.Up Bindings) [] own (All-nil IsCarriedSized)) (All-tail IsCarriedSized (a_list l way.Up Bindings) t.queue sized) in
    let settled_is = in_received s s' l way.Up Bindings entered own r in
    let keeps : Bool = settled_is.keeps in
    let does : Bool = does_echo s (called_with t m pool) in
    let ends = ends_call (protocol_called old.held b s' mid.pool) t.pool k g settled_is.in_call (protocol_is_called old.held b s' mid.pool bound.protocols bound.pools)
    (protocol_leaves old.held b s' mid.pool bound.protocols bound.pools (ap (λ (x : ProtocolState). x.kind) r.same) (ap (λ (x : ProtocolState). x.is_open) r.same) settled_is.in_call.size settled_is.in_call.bytes) k.stands.ring
    (did_protocol old.held s' mid.pool settled_is.in_call bound.protocols (refl, tt) (subst (λ (x : ProtocolState). Counts m (call m called.Receive) (l.frames ∷ []) s.did x.did) (sym r.same) (taker_counts b called.Receive l s.did))) in
    let choice : Choice = record any_choice { keeps = keeps } in
    let outcome_is = pump_is old.tray.net n.x keeps n.first in
    let run : phase_is_running old.tray.net.phase ≡ true = ap phase_is_running running in
    let rows_is = one_is old.tray.net n.x l b does keeps same (echoes_is old.tray.net b s.kind (live_count pool == pool.size) kind run (full_at old m k bound.there))
    (ap (λ q. keeps && is_retain q) (sym kind) ∙ keeps_so keeps (is_retain s.kind) settled_is.may) (ap (λ (c : Common). takers old.tray.net c.frames) same ∙ taken) in
    record {
      did = did_event old _ _ event.Pump choice reply.Moved k i ends (sym (ap (λ (q : Outcome). q.reply) outcome_is))
          (ap (λ (q : Net). one_rows q b does keeps (in_hand l)) begins.net ∙ rows_is
          ∙ ap (λ run. cond run (delivery_rows old.tray.net n.x keeps) (turned_back old.tray.net.modules n.x (Binding 0) Paused)) (sym run)
          ∙ ap (λ st. moved_rows old.tray.net n.x st keeps) (sym n.stand) ∙ sym (ap (λ (q : Outcome). q.rows) outcome_is)) refl tt (refl, refl);
      turn = record { room = omega (arith, turns, settled_is.in_call.used.turns) };
    }
