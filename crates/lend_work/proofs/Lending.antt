-- What the miniport lends is what the rules say.
use Rattle.std.proofs.Common.{◌≡◌, ◌≢◌, ℕ, ◌≤◌, ◌<◌, Bool, true, false, cond, List, [], length, refl, sym, ap, ◌∙◌, subst, arith, ne_eqb, eq-eqb}
use Rattle.std.specs.List.{All}
use Rattle.std.proofs.lemmas.List.Elements.{All-from_get_or}
use Rattle.ndis_base.specs.declared.ModuleId.TheVariants.{Miniport, Binding}
use Rattle.ndis_base.specs.declared.ModuleState.{ModuleState}
use Rattle.ndis_base.specs.declared.ModuleState.TheVariants as state
use Rattle.journal_types.specs.declared.Event.TheVariants as event
use Rattle.journal_types.specs.declared.Refusal.TheVariants as refusal
use Rattle.journal_types.specs.declared.Reply.TheVariants as reply
use Rattle.journal_types.specs.declared.StackHead.{StackHead}
use Rattle.frame_arena.specs.declared.FrameSpan.{FrameSpan}
use Rattle.frame_arena.specs.Spans.{frames_at, SpanWithin}
use Rattle.flat_journal.specs.declared.types.FlatReply.{FlatReply}
use Rattle.flat_journal.specs.declared.types.FlatReply.TheVariants as flat_reply
use Rattle.flat_journal.specs.Payloads.{Payloads}
use Rattle.flat_journal.specs.Shown.{reply_of}
use Rattle.flat_journal.specs.Within.{ReplyWithin}
use Rattle.buffer_pools.specs.Views.{PoolView, Fits, live_count}
use Rattle.stack_rules.specs.Conditions.{may_ask}
use Rattle.stack_rules.specs.Net.{Net}
use Rattle.stack_rules.specs.Outcome.{Outcome, refused, list_no}
use Rattle.stack_rules.specs.Places.{is_full}
use Rattle.stack_rules.specs.Receives.{lent_rows, lend_outcome}
use Rattle.stack_rules.specs.Tests.{is_running}
use Rattle.hand_lemmas.specs.Frames.{AreSized}
use Rattle.book_lemmas.specs.Stands.{Stands}
use Rattle.book_lemmas.specs.Views.{BookView, HeldView, no_pool}
use Rattle.driver_tray.specs.Tray.{TrayView}
use Rattle.book_parts.specs.Events.{IsBook, IsIdle}
use Rattle.book_parts.proofs.Events.{Begins, begins_called, begins_roomed, begins_stands, did_event, ends_still}
use Rattle.binding_work.specs.Homes.{IsRoomed}
use Rattle.binding_work.proofs.Sending.{IsDone, any_choice, frames_sized, full_at, head_is, is_bound}
use Rattle.delivery_work.proofs.Readied.{some_bound}
use Rattle.lend_work.specs.Lends.{IsReady, MayLend, Lends}
use Rattle.lend_work.specs.Lends.Lends.{lends, lacks}
use Rattle.lend_work.proofs.Along.{along_ends}
use Rattle.lend_work.proofs.Ended.{HasLent, has_lent}
use Rattle.lend_work.proofs.Readied.{is_receiver, is_served}

begun : {old mid : BookView} → IsRoomed old mid → Begins old.tray mid.tray []
begun {old} {mid} r = begins_roomed old.tray mid.tray r.tray r.covers r.slack

pool_bytes : (old : BookView) → IsBook old → IsIdle old → All (λ (p : PoolView). p.bytes ≡ 1518) old.held.protocol_pools
pool_bytes old k i = All-from_get_or (λ (p : PoolView). p.bytes ≡ 1518) old.held.protocol_pools no_pool (λ b within.
    let heads = ap (λ (h : StackHead). length h.bindings) (head_is old k i) in
    let below : b < length old.tray.head.bindings = omega (arith, within, k.stands.protocol_pools, heads) in
    (k.stands.pools (Binding b) (is_bound old b k i below).there).bytes)

-- with the room, frames may be lent
pub may_lend : (old mid : BookView) (many : ℕ) (made : List (List ℕ)) (span : FrameSpan) → IsBook old → IsIdle old → IsRoomed old mid → IsReady many mid → many ≡ length old.held.protocols → may_ask old.tray.head (event.Lend made) ≡ true
    → SpanWithin old.tray.payloads.frames span → frames_at old.tray.payloads.frames span ≡ made → MayLend many made span mid
may_lend old mid many made span k i r ready count may within shown =
    let sized : AreSized made = frames_sized old.tray.head made may in
    let payloads : mid.tray.payloads ≡ old.tray.payloads = ap (λ (t : TrayView). t.payloads) r.tray in
    let stands : Stands mid.tray.net mid.tray.queue mid.held [] = subst (λ (h : HeldView). Stands mid.tray.net mid.tray.queue h []) (sym r.held) (begins_stands k (begun r)) in
    record {
      start = record {
        fits = subst (Fits made) (sym (ap (λ (h : HeldView). h.miniport_pool.bytes) r.held ∙ (k.stands.pools Miniport tt).bytes)) sized.fits;
        within = subst (λ (p : Payloads). SpanWithin p.frames span) (sym payloads) within;
        shown = ap (λ (p : Payloads). frames_at p.frames span) payloads ∙ shown;
        rows = omega (arith, ready.tray.rows);
        slack = omega (arith, ready.tray.slack);
        low = record { list = omega (arith, ready.tray.list); sent = ready.tray.sent; received = omega (arith, ready.tray.received) };
      };
      sized = sized;
      ready = ready;
      served = λ n less has. is_served mid _ stands (is_receiver mid.tray.net n less has);
      some = some_bound old many k i count;
      protocols = count ∙ sym (ap (λ (h : HeldView). length h.protocols) r.held);
      pools = count ∙ k.stands.protocols ∙ sym k.stands.protocol_pools ∙ sym (ap (λ (h : HeldView). length h.protocol_pools) r.held);
      bytes = subst (λ (h : HeldView). All (λ (p : PoolView). p.bytes ≡ 1518) h.protocol_pools) (sym r.held) (pool_bytes old k i);
    }

-- the outcome by its two tests
outcome_by : (net : Net) (made : List (List ℕ)) (running full : Bool) → is_running net.modules.miniport ≡ running → is_full net Miniport ≡ full
    → lend_outcome net made ≡ cond running (cond full (refused refusal.NoList) (record { reply = reply.Lent (list_no net.next.list); rows = lent_rows net made })) (refused refusal.NotRunning)
outcome_by net made running full e f =
    ap (λ r. cond r (cond (is_full net Miniport) (refused refusal.NoList) (record { reply = reply.Lent (list_no net.next.list); rows = lent_rows net made })) (refused refusal.NotRunning)) e
    ∙ ap (λ b. cond running (cond b (refused refusal.NoList) (record { reply = reply.Lent (list_no net.next.list); rows = lent_rows net made })) (refused refusal.NotRunning)) f

-- frames that aren't lent write no rows
refused_event : (old : BookView) (t : TrayView) (made : List (List ℕ)) (answer : FlatReply) → IsBook old → IsIdle old → Begins old.tray t [] → 1 ≤ t.room.turns
    → lend_outcome old.tray.net made ≡ record { reply = reply_of t.payloads answer; rows = [] } → IsDone old (record { tray = t; held = old.held }) (event.Lend made) (reply_of t.payloads answer)
refused_event old t made answer k i g turns outcome_is = record {
  did = did_event old _ [] (event.Lend made) any_choice (reply_of t.payloads answer) k i (ends_still t k g) (sym (ap (λ (o : Outcome). o.reply) outcome_is)) (sym (ap (λ (o : Outcome). o.rows) outcome_is)) refl tt (refl, refl);
  turn = record { room = turns };
}

book_is : {new : BookView} {t : TrayView} {h : HeldView} → new.tray ≡ t → new.held ≡ h → record { tray = t; held = h } ≡ new
book_is {new} {t} {h} e f = ap (λ x. record { tray = x; held = h }) (sym e) ∙ ap (λ x. record { tray = new.tray; held = x }) (sym f)

runs_before : {old t : TrayView} → Begins old t [] → state.Running ≡ t.net.modules.miniport → is_running old.net.modules.miniport ≡ true
runs_before g e = ap (λ (n : Net). is_running n.modules.miniport) (sym g.net) ∙ ap is_running (sym e)

-- frames that are lent while the miniport runs
lent_event : (old : BookView) (t : TrayView) (new : BookView) (many : ℕ) (made : List (List ℕ)) (r : FlatReply) → IsBook old → IsIdle old → Begins old.tray t [] → 1 ≤ t.room.turns → state.Running ≡ t.net.modules.miniport → AreSized made
    → many ≡ length old.held.protocols → 1 ≤ many → Lends many made (record { tray = t; held = old.held }) r new → IsDone old new (event.Lend made) (reply_of new.tray.payloads r)
lent_event old t new many made r k i g turns running sized count some (lends l mid after status d mid_is c home new_is spare is) =
    let bound : 1 ≤ length old.held.protocol_pools = omega (arith, some, count, k.stands.protocols, k.stands.protocol_pools) in
    let h : HasLent old new made l = has_lent old t new mid after many made l status k i g turns sized count bound d mid_is c home new_is in
    let outcome_is = outcome_by old.tray.net made true false (runs_before g running) (full_at old Miniport k tt ∙ ne_eqb (live_count old.held.miniport_pool) old.held.miniport_pool.size spare) in
    subst (λ (q : FlatReply). IsDone old new (event.Lend made) (reply_of new.tray.payloads q)) (sym is)
    (record {
      did = did_event old new (lent_rows old.tray.net made) (event.Lend made) any_choice (reply.Lent l.label.number) k i (along_ends h.ends)
          (ap reply.Lent h.number ∙ sym (ap (λ (o : Outcome). o.reply) outcome_is)) (sym (ap (λ (o : Outcome). o.rows) outcome_is)) refl tt (h.ends.shelf, h.ends.seats);
      turn = record { room = h.turns };
    })
lent_event old t new many made r k i g turns running sized count some (lacks full tray held is) =
    let outcome_is = outcome_by old.tray.net made true true (runs_before g running) (full_at old Miniport k tt ∙ eq-eqb (live_count old.held.miniport_pool) old.held.miniport_pool.size full) in
    subst (λ (q : FlatReply). IsDone old new (event.Lend made) (reply_of new.tray.payloads q)) (sym is)
    (subst (λ (v : BookView). IsDone old v (event.Lend made) (reply.Refused refusal.NoList)) (book_is tray held)
    (refused_event old (record t { caller = Miniport }) made (flat_reply.Refused refusal.NoList) k i (begins_called Miniport t.pool g) turns outcome_is))

-- the whole event, with the room
pub lends_event : (old mid new : BookView) (many : ℕ) (made : List (List ℕ)) (r : FlatReply) → IsBook old → IsIdle old → IsRoomed old mid → IsReady many mid → many ≡ length old.held.protocols → may_ask old.tray.head (event.Lend made) ≡ true
    → state.Running ≡ mid.tray.net.modules.miniport → Lends many made mid r new → IsDone old new (event.Lend made) (reply_of new.tray.payloads r)
lends_event old mid new many made r k i roomed ready count may running d =
    let same : mid ≡ record { tray = mid.tray; held = old.held } = ap (λ h. record { tray = mid.tray; held = h }) roomed.held in
    lent_event old mid.tray new many made r k i (begun roomed) ready.tray.turns running (frames_sized old.tray.head made may) count (some_bound old many k i count) (subst (λ (v : BookView). Lends many made v r new) same d)

pub lent_within : {many : ℕ} {made : List (List ℕ)} {v v' : BookView} {r : FlatReply} → Lends many made v r v' → ReplyWithin v'.tray.payloads r
lent_within {v' = v'} (lends l mid after status d mid_is c home new_is spare is) = subst (ReplyWithin v'.tray.payloads) (sym is) tt
lent_within {v' = v'} (lacks full tray held is) = subst (ReplyWithin v'.tray.payloads) (sym is) tt

-- frames that are lent while it doesn't run
still : (s : ModuleState) → s ≢ state.Running → is_running s ≡ false
still state.Halted ne = refl
still state.Detached ne = refl
still state.Attaching ne = refl
still state.Unbound ne = refl
still state.Opening ne = refl
still state.Closing ne = refl
still state.Paused ne = refl
still state.Restarting ne = refl
still state.Running ne = absurd (ne refl)
still state.Pausing ne = refl

pub stopped_event : (old mid : BookView) (many : ℕ) (made : List (List ℕ)) (s : ModuleState) → IsBook old → IsIdle old → IsRoomed old mid → IsReady many mid → s ≡ mid.tray.net.modules.miniport → s ≢ state.Running
    → IsDone old mid (event.Lend made) (reply.Refused refusal.NotRunning)
stopped_event old mid many made s k i roomed ready same other =
    let g = begun roomed in
    let outcome_is = outcome_by old.tray.net made false (is_full old.tray.net Miniport) (ap (λ (n : Net). is_running n.modules.miniport) (sym g.net) ∙ ap is_running (sym same) ∙ still s other) refl in
    subst (λ (v : BookView). IsDone old v (event.Lend made) (reply.Refused refusal.NotRunning)) (book_is refl roomed.held)
    (refused_event old mid.tray made (flat_reply.Refused refusal.NotRunning) k i g ready.tray.turns outcome_is)
