-- What the miniport indicates is what the rules say.
use Rattle.std.proofs.Common.{◌≡◌, ◌≢◌, ℕ, ◌≤◌, Bool, true, false, cond, List, [], None, refl, sym, ap, ◌∙◌, subst, arith, ne_eqb, eq-eqb}
use Rattle.ndis_base.specs.declared.Direction.TheVariants as direction
use Rattle.ndis_base.specs.declared.ListNo.{ListNo}
use Rattle.ndis_base.specs.declared.ModuleId.TheVariants.{Miniport}
use Rattle.ndis_base.specs.declared.ModuleState.{ModuleState}
use Rattle.ndis_base.specs.declared.ModuleState.TheVariants as state
use Rattle.journal_types.specs.declared.Event.TheVariants as event
use Rattle.journal_types.specs.declared.Refusal.TheVariants as refusal
use Rattle.journal_types.specs.declared.Reply.TheVariants as reply
use Rattle.frame_arena.specs.declared.FrameSpan.{FrameSpan}
use Rattle.frame_arena.specs.Spans.{frames_at, SpanWithin}
use Rattle.flat_journal.specs.declared.types.FlatReply.{FlatReply}
use Rattle.flat_journal.specs.declared.types.FlatReply.TheVariants as flat_reply
use Rattle.flat_journal.specs.Payloads.{Payloads}
use Rattle.flat_journal.specs.Shown.{reply_of}
use Rattle.flat_journal.specs.Within.{ReplyWithin}
use Rattle.buffer_pools.specs.Views.{Fits, live_count}
use Rattle.stack_rules.specs.Conditions.{may_ask}
use Rattle.stack_rules.specs.Net.{Net}
use Rattle.stack_rules.specs.Outcome.{Outcome, refused, list_no}
use Rattle.stack_rules.specs.Places.{is_full}
use Rattle.stack_rules.specs.Receives.{indicated, indicate_outcome}
use Rattle.stack_rules.specs.Tests.{is_running}
use Rattle.hand_lemmas.specs.Frames.{AreSized}
use Rattle.book_lemmas.specs.Called.{miniport_called}
use Rattle.book_lemmas.specs.Views.{BookView, HeldView}
use Rattle.driver_tray.specs.Tray.{TrayView, Starts}
use Rattle.call_lemmas.proofs.Bindings.{in_started}
use Rattle.call_lemmas.proofs.Served.{counts_none}
use Rattle.book_parts.specs.Events.{IsBook, IsIdle}
use Rattle.book_parts.proofs.Events.{Begins, begins_called, did_event, ends_still}
use Rattle.miniport_work.specs.Works.{called_with}
use Rattle.miniport_work.proofs.Ended.{begins_call, Works, ended}
use Rattle.miniport_work.proofs.Sends.{no_choice}
use Rattle.binding_work.specs.Sends.{MayStart, StartsFor}
use Rattle.binding_work.proofs.Sending.{IsRoomed, IsDone, frames_sized, full_at}
use Rattle.receive_work.specs.Indications.{Indicates, miniport_pooled}
use Rattle.receive_work.specs.Indications.Indicates.{starts, lacks}

-- what the miniport's place shows once a list was begun there, or none could be
pub indicates_starts : (made : List (List ℕ)) (old new : BookView) (list : ListNo)
    → StartsFor Miniport direction.Up None made old.tray old.held.miniport_pool new.tray new.held.miniport_pool
    → (live_count old.held.miniport_pool ≡ old.held.miniport_pool.size → ⊥) → new.held ≡ miniport_pooled old.held new.held.miniport_pool → list ≡ list_no old.tray.net.next.list
    → Indicates made old new (flat_reply.Indicated list)
indicates_starts made old new list s some held number = subst (λ n. Indicates made old new (flat_reply.Indicated n)) (sym number) (starts s some held)

pub indicates_lacks : (made : List (List ℕ)) (old new : BookView) → live_count old.held.miniport_pool ≡ old.held.miniport_pool.size
    → new.tray ≡ record old.tray { caller = Miniport } → new.held.miniport_pool ≡ old.held.miniport_pool → new.held ≡ miniport_pooled old.held new.held.miniport_pool
    → Indicates made old new (flat_reply.Refused refusal.NoList)
indicates_lacks made old new full tray pool held = lacks full tray (held ∙ ap (miniport_pooled old.held) pool)

pub may_start : (old : BookView) (t : TrayView) (made : List (List ℕ)) (span : FrameSpan) → IsBook old → may_ask old.tray.head (event.Indicate made) ≡ true → IsRoomed old.tray t
    → SpanWithin old.tray.payloads.frames span → frames_at old.tray.payloads.frames span ≡ made → MayStart t old.held.miniport_pool made span
may_start old t made span k may r within shown = record {
  fits = subst (Fits made) (sym (k.stands.pools Miniport tt).bytes) (frames_sized old.tray.head made may).fits;
  within = subst (λ (p : Payloads). SpanWithin p.frames span) (sym r.payloads) within;
  shown = ap (λ (p : Payloads). frames_at p.frames span) r.payloads ∙ shown;
  rows = r.rows;
  slack = r.slack;
  low = r.low;
}

-- the outcome by its two tests
outcome_by : (net : Net) (made : List (List ℕ)) (running full : Bool) → is_running net.modules.miniport ≡ running → is_full net Miniport ≡ full
    → indicate_outcome net made ≡ cond running (cond full (refused refusal.NoList) (record { reply = reply.Indicated (list_no net.next.list); rows = indicated net made })) (refused refusal.NotRunning)
outcome_by net made running full e f =
    ap (λ r. cond r (cond (is_full net Miniport) (refused refusal.NoList) (record { reply = reply.Indicated (list_no net.next.list); rows = indicated net made })) (refused refusal.NotRunning)) e
    ∙ ap (λ b. cond running (cond b (refused refusal.NoList) (record { reply = reply.Indicated (list_no net.next.list); rows = indicated net made })) (refused refusal.NotRunning)) f

started_event : (old : BookView) (t mid : TrayView) (made : List (List ℕ)) → IsBook old → IsIdle old → old.tray.net.modules.miniport ≡ state.Running → AreSized made → IsRoomed old.tray t
    → Starts (called_with t old.held.miniport_pool) direction.Up None made mid → live_count old.held.miniport_pool ≢ old.held.miniport_pool.size
    → IsDone old (record { tray = record mid { pool = t.pool }; held = miniport_called old.held old.held.miniport mid.pool }) (event.Indicate made) (reply.Indicated (list_no t.net.next.list))
started_event old t mid made k i running sized r s some =
    let works : Works old t [] old.held.miniport mid (indicated t.net made) [] [] = record {
      call = in_started (begins_call k r.begins) s sized;
      kind = refl;
      port = refl;
      refusals = omega arith;
      ring = k.stands.ring;
      calls_are = tt;
      counts = counts_none Miniport old.held.miniport.did;
    } in
    let e = ended {t' = record mid { pool = t.pool }} {pool' = mid.pool} k r.begins works refl refl in
    let outcome_is = outcome_by old.tray.net made true false (ap is_running running) (full_at old Miniport k tt ∙ ne_eqb (live_count old.held.miniport_pool) old.held.miniport_pool.size some) in
    record {
      did = did_event old _ (indicated t.net made) (event.Indicate made) no_choice (reply.Indicated (list_no t.net.next.list)) k i e.ends
          (ap (λ (n : Net). reply.Indicated (list_no n.next.list)) r.begins.net ∙ sym (ap (λ (o : Outcome). o.reply) outcome_is))
          (ap (λ (n : Net). indicated n made) r.begins.net ∙ sym (ap (λ (o : Outcome). o.rows) outcome_is)) refl tt (refl, refl);
      turn = record { room = omega (arith, r.turns, e.turns) };
    }

-- an indication that is refused writes no rows
refused_event : (old : BookView) (t : TrayView) (made : List (List ℕ)) (answer : FlatReply) → IsBook old → IsIdle old → Begins old.tray t [] → 1 ≤ t.room.turns
    → indicate_outcome old.tray.net made ≡ record { reply = reply_of t.payloads answer; rows = [] } → IsDone old (record { tray = t; held = old.held }) (event.Indicate made) (reply_of t.payloads answer)
refused_event old t made answer k i g turns outcome_is = record {
  did = did_event old _ [] (event.Indicate made) no_choice (reply_of t.payloads answer) k i (ends_still t k g) (sym (ap (λ (o : Outcome). o.reply) outcome_is)) (sym (ap (λ (o : Outcome). o.rows) outcome_is)) refl tt
      (refl, refl);
  turn = record { room = turns };
}

lacked_event : (old : BookView) (t : TrayView) (made : List (List ℕ)) → IsBook old → IsIdle old → old.tray.net.modules.miniport ≡ state.Running → IsRoomed old.tray t → live_count old.held.miniport_pool ≡ old.held.miniport_pool.size
    → IsDone old (record { tray = record t { caller = Miniport }; held = old.held }) (event.Indicate made) (reply.Refused refusal.NoList)
lacked_event old t made k i running r full =
    refused_event old (record t { caller = Miniport }) made (flat_reply.Refused refusal.NoList) k i (begins_called Miniport t.pool r.begins) r.turns
    (outcome_by old.tray.net made true true (ap is_running running) (full_at old Miniport k tt ∙ eq-eqb (live_count old.held.miniport_pool) old.held.miniport_pool.size full))

pub book_is : {new : BookView} {t : TrayView} {h : HeldView} → new.tray ≡ t → new.held ≡ h → record { tray = t; held = h } ≡ new
book_is {new} {t} {h} e f = ap (λ x. record { tray = x; held = h }) (sym e) ∙ ap (λ x. record { tray = new.tray; held = x }) (sym f)

runs_before : {old t : TrayView} → IsRoomed old t → state.Running ≡ t.net.modules.miniport → old.net.modules.miniport ≡ state.Running
runs_before r e = sym (e ∙ ap (λ (n : Net). n.modules.miniport) r.begins.net)

-- an indication while the miniport runs
pub indicated_event : (old : BookView) (t : TrayView) (new : BookView) (made : List (List ℕ)) (r : FlatReply) → IsBook old → IsIdle old → state.Running ≡ t.net.modules.miniport
    → may_ask old.tray.head (event.Indicate made) ≡ true → IsRoomed old.tray t → Indicates made (record { tray = t; held = old.held }) new r → IsDone old new (event.Indicate made) (reply_of new.tray.payloads r)
indicated_event old t new made r k i running may roomed (starts s some held) =
    subst (λ (v : BookView). IsDone old v (event.Indicate made) (reply.Indicated (list_no t.net.next.list))) (book_is s.tray (held ∙ ap (miniport_pooled old.held) s.pool_is))
    (started_event old t s.mid made k i (runs_before roomed running) (frames_sized old.tray.head made may) roomed s.starts some)
indicated_event old t new made r k i running may roomed (lacks full tray held) =
    subst (λ (v : BookView). IsDone old v (event.Indicate made) (reply.Refused refusal.NoList)) (book_is tray held) (lacked_event old t made k i (runs_before roomed running) roomed full)

pub indicated_within : {made : List (List ℕ)} {old new : BookView} {r : FlatReply} → Indicates made old new r → ReplyWithin new.tray.payloads r
indicated_within (starts s some held) = tt
indicated_within (lacks full tray held) = tt

-- an indication while it doesn't run
still : (s : ModuleState) → s ≢ state.Running → is_running s ≡ false
still state.Halted ne = refl
still state.Detached ne = refl
still state.Attaching ne = refl
still state.Unbound ne = refl
still state.Opening ne = refl
still state.Closing ne = refl
still state.Paused ne = refl
still state.Restarting ne = refl
still state.Running ne = absurd (ne refl)
still state.Pausing ne = refl

pub stopped_event : (old : BookView) (t : TrayView) (made : List (List ℕ)) (s : ModuleState) → IsBook old → IsIdle old → s ≡ t.net.modules.miniport → s ≢ state.Running → IsRoomed old.tray t
    → IsDone old (record { tray = t; held = old.held }) (event.Indicate made) (reply.Refused refusal.NotRunning)
stopped_event old t made s k i same other roomed =
    refused_event old t made (flat_reply.Refused refusal.NotRunning) k i roomed.begins roomed.turns (outcome_by old.tray.net made false (is_full old.tray.net Miniport) (ap (λ (n : Net). is_running n.modules.miniport) (sym roomed.begins.net) ∙ ap is_running (sym same) ∙ still s other) refl)
