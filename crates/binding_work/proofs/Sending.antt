-- A binding's send is that of the rules.
use Rattle.std.proofs.Common.{◌≡◌, ◌≢◌, ℕ, ◌≤◌, ◌<◌, ◌&&◌, ◌==◌, Bool, true, false, cond, List, [], ◌∷◌, Option, All, length, nat_le, nat_lt, slice_index_or, slice_set, refl, sym, ap, ◌∙◌, subst, arith, ne_eqb, eq-eqb}
use Rattle.std.specs.List.{list_all}
use Rattle.std.proofs.lemmas.Bool.Decides.{nat_tests}
use Rattle.std.proofs.lemmas.List.Elements.{All-nil, All-cons, All-weaker}
use Rattle.ndis_base.specs.declared.Direction.TheVariants.{Down}
use Rattle.ndis_base.specs.declared.ListNo.{ListNo}
use Rattle.ndis_base.specs.declared.ModuleId.{ModuleId}
use Rattle.ndis_base.specs.declared.ModuleId.TheVariants.{Binding}
use Rattle.ndis_base.specs.declared.Phase.{Phase}
use Rattle.ndis_base.specs.declared.Phase.TheVariants as phase
use Rattle.journal_types.specs.declared.Event.{Event}
use Rattle.journal_types.specs.declared.Event.TheVariants as event
use Rattle.journal_types.specs.declared.Refusal.TheVariants as refusal
use Rattle.journal_types.specs.declared.Reply.{Reply}
use Rattle.journal_types.specs.declared.Reply.TheVariants as reply
use Rattle.journal_types.specs.declared.StackHead.{StackHead}
use Rattle.frame_arena.specs.declared.FrameSpan.{FrameSpan}
use Rattle.frame_arena.specs.Spans.{frames_at, SpanWithin}
use Rattle.flat_journal.specs.declared.types.FlatReply.{FlatReply}
use Rattle.flat_journal.specs.declared.types.FlatReply.TheVariants as flat_reply
use Rattle.flat_journal.specs.Payloads.{Payloads}
use Rattle.flat_journal.specs.Rooms.{Covers}
use Rattle.flat_journal.specs.Shown.{reply_of}
use Rattle.flat_journal.specs.Within.{ReplyWithin}
use Rattle.buffer_pools.specs.Views.{Fits, live_count}
use Rattle.stack_rules.specs.declared.Choice.{Choice}
use Rattle.stack_rules.specs.Conditions.{may_ask, is_between, is_frame, are_frames}
use Rattle.stack_rules.specs.Net.{Net}
use Rattle.stack_rules.specs.Outcome.{Outcome, refused, list_no}
use Rattle.stack_rules.specs.Places.{is_full}
use Rattle.stack_rules.specs.Sends.{sent, send_outcome}
use Rattle.stack_rules.specs.Tests.{phase_is_running}
use Rattle.state_laws.specs.Laws.{IsThere}
use Rattle.hand_lemmas.specs.Frames.{IsFrame, AreSized}
use Rattle.hand_lemmas.proofs.Tells.{full_is}
use Rattle.book_lemmas.specs.Between.{IsBetween}
use Rattle.book_lemmas.specs.Views.{BookView, HeldView, no_pool, held_pool, hands_of}
use Rattle.book_lemmas.specs.Stands.{IsCarriedSized}
use Rattle.book_lemmas.proofs.Between.{bindings_count}
use Rattle.book_lemmas.proofs.Heads.{head_seen}
use Rattle.driver_tray.specs.Tray.{TrayView, Starts, IsLow}
use Rattle.call_lemmas.proofs.Bindings.{in_started, pooled_is_called, pooled_leaves, did_still}
use Rattle.call_lemmas.proofs.Ends.{enters}
use Rattle.book_parts.specs.Events.{IsBook, IsIdle, DidEvent, CanEnd}
use Rattle.book_parts.proofs.Ended.{idle_state}
use Rattle.binding_work.specs.Sends.{MayStart, StartsFor, Sends, called_with, binding_pooled}
use Rattle.binding_work.specs.Sends.Sends.{starts, lacks}
use Rattle.book_parts.proofs.Events.{Begins, begins_called, begins_roomed, begins_stands, did_event, ends_call, ends_still}

-- what may be asked is of the right sizes
frame_sized : (f : List ℕ) (a b : Bool) → nat_le 14 (length f) ≡ a → nat_le (length f) 1518 ≡ b → (a && b) ≡ true → IsFrame 1518 f
frame_sized f true true e g h = record { header = grind (arith, nat_tests); short = grind (arith, nat_tests) }
frame_sized f true false e g h = cc
frame_sized f false b e g h = cc

both_true : (a b : Bool) → (a && b) ≡ true → (a ≡ true) × (b ≡ true)
both_true true true e = (refl, refl)
both_true true false e = cc
both_true false b e = cc

all_sized : (head : StackHead) (fs : List (List ℕ)) → list_all (is_frame head) fs ≡ true → All (IsFrame 1518) fs
all_sized head [] e = All-nil (IsFrame 1518)
all_sized head (f ∷ fs) e =
    let both = both_true (is_frame head f) (list_all (is_frame head) fs) e in
    All-cons (IsFrame 1518) f fs (frame_sized f (nat_le 14 (length f)) (nat_le (length f) 1518) refl refl both.0) (all_sized head fs both.1)

count_sized : (n : ℕ) (a b : Bool) → nat_le 1 n ≡ a → nat_le n 8 ≡ b → (a && b) ≡ true → (0 < n) × (n ≤ 8)
count_sized n true true e g h = (grind (arith, nat_tests), grind (arith, nat_tests))
count_sized n true false e g h = cc
count_sized n false b e g h = cc

pub frames_sized : (head : StackHead) (fs : List (List ℕ)) → are_frames head fs ≡ true → AreSized fs
frames_sized head fs e =
    let both = both_true (is_between 1 8 (length fs)) (list_all (is_frame head) fs) e in
    let count = count_sized (length fs) (nat_le 1 (length fs)) (nat_le (length fs) 8) refl refl both.0 in
    let each : All (IsFrame 1518) fs = all_sized head fs both.1 in
    record {
      fits = record { some = count.0; few = count.1; short = All-weaker (IsFrame 1518) (λ f. length f ≤ 1518) (λ f s. s.short) fs each };
      each = each;
    }

-- what may be sent: a binding of the stack, and frames of the right sizes
pub record IsAsked (old : BookView) (binding : ℕ) (fs : List (List ℕ)) : Type 0 where
  pub sized : AreSized fs
  pub below : binding < length old.tray.head.bindings

below_of : (n m : ℕ) → nat_lt n m ≡ true → n < m
below_of n m e = grind (arith, nat_tests)

pub is_asked : (old : BookView) (binding : ℕ) (cancel : Option ℕ) (fs : List (List ℕ)) → may_ask old.tray.head (event.Send binding cancel fs) ≡ true → IsAsked old binding fs
is_asked old binding cancel fs e =
    let both = both_true _ _ e in
    record { sized = frames_sized old.tray.head fs (both_true _ _ both.1).1; below = below_of binding (length old.tray.head.bindings) both.0 }

-- a binding of the stack is there
pub record IsBound (old : BookView) (binding : ℕ) : Type 0 where
  pub protocols : binding < length old.held.protocols
  pub pools : binding < length old.held.protocol_pools
  pub there : IsThere old.tray.net (Binding binding)

pub between : (old : BookView) → IsBook old → IsIdle old → IsBetween old.tray.head old.tray.turns old.tray.net
between old k i = record { is = idle_state old k i; sound = k.follows.sound; bound = k.bound }

pub head_is : (old : BookView) → IsBook old → IsIdle old → old.tray.net.head ≡ old.tray.head
head_is old k i = ap (λ (n : Net). n.head) (idle_state old k i) ∙ head_seen old.tray.head old.tray.turns

pub is_bound : (old : BookView) (binding : ℕ) → IsBook old → IsIdle old → binding < length old.tray.head.bindings → IsBound old binding
is_bound old binding k i below =
    let within : binding < length old.tray.net.head.bindings = subst (λ (h : StackHead). binding < length h.bindings) (sym (head_is old k i)) below in
    record {
      protocols = subst (λ n. binding < n) (sym k.stands.protocols) within;
      pools = subst (λ n. binding < n) (sym k.stands.protocol_pools) within;
      there = subst (λ n. binding < n) (sym (bindings_count (between old k i))) within;
    }

-- what the binding's place shows once a list was begun there, or none could be
pub sends_starts : (binding : ℕ) (cancel : Option ℕ) (made : List (List ℕ)) (old new : BookView) (list : ListNo)
    → StartsFor (Binding binding) Down cancel made old.tray (slice_index_or old.held.protocol_pools binding no_pool) new.tray (slice_index_or new.held.protocol_pools binding no_pool)
    → (live_count (slice_index_or old.held.protocol_pools binding no_pool) ≡ (slice_index_or old.held.protocol_pools binding no_pool).size → ⊥)
    → new.held.protocol_pools ≡ slice_set old.held.protocol_pools binding (slice_index_or new.held.protocol_pools binding no_pool)
    → new.held ≡ record old.held { protocol_pools = new.held.protocol_pools } → list ≡ list_no old.tray.net.next.list
    → Sends binding cancel made old new (flat_reply.Sent list)
sends_starts binding cancel made old new list s some pools same number =
    subst (λ n. Sends binding cancel made old new (flat_reply.Sent n)) (sym number) (starts s some (same ∙ ap (λ ps. record old.held { protocol_pools = ps }) pools))

pub sends_lacks : (binding : ℕ) (cancel : Option ℕ) (made : List (List ℕ)) (old new : BookView)
    → live_count (slice_index_or old.held.protocol_pools binding no_pool) ≡ (slice_index_or old.held.protocol_pools binding no_pool).size
    → new.tray ≡ record old.tray { caller = Binding binding } → new.held.protocol_pools ≡ old.held.protocol_pools
    → new.held ≡ record old.held { protocol_pools = new.held.protocol_pools }
    → Sends binding cancel made old new (flat_reply.Refused refusal.NoList)
sends_lacks binding cancel made old new full tray pools same = lacks full tray (same ∙ ap (λ ps. record old.held { protocol_pools = ps }) pools)

-- room was made for a send
pub record IsRoomed (old : TrayView) (t : TrayView) : Type 0 where
  pub begins : Begins old t []
  pub payloads : t.payloads ≡ old.payloads
  pub turns : 1 ≤ t.room.turns
  pub rows : 2 ≤ t.room.rows
  pub slack : 1 ≤ t.slack
  pub low : IsLow t.net

pub is_roomed : (old t : TrayView) → t ≡ record old { room = t.room; slack = t.slack } → Covers t.room old.room → old.slack ≤ t.slack → 1 ≤ t.room.turns → 2 ≤ t.room.rows → 1 ≤ t.slack → IsLow t.net → IsRoomed old t
is_roomed old t same kept kept_slack turns rows slack low = record {
  begins = begins_roomed old t same kept kept_slack;
  payloads = ap (λ (x : TrayView). x.payloads) same;
  turns = turns;
  rows = rows;
  slack = slack;
  low = low;
}

pub may_start : (old : BookView) (t : TrayView) (binding : ℕ) (made : List (List ℕ)) (span : FrameSpan) → IsBook old → IsBound old binding → IsAsked old binding made → IsRoomed old.tray t
    → SpanWithin old.tray.payloads.frames span → frames_at old.tray.payloads.frames span ≡ made → MayStart t (slice_index_or old.held.protocol_pools binding no_pool) made span
may_start old t binding made span k b a r within shown = record {
  fits = subst (Fits made) (sym (k.stands.pools (Binding binding) b.there).bytes) a.sized.fits;
  within = subst (λ (p : Payloads). SpanWithin p.frames span) (sym r.payloads) within;
  shown = ap (λ (p : Payloads). frames_at p.frames span) r.payloads ∙ shown;
  rows = r.rows;
  slack = r.slack;
  low = r.low;
}

-- the pool of a binding is full in the rules where it is in hand
pub full_at : (old : BookView) (m : ModuleId) → IsBook old → IsThere old.tray.net m → is_full old.tray.net m ≡ (live_count (held_pool old.held m) == (held_pool old.held m).size)
full_at old m k there = full_is old.tray.net (hands_of old.tray.queue old.held []) m k.stands.agrees (sym (k.stands.pools m there).size)

-- the outcome by its two tests
outcome_by : (net : Net) (binding : ℕ) (cancel : Option ℕ) (made : List (List ℕ)) (running full : Bool) → phase_is_running net.phase ≡ running → is_full net (Binding binding) ≡ full
    → send_outcome net binding cancel made ≡ cond running (cond full (refused refusal.NoList) (record { reply = reply.Sent (list_no net.next.list); rows = sent net binding cancel made })) (refused (refusal.Paused net.phase))
outcome_by net binding cancel made running full e f =
    ap (λ r. cond r (cond (is_full net (Binding binding)) (refused refusal.NoList) (record { reply = reply.Sent (list_no net.next.list); rows = sent net binding cancel made })) (refused (refusal.Paused net.phase))) e
    ∙ ap (λ b. cond running (cond b (refused refusal.NoList) (record { reply = reply.Sent (list_no net.next.list); rows = sent net binding cancel made })) (refused (refusal.Paused net.phase))) f

abbrev pub any_choice : Choice
any_choice = record { keeps = false; refuses = false; shelf_empty = false }

-- the event is done, and its turn can be ended
pub record IsDone (old new : BookView) (e : Event) (answer : Reply) : Type 0 where
  pub did : DidEvent old new e answer
  pub turn : CanEnd new

started_event : (old : BookView) (t mid : TrayView) (binding : ℕ) (cancel : Option ℕ) (made : List (List ℕ)) → IsBook old → IsIdle old → old.tray.net.phase ≡ phase.Running → IsBound old binding → AreSized made → IsRoomed old.tray t
    → Starts (called_with t (Binding binding) (held_pool old.held (Binding binding))) Down cancel made mid
    → live_count (held_pool old.held (Binding binding)) ≢ (held_pool old.held (Binding binding)).size
    → IsDone old (record { tray = record mid { pool = t.pool }; held = binding_pooled old.held binding mid.pool }) (event.Send binding cancel made) (reply.Sent (list_no t.net.next.list))
started_event old t mid binding cancel made k i running b sized r s some =
    let m : ModuleId = Binding binding in
    let g = begins_called m (held_pool old.held m) r.begins in
    let stands = begins_stands k g in
    let call = in_started (enters (called_with t m (held_pool old.held m)) old.held m [] [] stands refl refl (All-nil IsCarriedSized) stands.sized.carried) s sized in
    let ends = ends_call (binding_pooled old.held binding mid.pool) t.pool k g call (pooled_is_called old.held binding mid.pool b.pools) (pooled_leaves old.held binding mid.pool b.pools call.size call.bytes) k.stands.ring
    (did_still old.held.seats old.held binding mid.pool call) in
    let outcome_is = outcome_by old.tray.net binding cancel made true false (ap phase_is_running running)
    (full_at old m k b.there ∙ ne_eqb (live_count (held_pool old.held m)) (held_pool old.held m).size some) in
    record {
      did = did_event old _ _ (event.Send binding cancel made) any_choice (reply.Sent (list_no t.net.next.list)) k i ends
          (ap (λ (n : Net). reply.Sent (list_no n.next.list)) r.begins.net ∙ sym (ap (λ (o : Outcome). o.reply) outcome_is))
          (ap (λ (n : Net). sent n binding cancel made) r.begins.net ∙ sym (ap (λ (o : Outcome). o.rows) outcome_is)) refl tt (refl, refl);
      turn = record { room = omega (arith, r.turns, call.used.turns) };
    }

lacked_event : (old : BookView) (t : TrayView) (binding : ℕ) (cancel : Option ℕ) (made : List (List ℕ)) → IsBook old → IsIdle old → old.tray.net.phase ≡ phase.Running → IsBound old binding → IsRoomed old.tray t
    → live_count (held_pool old.held (Binding binding)) ≡ (held_pool old.held (Binding binding)).size
    → IsDone old (record { tray = record t { caller = Binding binding }; held = old.held }) (event.Send binding cancel made) (reply.Refused refusal.NoList)
lacked_event old t binding cancel made k i running b r full =
    let m : ModuleId = Binding binding in
    let ends = ends_still (called_with t m t.pool) k (begins_called m t.pool r.begins) in
    let outcome_is = outcome_by old.tray.net binding cancel made true true (ap phase_is_running running)
    (full_at old m k b.there ∙ eq-eqb (live_count (held_pool old.held m)) (held_pool old.held m).size full) in
    record {
      did = did_event old _ [] (event.Send binding cancel made) any_choice (reply.Refused refusal.NoList) k i ends (sym (ap (λ (o : Outcome). o.reply) outcome_is)) (sym (ap (λ (o : Outcome). o.rows) outcome_is)) refl tt (refl, refl);
      turn = record { room = r.turns };
    }

-- a send while the stack runs
pub sent_event : (old : BookView) (t : TrayView) (new : BookView) (binding : ℕ) (cancel : Option ℕ) (made : List (List ℕ)) (r : FlatReply) → IsBook old → IsIdle old → old.tray.net.phase ≡ phase.Running
    → may_ask old.tray.head (event.Send binding cancel made) ≡ true → IsRoomed old.tray t → Sends binding cancel made (record { tray = t; held = old.held }) new r → IsDone old new (event.Send binding cancel made) (reply_of new.tray.payloads r)
sent_event old t new binding cancel made r k i running may roomed (starts s some held) =
    let a = is_asked old binding cancel made may in
    let b = is_bound old binding k i a.below in
    subst (λ (v : BookView). IsDone old v (event.Send binding cancel made) (reply.Sent (list_no t.net.next.list)))
    (book_is s.tray (held ∙ ap (binding_pooled old.held binding) s.pool_is))
    (started_event old t s.mid binding cancel made k i running b a.sized roomed s.starts some)
  where
    book_is : {new : BookView} {t : TrayView} {h : HeldView} → new.tray ≡ t → new.held ≡ h → record { tray = t; held = h } ≡ new
    book_is {new} {t} {h} e f = ap (λ x. record { tray = x; held = h }) (sym e) ∙ ap (λ x. record { tray = new.tray; held = x }) (sym f)
sent_event old t new binding cancel made r k i running may roomed (lacks full tray held) =
    let a = is_asked old binding cancel made may in
    subst (λ (v : BookView). IsDone old v (event.Send binding cancel made) (reply.Refused refusal.NoList))
    (book_is tray held) (lacked_event old t binding cancel made k i running (is_bound old binding k i a.below) roomed full)
  where
    book_is : {new : BookView} {t : TrayView} {h : HeldView} → new.tray ≡ t → new.held ≡ h → record { tray = t; held = h } ≡ new
    book_is {new} {t} {h} e f = ap (λ x. record { tray = x; held = h }) (sym e) ∙ ap (λ x. record { tray = new.tray; held = x }) (sym f)

pub sent_within : {binding : ℕ} {cancel : Option ℕ} {made : List (List ℕ)} {old new : BookView} {r : FlatReply} → Sends binding cancel made old new r → ReplyWithin new.tray.payloads r
sent_within (starts s some held) = tt
sent_within (lacks full tray held) = tt

-- a send while it doesn't run
pub not_running : (p : Phase) → p ≢ phase.Running → phase_is_running p ≡ false
not_running phase.Halted ne = refl
not_running phase.Paused ne = refl
not_running phase.Restarting ne = refl
not_running phase.Running ne = absurd (ne refl)
not_running phase.Pausing ne = refl

pub paused_event : (old : BookView) (t : TrayView) (binding : ℕ) (cancel : Option ℕ) (made : List (List ℕ)) (p : Phase) → IsBook old → IsIdle old → p ≡ old.tray.net.phase → p ≢ phase.Running → IsRoomed old.tray t
    → IsDone old (record { tray = t; held = old.held }) (event.Send binding cancel made) (reply.Refused (refusal.Paused p))
paused_event old t binding cancel made p k i same other roomed =
    let still : phase_is_running old.tray.net.phase ≡ false = ap phase_is_running (sym same) ∙ not_running p other in
    let outcome_is = outcome_by old.tray.net binding cancel made false (is_full old.tray.net (Binding binding)) still refl in
    record {
      did = did_event old _ [] (event.Send binding cancel made) any_choice (reply.Refused (refusal.Paused p)) k i (ends_still t k roomed.begins)
          (ap (λ q. reply.Refused (refusal.Paused q)) same ∙ sym (ap (λ (o : Outcome). o.reply) outcome_is)) (sym (ap (λ (o : Outcome). o.rows) outcome_is)) refl tt (refl, refl);
      turn = record { room = roomed.turns };
    }
