-- What the miniport transmits is what the rules say.
use Rattle.std.proofs.Common.{◌≡◌, ◌≢◌, ℕ, ◌≤◌, ◌==◌, ◌&&◌, not, Bool, true, false, cond, List, [], ◌∷◌, Option, Some, None, All, map, length, refl, sym, ap, ◌∙◌, subst, arith, eq-eqb, ne_eqb}
use Rattle.std.proofs.lemmas.Bool.{cond-false}
use Rattle.std.proofs.lemmas.List.Elements.{All-head}
use Rattle.ndis_base.specs.declared.ListNo.{ListNo}
use Rattle.ndis_base.specs.declared.ModuleId.TheVariants.{Miniport}
use Rattle.journal_types.specs.declared.Event.TheVariants as event
use Rattle.buffer_pools.specs.Views.{ListView, PoolView, live_count}
use Rattle.stack_rules.specs.declared.LiveList.{LiveList}
use Rattle.stack_rules.specs.Net.{Net}
use Rattle.stack_rules.specs.Places.{kept_lists, is_full}
use Rattle.stack_rules.specs.Sends.{loops, transmit_of, first_of, first_in_ring, transmit_outcome}
use Rattle.stack_rules.specs.Tests.{is_loop, is_virtual, phase_is_running}
use Rattle.hand_lemmas.specs.Frames.{AreSized}
use Rattle.hand_lemmas.specs.Hands.{Common, in_hand, in_state}
use Rattle.hand_lemmas.proofs.Tells.{full_is}
use Rattle.driver_views.specs.States.{MiniportState, logs}
use Rattle.driver_tray.specs.Tray.{TrayView}
use Rattle.driver_calls.specs.Miniports.{MayTransmit, IsTransmitted, Transmits, idles, crosses, wires, loops as indicates}
use Rattle.book_lemmas.specs.Called.{miniport_called}
use Rattle.book_lemmas.specs.Stands.{IsSized}
use Rattle.book_lemmas.specs.Views.{BookView, hands_of}
use Rattle.call_lemmas.specs.InCall.{InCall}
use Rattle.call_lemmas.proofs.Miniports.{transmit_rows, in_wired_home, in_wired_looped}
use Rattle.call_lemmas.proofs.Served.{counts_none, counts_log}
use Rattle.book_parts.specs.Events.{IsBook, IsIdle, DidEvent}
use Rattle.book_parts.proofs.Events.{Begins, did_event}
use Rattle.miniport_work.specs.Works.{called_with, DoesWithPool, IsReady, wired_as}
use Rattle.miniport_work.proofs.Ended.{begins_call, Works, ended}
use Rattle.miniport_work.proofs.Sends.{no_choice}

-- the tests of a loop, in hand and in the rules
no_loop_by : (a r c : Bool) (n m : ℕ) → (n == m) ≡ c → (((a && r) ≡ true) × (n ≢ m) → ⊥) → (a && (r && not c)) ≡ false
no_loop_by true true true n m e nothing = refl
no_loop_by true true false n m e nothing = absurd (nothing (refl, λ same. cc (sym e ∙ eq-eqb n m same)))
no_loop_by true false c n m e nothing = refl
no_loop_by false r c n m e nothing = refl

loop_by : (a r : Bool) (n m : ℕ) → (a && r) ≡ true → n ≢ m → (a && (r && not (n == m))) ≡ true
loop_by true true n m e other = ap not (ne_eqb n m other)
loop_by true false n m e other = cc
loop_by false r n m e other = cc

-- the oldest list that is kept, in hand and in the state
record IsOldest (ls : List LiveList) (l : ListView) : Type 0 where
  pub x : LiveList
  pub first : first_of ls ≡ Some x
  pub same : in_state x ≡ in_hand l

oldest : (ls : List LiveList) (l : ListView) (rest : List ListView) → map in_hand (l ∷ rest) ≡ map in_state ls → IsOldest ls l
oldest [] l rest e = cc
oldest (x ∷ xs) l rest e = let same : in_state x ≡ in_hand l = cc in record { x = x; first = refl; same = same }

none_oldest : (ls : List LiveList) → map in_hand [] ≡ map in_state ls → first_of ls ≡ None
none_oldest [] e = refl
none_oldest (x ∷ xs) e = cc

either_none : (b : Bool) (o : Option LiveList) → o ≡ None → cond b None o ≡ None
either_none true o e = refl
either_none false o e = e

-- what was transmitted
pub record IsDone (old : BookView) (t : TrayView) (result : Option ListNo) (s' : MiniportState) (left : TrayView) : Type 0 where
  pub log : List (List (List ℕ))
  pub works : Works old t [] s' left (transmit_outcome old.tray.net).rows [] log
  pub reply : wired_as result ≡ (transmit_outcome old.tray.net).reply

module _ (old : BookView) (t : TrayView) (running : Bool) (k : IsBook old) (g : Begins old.tray t []) (run : running ≡ phase_is_running old.tray.net.phase) where
  kind : old.held.miniport.kind ≡ old.tray.net.head.kind
  kind = k.stands.miniport_kind

  abbrev b : TrayView
  b = called_with t old.held.miniport_pool

  still : Works old t [] old.held.miniport b [] [] []
  still = record {
    call = begins_call k g;
    kind = refl;
    port = refl;
    refusals = omega arith;
    ring = k.stands.ring;
    calls_are = tt;
    counts = counts_none Miniport old.held.miniport.did;
  }

  quiet : (result : Option ListNo) (s' : MiniportState) (left : TrayView) → first_in_ring old.tray.net ≡ None → result ≡ None → s' ≡ old.held.miniport → left ≡ b → IsDone old t result s' left
  quiet result s' left none nothing same left_is = record {
    log = [];
    works = subst (λ (q : MiniportState). Works old t [] q left (transmit_outcome old.tray.net).rows [] []) (sym same)
        (subst (λ (q : TrayView). Works old t [] old.held.miniport q (transmit_outcome old.tray.net).rows [] []) (sym left_is)
        (subst (λ rs. Works old t [] old.held.miniport b rs [] []) (sym (ap (λ o. (transmit_of old.tray.net o).rows) none)) still));
    reply = ap wired_as nothing ∙ sym (ap (λ o. (transmit_of old.tray.net o).reply) none);
  }

  full : is_full old.tray.net Miniport ≡ (live_count old.held.miniport_pool == old.held.miniport_pool.size)
  full = full_is old.tray.net (hands_of old.tray.queue old.held []) Miniport k.stands.agrees (sym (k.stands.pools Miniport tt).size)

  loops_as : loops old.tray.net ≡ (is_loop old.held.miniport.kind && (running && not (live_count old.held.miniport_pool == old.held.miniport_pool.size)))
  loops_as =
      ap (λ f. is_loop old.tray.net.head.kind && (phase_is_running old.tray.net.phase && not f)) full
      ∙ ap (λ r. is_loop old.tray.net.head.kind && (r && not (live_count old.held.miniport_pool == old.held.miniport_pool.size))) (sym run)
      ∙ ap (λ m. is_loop m && (running && not (live_count old.held.miniport_pool == old.held.miniport_pool.size))) (sym kind)

  -- a list of the ring went onto the wire
  wired : (result : Option ListNo) (s' : MiniportState) (left : TrayView) (l : ListView) (rest : List ListView) (looping : Bool) → loops old.tray.net ≡ looping → is_virtual old.held.miniport.kind ≡ false → old.held.miniport.kept ≡ l ∷ rest
      → result ≡ Some l.label.number → s' ≡ record old.held.miniport { kept = rest; did = logs l.frames old.held.miniport.did }
      → InCall b (hands_of t.queue old.held []) Miniport (transmit_rows t.net looping (in_hand l)) [] (l.frames ∷ []) left (record { front = []; loose = []; kept = rest }) → IsDone old t result s' left
  wired result s' left l rest looping is ring kept some same i =
      let o = oldest (kept_lists old.tray.net Miniport) l rest (ap (map in_hand) (sym kept) ∙ k.stands.agrees.kept_is Miniport) in
      let first : first_in_ring old.tray.net ≡ Some o.x = cond-false (is_virtual old.tray.net.head.kind) None (first_of (kept_lists old.tray.net Miniport)) (ap is_virtual (sym kind) ∙ ring) ∙ o.first in
      let are : transmit_rows t.net looping (in_hand l) ≡ (transmit_outcome old.tray.net).rows =
      ap (λ (n : Net). transmit_rows n looping (in_hand l)) g.net
      ∙ ap (λ (c : Common). transmit_rows old.tray.net looping c) (sym o.same)
      ∙ ap (λ q. transmit_rows old.tray.net q (in_state o.x)) (sym is)
      ∙ sym (ap (λ q. (transmit_of old.tray.net q).rows) first) in
      let low : length (l ∷ rest) ≤ old.tray.net.head.port.ring = subst (λ ls. length ls ≤ old.tray.net.head.port.ring) kept k.stands.ring in
      record {
        log = l.frames ∷ [];
        works = subst (λ (q : MiniportState). Works old t [] q left (transmit_outcome old.tray.net).rows [] (l.frames ∷ [])) (sym same)
            (record {
              call = subst (λ rs. InCall b (hands_of t.queue old.held []) Miniport rs [] (l.frames ∷ []) left (record { front = []; loose = []; kept = rest })) are i;
              kind = refl;
              port = refl;
              refusals = omega arith;
              ring = omega (arith, low);
              calls_are = tt;
              counts = counts_log Miniport l.frames old.held.miniport.did;
            });
        reply = ap wired_as some ∙ ap (λ (c : Common). wired_as (Some c.list)) (sym o.same) ∙ sym (ap (λ q. (transmit_of old.tray.net q).reply) first);
      }

  begun : (l : ListView) (rest : List ListView) → old.held.miniport.kept ≡ l ∷ rest → InCall b (hands_of t.queue old.held []) Miniport [] [] [] b (record { front = []; loose = []; kept = l ∷ rest })
  begun l rest kept = subst (λ ls. InCall b (hands_of t.queue old.held []) Miniport [] [] [] b (record { front = []; loose = []; kept = ls })) kept (begins_call k g)

  sized : (l : ListView) (rest : List ListView) → old.held.miniport.kept ≡ l ∷ rest → AreSized l.frames
  sized l rest kept = All-head IsSized l rest (subst (All IsSized) kept (k.stands.sized.kept Miniport))

  pub done : (result : Option ListNo) (s' : MiniportState) (left : TrayView) → Transmits old.held.miniport running old.held.miniport.kept b result s' left → IsDone old t result s' left
  done result s' left (idles none nothing same left_is) =
      quiet result s' left (either_none (is_virtual old.tray.net.head.kind) (first_of (kept_lists old.tray.net Miniport)) (none_oldest (kept_lists old.tray.net Miniport) (ap (map in_hand) (sym none) ∙ k.stands.agrees.kept_is Miniport))) nothing same left_is
  done result s' left (crosses virtual nothing same left_is) =
      quiet result s' left (ap (λ c. cond c None (first_of (kept_lists old.tray.net Miniport))) (ap is_virtual (sym kind) ∙ virtual)) nothing same left_is
  done result s' left (wires l rest ring kept some same not_looping left_is) =
      wired result s' left l rest false
      (loops_as ∙ no_loop_by (is_loop old.held.miniport.kind) running (live_count old.held.miniport_pool == old.held.miniport_pool.size) (live_count old.held.miniport_pool) old.held.miniport_pool.size refl not_looping)
      ring kept some same
      (subst (λ (q : TrayView). InCall b (hands_of t.queue old.held []) Miniport (transmit_rows t.net false (in_hand l)) [] (l.frames ∷ []) q (record { front = []; loose = []; kept = rest })) (sym left_is) (in_wired_home l (begun l rest kept)))
  done result s' left (indicates l rest start ring kept some same looping starts left_is) =
      wired result s' left l rest true
      (loops_as ∙ loop_by (is_loop old.held.miniport.kind) running (live_count old.held.miniport_pool) old.held.miniport_pool.size looping.0 looping.1)
      ring kept some same
      (subst (λ (q : TrayView). InCall b (hands_of t.queue old.held []) Miniport (transmit_rows t.net true (in_hand l)) [] (l.frames ∷ []) q (record { front = []; loose = []; kept = rest })) (sym left_is)
      (in_wired_looped l start (begun l rest kept) (sized l rest kept) starts))

  pub may_transmit : (s : MiniportState) → s ≡ old.held.miniport → IsReady (record { turns = 1; rows = 4; frames = 8; bytes = 12144; filters = 0; setups = 0 }) 2 s t → MayTransmit s b
  may_transmit s same r = record {
    pool = (k.stands.pools Miniport tt).bytes;
    frames = λ l rest kept. sized l rest (sym (ap (λ (q : MiniportState). q.kept) same) ∙ kept);
    rows = r.covers.rows;
    slack = r.slack;
    frame_room = r.covers.frames;
    byte_room = r.covers.bytes;
    low = r.low.list;
    sent = r.low.sent;
    received = r.low.received;
  }

  pub transmits : (i : IsIdle old) {t' : TrayView} {s s' : MiniportState} {pool' : PoolView} {result : Option ListNo} → s ≡ old.held.miniport → DoesWithPool (λ q left. IsTransmitted s running q result s' left) t old.held.miniport_pool t' pool'
      → DidEvent old (record { tray = t'; held = miniport_called old.held s' pool' }) event.Transmit (wired_as result) × (t.room.turns ≤ t'.room.turns)
  transmits i {t'} {s} {s'} {pool'} {result} same d =
      let q = subst (λ (x : MiniportState). IsTransmitted x running b result s' d.left) same d.does in
      let o = done result s' d.left (q.by old.held.miniport.kept refl) in
      let e = ended k g o.works d.tray d.pool_is in
      (did_event old (record { tray = t'; held = miniport_called old.held s' pool' }) (transmit_outcome old.tray.net).rows event.Transmit no_choice (wired_as result) k i e.ends o.reply refl refl tt (refl, refl), e.turns)
