-- A send that comes down to the miniport.
use Rattle.std.proofs.Common.{◌≡◌, ◌+◌, ◌≤◌, ◌==◌, true, false, List, [], ◌∷◌, ◌++◌, Some, length, refl, sym, ap, ◌∙◌, subst, arith}
use Rattle.std.proofs.lemmas.List.{length-append}
use Rattle.ndis_base.specs.declared.ModuleId.TheVariants.{Miniport}
use Rattle.journal_types.specs.declared.Event.TheVariants as event
use Rattle.journal_types.specs.declared.Handler.TheVariants as handler
use Rattle.journal_types.specs.declared.PassWay.TheVariants as way
use Rattle.journal_types.specs.declared.PortSetup.{PortSetup}
use Rattle.journal_types.specs.declared.Reply.TheVariants as reply
use Rattle.journal_types.specs.declared.Row.TheVariants as row
use Rattle.journal_types.specs.declared.Target.TheVariants.{Module}
use Rattle.buffer_pools.specs.Views.{ListView, PoolView}
use Rattle.stack_rules.specs.declared.Choice.{Choice}
use Rattle.stack_rules.specs.declared.LiveList.{LiveList}
use Rattle.stack_rules.specs.declared.Stand.{Stand}
use Rattle.stack_rules.specs.declared.Stand.TheVariants as stand
use Rattle.stack_rules.specs.declared.Thing.{Thing}
use Rattle.stack_rules.specs.declared.Thing.TheVariants as thing
use Rattle.stack_rules.specs.Net.{Net}
use Rattle.stack_rules.specs.Pumps.{pump_of, moved_rows}
use Rattle.stack_rules.specs.Sends.{miniport_rows}
use Rattle.stack_rules.specs.Tests.{is_down}
use Rattle.promise_rules.specs.declared.Called.TheVariants as called
use Rattle.promise_rules.specs.Calls.{call}
use Rattle.agenda_items.specs.declared.Carried.TheVariants.{List as a_list}
use Rattle.hand_lemmas.specs.Hands.{Common, in_hand}
use Rattle.driver_views.specs.States.{Record, MiniportState}
use Rattle.driver_tray.specs.Tray.{TrayView, given}
use Rattle.driver_calls.specs.Miniports.{Queues, keeps, fills, IsQueued}
use Rattle.book_lemmas.specs.Called.{miniport_called}
use Rattle.book_lemmas.specs.Views.{BookView, hands_of}
use Rattle.book_lemmas.proofs.Between.{GoesDown, goes_down}
use Rattle.call_lemmas.specs.InCall.{InCall}
use Rattle.call_lemmas.specs.Served.{Counts}
use Rattle.call_lemmas.proofs.Miniports.{queue_rows, in_queued, queue_is}
use Rattle.call_lemmas.proofs.Served.{counts_call}
use Rattle.call_lemmas.proofs.Steps.{in_given}
use Rattle.book_parts.specs.Events.{IsBook, IsIdle, DidEvent}
use Rattle.book_parts.proofs.Events.{Begins, did_event}
use Rattle.miniport_work.specs.Works.{called_with, DoesWithPool, MayGive, IsReady}
use Rattle.miniport_work.proofs.Ended.{begins_work, Works, ended}
use Rattle.miniport_work.proofs.Firsts.{between, IsFirstList, port_is, is_some, down_is}

-- a driver chooses nothing
abbrev pub no_choice : Choice
no_choice = record { keeps = false; refuses = false; shelf_empty = false }

-- the rows of the rules, where a list is the first thing on its way
pub first_moved : (net : Net) (x : LiveList) (s : Stand) (o : Thing) → o ≡ thing.List x → x.stand ≡ s → (pump_of net false (Some o)).rows ≡ moved_rows net x s false
first_moved net x s o e at = ap (λ k. (pump_of net false (Some k)).rows) e ∙ ap (λ q. moved_rows net x q false) at

ring_kept : {s : MiniportState} {p : PortSetup} {l : ListView} {t t' : TrayView} {kept' : List ListView} → Queues s p l t kept' t' → length s.kept ≤ p.ring → length kept' ≤ p.ring
ring_kept {s} {p} {l} (keeps other kept tray_is) low =
    let more : length (s.kept ++ l ∷ []) ≡ length s.kept + 1 = omega (arith, length-append s.kept (l ∷ [])) in
    subst (λ ls. length ls ≤ p.ring) (sym kept) (omega (arith, low, other, more))
ring_kept {s} {p} (fills full kept tray_is) low = subst (λ ls. length ls ≤ p.ring) (sym kept) low

module _ (old : BookView) (l : ListView) (k : IsBook old) (i : IsIdle old) (f : IsFirstList old l way.Down (Module Miniport)) where
  is_send : {x : LiveList} → GoesDown old.tray.net x (Module Miniport) → is_down x.direction ≡ true
  is_send (GoesDown.to_miniport down) = down

  comes_as_send : is_down f.x.direction ≡ true
  comes_as_send = is_send (goes_down (between old k i) f.x (Module Miniport) f.first f.stand)

  pub may_give : (s : MiniportState) (t : TrayView) → s ≡ old.held.miniport → IsReady (record { turns = 1; rows = 3; frames = 0; bytes = 0; filters = 0; setups = 0 }) 1 s t → MayGive s l t
  may_give s t same r = record {
    port = is_some (ap (λ (x : MiniportState). x.port) same ∙ port_is old k f.live);
    count = r.send;
    down = ap (λ (c : Common). c.direction) (sym f.same) ∙ down_is f.x.direction comes_as_send;
    room = record { rows = r.covers.rows; slack = r.slack };
  }

  works : {t left : TrayView} {s' : MiniportState} → Begins old.tray t (a_list l way.Down (Module Miniport) ∷ []) → IsQueued old.held.miniport l (given (called_with t old.held.miniport_pool) l.label.number handler.Send) s' left
      → Works old t (a_list l way.Down (Module Miniport) ∷ []) s' left (miniport_rows old.tray.net f.x) (call Miniport called.Send) []
  works {t} {left} {s'} g q =
      let s : MiniportState = old.held.miniport in
      let p : PortSetup = old.tray.net.head.port in
      let by : Queues s p l (given (called_with t old.held.miniport_pool) l.label.number handler.Send) s'.kept left = q.by p (port_is old k f.live) in
      let start = in_given l.label.number handler.Send (begins_work (a_list l way.Down (Module Miniport)) k g) in
      let done = in_queued l way.Down (Module Miniport) s p start by in
      let are : row.Give l.label.number Miniport handler.Send ∷ queue_rows t.net.modules (length s.kept == p.ring) (in_hand l) ≡ miniport_rows old.tray.net f.x =
      ap (λ (n : Net). row.Give l.label.number Miniport handler.Send ∷ queue_rows n.modules (length s.kept == p.ring) (in_hand l)) g.net
      ∙ queue_is old.tray.net f.x l s.kept f.same (k.stands.agrees.kept_is Miniport) in
      record {
        call = subst (λ rs. InCall (called_with t old.held.miniport_pool) (hands_of (a_list l way.Down (Module Miniport) ∷ t.queue) old.held []) Miniport rs (call Miniport called.Send) [] left (record { front = []; loose = []; kept = s'.kept })) are done;
        kind = ap (λ (x : MiniportState). x.kind) q.same;
        port = ap (λ (x : MiniportState). x.port) q.same;
        refusals = let rose = ap (λ (x : MiniportState). x.refusals) q.same in omega (arith, rose);
        ring = ring_kept by k.stands.ring;
        calls_are = (refl, tt);
        counts = subst (λ (r : Record). Counts Miniport (call Miniport called.Send) [] s.did r) (sym (ap (λ (x : MiniportState). x.did) q.same)) (counts_call Miniport called.Send s.did);
      }

  pub sent_down : {t t' : TrayView} {s s' : MiniportState} {pool' : PoolView} → Begins old.tray t (a_list l way.Down (Module Miniport) ∷ []) → s ≡ old.held.miniport
      → DoesWithPool (λ q left. IsQueued s l (given q l.label.number handler.Send) s' left) t old.held.miniport_pool t' pool'
      → DidEvent old (record { tray = t'; held = miniport_called old.held s' pool' }) event.Pump reply.Moved × (t.room.turns ≤ t'.room.turns)
  sent_down {t} {t'} {s} {s'} {pool'} g same d =
      let q = subst (λ (x : MiniportState). IsQueued x l (given (called_with t old.held.miniport_pool) l.label.number handler.Send) s' d.left) same d.does in
      let e = ended k g (works g q) d.tray d.pool_is in (
        did_event old (record { tray = t'; held = miniport_called old.held s' pool' }) (miniport_rows old.tray.net f.x) event.Pump no_choice reply.Moved k i e.ends
            (ap (λ o. (pump_of old.tray.net false o).reply) (sym f.first))
            (sym (ap (λ o. (pump_of old.tray.net false o).rows) f.first ∙ first_moved old.tray.net f.x (stand.Passed way.Down (Module Miniport)) (thing.List f.x) refl f.stand))
            refl tt (refl, refl),
        e.turns,
      )
