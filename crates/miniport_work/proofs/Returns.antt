-- A receive of the miniport comes back to it.
use Rattle.std.proofs.Common.{◌≡◌, ℕ, ◌≤◌, inl, inr, false, [], ◌∷◌, Some, length, refl, sym, ap, ◌∙◌, subst, arith}
use Rattle.ndis_base.specs.declared.Direction.TheVariants as direction
use Rattle.ndis_base.specs.declared.ListNo.{ListNo}
use Rattle.ndis_base.specs.declared.ListStatus.{ListStatus}
use Rattle.ndis_base.specs.declared.ModuleId.{ModuleId}
use Rattle.ndis_base.specs.declared.ModuleId.TheVariants.{Miniport, Filter}
use Rattle.ndis_base.specs.declared.Origin.TheVariants as origin
use Rattle.journal_types.specs.declared.Event.TheVariants as event
use Rattle.journal_types.specs.declared.PassWay.TheVariants as way
use Rattle.journal_types.specs.declared.Reply.TheVariants as reply
use Rattle.journal_types.specs.declared.Target.TheVariants.{Module}
use Rattle.buffer_pools.specs.Views.{ListView, PoolView, IsOf}
use Rattle.stack_rules.specs.declared.LiveList.{LiveList}
use Rattle.stack_rules.specs.declared.Stand.TheVariants as stand
use Rattle.stack_rules.specs.declared.Thing.TheVariants as thing
use Rattle.stack_rules.specs.Dones.{homeward_rows}
use Rattle.stack_rules.specs.Net.{Net, Modules, lists, list_of}
use Rattle.stack_rules.specs.Pumps.{pump_of}
use Rattle.state_laws.proofs.Tops.{position_most}
use Rattle.pause_laws.proofs.Works.{each_away}
use Rattle.place_laws.specs.Kept.{HasOriginal, StopsAbove}
use Rattle.promise_rules.specs.declared.Called.TheVariants as called
use Rattle.promise_rules.specs.Calls.{call}
use Rattle.agenda_items.specs.declared.Carried.TheVariants.{List as a_list}
use Rattle.hand_lemmas.specs.Hands.{Common}
use Rattle.driver_views.specs.States.{Record, MiniportState}
use Rattle.driver_tray.specs.Tray.{TrayView}
use Rattle.driver_calls.specs.Miniports.{IsReturned}
use Rattle.book_lemmas.specs.Called.{miniport_called}
use Rattle.book_lemmas.specs.Views.{BookView, held_pool, hands_of}
use Rattle.book_lemmas.proofs.Between.{goes_back, listed}
use Rattle.call_lemmas.specs.InCall.{InCall}
use Rattle.call_lemmas.specs.Served.{Counts}
use Rattle.call_lemmas.proofs.Miniports.{in_returned, returned_is}
use Rattle.call_lemmas.proofs.Served.{counts_call}
use Rattle.rule_basics.specs.Live.{Each}
use Rattle.lent_laws.specs.Lent.{IsOwned}
use Rattle.lent_laws.proofs.Lent.{none_is_lent}
use Rattle.book_parts.specs.Events.{IsBook, IsIdle, DidEvent}
use Rattle.book_parts.proofs.Events.{Begins, did_event}
use Rattle.miniport_work.specs.Works.{called_with, DoesWithPool, MayGiveBack, IsReady}
use Rattle.miniport_work.proofs.Ended.{begins_work, Works, ended}
use Rattle.miniport_work.proofs.Firsts.{between, IsFirstList, up_is}
use Rattle.miniport_work.proofs.Sends.{no_choice, first_moved}

no_filter : {m : ModuleId} (g : ℕ) → m ≡ Miniport → m ≡ Filter g → ⊥
no_filter g e is = cc

-- nothing is below the miniport
owner_is : (ms : Modules) (owner : ModuleId) → StopsAbove ms owner Miniport → owner ≡ Miniport
owner_is ms owner (inl e) = sym e
owner_is ms owner (inr low) = absurd (omega (arith, low, position_most ms.order owner))

module _ (old : BookView) (l : ListView) (status : ListStatus) (k : IsBook old) (i : IsIdle old) (f : IsFirstList old l (way.Back status) (Module Miniport)) where
  up : l.label.direction ≡ direction.Up
  up =
      let b = between old k i in
      let none : Each IsOwned (lists old.tray.net.things) = subst (λ (n : Net). Each IsOwned (lists n.things)) (sym b.is) (none_is_lent old.tray.head old.tray.turns b.sound) in
      ap (λ (c : Common). c.direction) (sym f.same)
      ∙ up_is f.x.direction (goes_back b f.x Miniport status f.first f.stand).0 (each_away IsOwned old.tray.net.things f.x none f.first)

  mine : f.x.owner ≡ Miniport
  mine = owner_is old.tray.net.modules f.x.owner (goes_back (between old k i) f.x Miniport status f.first f.stand).1

  own : l.label.owner ≡ Miniport
  own = ap (λ (c : Common). c.owner) (sym f.same) ∙ mine

  -- only filters make clones
  no_clone : (o : ListNo) (y : LiveList) → f.x.origin ≡ origin.Clone o → list_of o.0 (lists old.tray.net.things) ≡ Some y → ⊥
  no_clone o y made found =
      let h : HasOriginal old.tray.net f.x = each_away (HasOriginal old.tray.net) old.tray.net.things f.x (listed (between old k i) f.live).originals f.first in
      let by = (h o y made found).filter in
      no_filter by.0 mine by.1

  pub may_give_back : (s : MiniportState) (t : TrayView) → IsReady (record { turns = 1; rows = 3; frames = 0; bytes = 0; filters = 0; setups = 0 }) 1 s t → MayGiveBack s l t old.held.miniport_pool
  may_give_back s t r = record {
    count = r.returned;
    own = subst (λ m. IsOf (held_pool old.held m) l) own f.housed;
    room = record { rows = omega (arith, r.covers.rows); slack = omega arith };
  }

  works : {t left : TrayView} {s' : MiniportState} → Begins old.tray t (a_list l (way.Back status) (Module Miniport) ∷ []) → IsReturned old.held.miniport l status (called_with t old.held.miniport_pool) s' left
      → Works old t (a_list l (way.Back status) (Module Miniport) ∷ []) s' left (homeward_rows old.tray.net f.x Miniport status) (call Miniport called.Returned) []
  works {t} {left} {s'} g q =
      let s : MiniportState = old.held.miniport in
      let kept : s'.kept ≡ s.kept = ap (λ (x : MiniportState). x.kept) q.same in
      let done = in_returned l (way.Back status) (Module Miniport) status s s' (begins_work (a_list l (way.Back status) (Module Miniport)) k g) own up q in
      record {
        call = subst (λ ls. InCall (called_with t old.held.miniport_pool) (hands_of (a_list l (way.Back status) (Module Miniport) ∷ t.queue) old.held []) Miniport (homeward_rows old.tray.net f.x Miniport status) (call Miniport called.Returned) [] left (record { front = []; loose = []; kept = ls })) (sym kept)
            (subst (λ rs. InCall (called_with t old.held.miniport_pool) (hands_of (a_list l (way.Back status) (Module Miniport) ∷ t.queue) old.held []) Miniport rs (call Miniport called.Returned) [] left (record { front = []; loose = []; kept = s.kept }))
            (returned_is old.tray.net f.x l status f.same own no_clone) done);
        kind = ap (λ (x : MiniportState). x.kind) q.same;
        port = ap (λ (x : MiniportState). x.port) q.same;
        refusals = let rose = ap (λ (x : MiniportState). x.refusals) q.same in omega (arith, rose);
        ring = subst (λ ls. length ls ≤ old.tray.net.head.port.ring) (sym kept) k.stands.ring;
        calls_are = (refl, tt);
        counts = subst (λ (r : Record). Counts Miniport (call Miniport called.Returned) [] s.did r) (sym (ap (λ (x : MiniportState). x.did) q.same)) (counts_call Miniport called.Returned s.did);
      }

  pub came_back : {t t' : TrayView} {s s' : MiniportState} {pool' : PoolView} → Begins old.tray t (a_list l (way.Back status) (Module Miniport) ∷ []) → s ≡ old.held.miniport
      → DoesWithPool (λ q left. IsReturned s l status q s' left) t old.held.miniport_pool t' pool'
      → DidEvent old (record { tray = t'; held = miniport_called old.held s' pool' }) event.Pump reply.Moved × (t.room.turns ≤ t'.room.turns)
  came_back {t} {t'} {s} {s'} {pool'} g same d =
      let q = subst (λ (x : MiniportState). IsReturned x l status (called_with t old.held.miniport_pool) s' d.left) same d.does in
      let e = ended k g (works g q) d.tray d.pool_is in (
        did_event old (record { tray = t'; held = miniport_called old.held s' pool' }) (homeward_rows old.tray.net f.x Miniport status) event.Pump no_choice reply.Moved k i e.ends
            (ap (λ o. (pump_of old.tray.net false o).reply) (sym f.first))
            (sym (ap (λ o. (pump_of old.tray.net false o).rows) f.first ∙ first_moved old.tray.net f.x (stand.Passed (way.Back status) (Module Miniport)) (thing.List f.x) refl f.stand))
            refl tt (refl, refl),
        e.turns,
      )
