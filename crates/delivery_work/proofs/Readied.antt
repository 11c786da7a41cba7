-- A book with room for a receive at the bindings, and what is done there.
use Rattle.std.proofs.Common.{◌≡◌, ℕ, ◌+◌, ◌≤◌, ◌<◌, true, [], ◌∷◌, length, slice_set, sym, ap, ◌∙◌, subst, arith}
use Rattle.std.specs.List.{All}
use Rattle.std.proofs.lemmas.List.Elements.{All-head, All-from_get_or}
use Rattle.ndis_base.specs.declared.ModuleId.TheVariants.{Binding}
use Rattle.journal_types.specs.declared.PassWay.{PassWay}
use Rattle.journal_types.specs.declared.PassWay.TheVariants as way
use Rattle.journal_types.specs.declared.StackHead.{StackHead}
use Rattle.journal_types.specs.declared.Target.{Target}
use Rattle.journal_types.specs.declared.Target.TheVariants.{Bindings}
use Rattle.buffer_pools.specs.Views.{ListView, PoolView}
use Rattle.agenda_items.specs.declared.Carried.TheVariants.{List as a_list}
use Rattle.hand_lemmas.specs.Frames.{AreSized}
use Rattle.book_lemmas.specs.Stands.{IsCarriedSized}
use Rattle.book_lemmas.specs.Views.{BookView, HeldView, no_pool, held_pool}
use Rattle.driver_tray.specs.Tray.{TrayView}
use Rattle.book_parts.specs.Events.{IsBook, IsIdle, FirstIs}
use Rattle.binding_work.specs.Homes.{IsRoomed}
use Rattle.binding_work.specs.Sends.{binding_pooled}
use Rattle.binding_work.specs.Ups.{gone_back}
use Rattle.binding_work.proofs.Sending.{is_bound, head_is}
use Rattle.binding_work.proofs.Upward.{up_roomed, taken_up}
use Rattle.delivery_work.specs.Takers.{takers_from}
use Rattle.delivery_work.specs.Desks.{Delivers, MayDeliver, HasRoomFrom, desk}
use Rattle.delivery_work.specs.Works.{IsReadyForAll, MayWork, Works}
use Rattle.delivery_work.specs.Works.Works.{delivers, returns}

-- there is a binding
pub some_bound : (old : BookView) (many : ℕ) → IsBook old → IsIdle old → many ≡ length old.held.protocols → 1 ≤ many
some_bound old many k i count =
    let heads = ap (λ (h : StackHead). length h.bindings) (head_is old k i) in
    omega (arith, k.bound, heads, k.stands.protocols, count)

pool_bytes : (old : BookView) → IsBook old → IsIdle old → All (λ (p : PoolView). p.bytes ≡ 1518) old.held.protocol_pools
pool_bytes old k i = All-from_get_or (λ (p : PoolView). p.bytes ≡ 1518) old.held.protocol_pools no_pool (λ b within.
    let heads = ap (λ (h : StackHead). length h.bindings) (head_is old k i) in
    let below : b < length old.tray.head.bindings = omega (arith, within, k.stands.protocol_pools, heads) in
    (k.stands.pools (Binding b) (is_bound old b k i below).there).bytes)

-- with the room, the first list on its way may be worked
pub may_work : (old mid : BookView) (many : ℕ) → IsBook old → IsIdle old → FirstIs old way.Up Bindings → IsRoomed old mid → IsReadyForAll many mid → many ≡ length old.held.protocols → MayWork many mid
may_work old mid many k i f r ready count = record {
  first = up_roomed old mid way.Up Bindings f r;
  sized = subst (All IsCarriedSized) (sym (ap (λ (t : TrayView). t.queue) r.tray)) k.stands.sized.carried;
  some = some_bound old many k i count;
  protocols = count ∙ sym (ap (λ (h : HeldView). length h.protocols) r.held);
  pools = ap (λ (h : HeldView). length h.protocol_pools) r.held ∙ k.stands.protocol_pools ∙ sym (ap (λ (h : HeldView). length h.protocols) r.held ∙ k.stands.protocols);
  bytes = subst (λ (h : HeldView). All (λ (p : PoolView). p.bytes ≡ 1518) h.protocol_pools) (sym r.held) (pool_bytes old k i);
  ready = ready;
}

-- the list that was taken
pub first_sized : (v : BookView) (many : ℕ) (t : TrayView) (l : ListView) (w : PassWay) (to : Target) → MayWork many v → v.tray ≡ record t { queue = a_list l w to ∷ t.queue } → AreSized l.frames
first_sized v many t l w to m e = All-head IsCarriedSized (a_list l w to) t.queue (subst (All IsCarriedSized) (ap (λ (x : TrayView). x.queue) e) m.sized)

pub may_first : (v : BookView) (many first : ℕ) (t : TrayView) (l : ListView) (w : PassWay) (to : Target) → MayWork many v → v.tray ≡ record t { queue = a_list l w to ∷ t.queue } → first < many
    → MayDeliver first l (desk v.held.protocols v.held.protocol_pools t)
may_first v many first t l w to m e less =
    let r : HasRoomFrom 0 many (record t { queue = a_list l w to ∷ t.queue }) = subst (HasRoomFrom 0 many) e m.ready.room in
    record {
      below = omega (arith, less, m.protocols);
      pools = m.pools;
      counts = λ k d low high. m.ready.counts k d high;
      bytes = λ k d low high. m.bytes k d high;
      sized = first_sized v many t l w to m e;
      room = subst (λ n. HasRoomFrom first n t) m.protocols (record {
        rows = omega (arith, r.rows);
        slack = omega (arith, r.slack);
        frames = omega (arith, r.frames);
        bytes = omega (arith, r.bytes);
        list = omega (arith, r.list);
        sent = r.sent;
        received = r.received;
      });
    }

pub works_delivers : (v new : BookView) (many first : ℕ) (t : TrayView) (l : ListView) (w : PassWay) (to : Target) → MayWork many v → v.tray ≡ record t { queue = a_list l w to ∷ t.queue }
    → takers_from t.net l.frames 0 many ≡ first ∷ takers_from t.net l.frames (first + 1) many
    → Delivers l first (takers_from t.net l.frames (first + 1) many) (desk v.held.protocols v.held.protocol_pools t) (desk new.held.protocols new.held.protocol_pools new.tray)
    → new.held ≡ record v.held { protocols = new.held.protocols; protocol_pools = new.held.protocol_pools } → Works many v new
works_delivers v new many first t l w to m e taken d held =
    delivers l t first _ (taken_up v t l w to m.first e) taken d held

pub works_returns : (v new : BookView) (many : ℕ) (t t' : TrayView) (l : ListView) (w : PassWay) (to : Target) (pool pool' : PoolView) → MayWork many v → v.tray ≡ record t { queue = a_list l w to ∷ t.queue }
    → takers_from t.net l.frames 0 many ≡ [] → held_pool v.held (Binding 0) ≡ pool → t' ≡ record (gone_back true t pool l) { pool = t.pool } → pool' ≡ pool → new.tray ≡ t'
    → new.held ≡ record v.held { protocol_pools = slice_set v.held.protocol_pools 0 pool' } → Works many v new
works_returns v new many t t' l w to pool pool' m e none place back same tray held =
    let takes = taken_up v t l w to m.first e in
    returns (record {
      list = l;
      taken = t;
      takes = takes;
      tray = tray ∙ back ∙ ap (λ p. record (gone_back true t p l) { pool = t.pool }) (sym place);
      held = held ∙ ap (binding_pooled v.held 0) (same ∙ sym place);
    })
    (ap (λ (x : TrayView). takers_from x.net l.frames 0 many) e ∙ none)

pub room_to_return : (v : BookView) (many : ℕ) (t : TrayView) (l : ListView) (w : PassWay) (to : Target) → MayWork many v → v.tray ≡ record t { queue = a_list l w to ∷ t.queue } → (1 ≤ t.room.rows) × (1 ≤ t.slack)
room_to_return v many t l w to m e =
    let r : HasRoomFrom 0 many (record t { queue = a_list l w to ∷ t.queue }) = subst (HasRoomFrom 0 many) e m.ready.room in
    (omega (arith, r.rows), omega (arith, r.slack))
