-- The protocol of a binding was told to give away what it keeps ready.
use Rattle.std.proofs.Common.{◌≡◌, ℕ, ◌≤◌, ◌<◌, ◌+◌, Bool, true, false, List, [], ◌∷◌, length, map, drop, slice_index_or, slice_set, refl, sym, ap, ◌∙◌, subst}
use Rattle.std.specs.Prelude.{Result, IfOk}
use Rattle.std.proofs.lemmas.Bool.{cond-true, cond-false}
use Rattle.std.proofs.lemmas.List.{set-get_or}
use Rattle.ndis_base.specs.declared.ListStatus.TheVariants.{Success}
use Rattle.ndis_base.specs.declared.ModuleId.{ModuleId}
use Rattle.ndis_base.specs.declared.ModuleId.TheVariants.{Binding}
use Rattle.buffer_pools.specs.Views.{PoolView}
use Rattle.stack_rules.specs.Drains.{returns_all, returned_by, first_rows}
use Rattle.stack_rules.specs.Heads.{kind_of_binding, numbers_from}
use Rattle.stack_rules.specs.Net.{Net}
use Rattle.stack_rules.specs.Places.{ready_lists}
use Rattle.stack_rules.specs.Tests.{is_retain}
use Rattle.hand_lemmas.proofs.Ready.{ready_is}
use Rattle.driver_views.specs.States.{ProtocolState}
use Rattle.driver_tray.specs.Tray.{TrayView}
use Rattle.driver_calls.specs.Filters.{is_ready}
use Rattle.driver_calls.specs.Protocols.{IsDrained}
use Rattle.book_lemmas.specs.Called.{protocol_called}
use Rattle.book_lemmas.specs.Views.{BookView, HeldView, no_pool, no_protocol, held_pool, hands_of}
use Rattle.book_lemmas.proofs.Called.{protocol_is_called, protocol_leaves}
use Rattle.call_lemmas.specs.Served.{Counts}
use Rattle.call_lemmas.proofs.Miniports.{home_row}
use Rattle.call_lemmas.proofs.Served.{counts_none, did_protocol}
use Rattle.book_parts.proofs.Events.{Begins, begins_called, begins_stands, begins_roomed}
use Rattle.drain_work.specs.Drains.{called_with, TicksRoomed, IsResting, IsSame, Gives, returned_from}
use Rattle.drain_work.proofs.Emptied.{Empties, IsTicked, empties_home, empties_none, ready_rows, begins_tick, still_is, moves_is, ticked_gives}
use Rattle.drain_work.proofs.FirstRows.{first_here, first_later, numbers_at, numbers_past}
use Rattle.drain_work.proofs.Sames.{book_is, gives_then, gives_rows, gives_none}

module _ (old : BookView) (begun : TrayView) (i : ℕ) (r : IsResting old) (g : Begins old.tray begun []) (within : i < length old.tray.net.head.bindings) where
  abbrev m : ModuleId
  m = Binding i

  abbrev pool : PoolView
  pool = held_pool old.held (Binding i)

  abbrev b : TrayView
  b = called_with begun (Binding i) (held_pool old.held (Binding i))

  abbrev s : ProtocolState
  s = slice_index_or old.held.protocols i no_protocol

  kind : s.kind ≡ kind_of_binding old.tray.net.head i
  kind = r.book.stands.protocol_kinds i within

  protocols : i < length old.held.protocols
  protocols = subst (λ n. i < n) (sym r.book.stands.protocols) within

  pools : i < length old.held.protocol_pools
  pools = subst (λ n. i < n) (sym r.book.stands.protocol_pools) within

  rows_are : is_retain s.kind ≡ true → returns_all old.tray.net i ≡ map (returned_by old.tray.net) (ready_lists old.tray.net (Binding i))
  rows_are e = cond-true (is_retain (kind_of_binding old.tray.net.head i)) _ [] (ap is_retain (sym kind) ∙ e)

  -- what it did, by its kind
  emptied : (v : Bool) (s' : ProtocolState) (left : TrayView) → is_retain s.kind ≡ v → IsDrained s b s' left → Empties b (hands_of begun.queue old.held []) m s.kept s'.kept left (returns_all old.tray.net i)
  emptied true s' left e d =
      let k = d.retains e in
      let stands = begins_stands r.book (begins_called (Binding i) (held_pool old.held (Binding i)) g) in
      empties_home b (hands_of begun.queue old.held []) m Success (is_ready begun.net) s.kept s'.kept left (returns_all old.tray.net i) (begins_tick (Binding i) r.book g) k.kept_are k.tray
      (ready_rows begun.net (hands_of begun.queue old.held []) (Binding i) s.kept (λ c. home_row begun.net.modules (Binding i) c Success)
      (ready_is begun.net (hands_of begun.queue old.held []) (Binding i) stands.agrees) refl
      ∙ ap (λ (n : Net). map (returned_by n) (ready_lists n (Binding i))) g.net
      ∙ sym (rows_are e))
  emptied false s' left e d =
      let k = d.other e in
      empties_none b (hands_of begun.queue old.held []) m s.kept s'.kept left (returns_all old.tray.net i) (begins_tick (Binding i) r.book g) (ap (λ (x : ProtocolState). x.kept) k.0) k.1
      (cond-false (is_retain (kind_of_binding old.tray.net.head i)) _ [] (ap is_retain (sym kind) ∙ e))

  ticked : (s' : ProtocolState) (left : TrayView) → IsDrained s b s' left → IsTicked old begun m (protocol_called old.held i s' left.pool) s'.kept left (returns_all old.tray.net i)
  ticked s' left d =
      let e = emptied (is_retain s.kind) s' left refl d in
      record {
        did = e;
        called = protocol_is_called old.held i s' left.pool protocols pools;
        leaves = protocol_leaves old.held i s' left.pool protocols pools (ap (λ (x : ProtocolState). x.kind) d.same) (ap (λ (x : ProtocolState). x.is_open) d.same) e.call.size e.call.bytes;
        ring = r.book.stands.ring;
        served = did_protocol old.held s' left.pool e.call protocols tt (subst (λ (x : ProtocolState). Counts (Binding i) [] [] s.did x.did) (sym d.same) (counts_none (Binding i) s.did));
        unchanged = λ kept same.
            let state : s' ≡ s = d.same ∙ ap (λ ks. record s { kept = ks }) kept in
            ap (λ (x : ProtocolState). record old.held { protocols = slice_set old.held.protocols i x; protocol_pools = slice_set old.held.protocol_pools i left.pool }) state
            ∙ ap (λ (p : PoolView). record old.held { protocols = slice_set old.held.protocols i s; protocol_pools = slice_set old.held.protocol_pools i p }) same
            ∙ ap (λ ps. record old.held { protocols = ps; protocol_pools = slice_set old.held.protocol_pools i pool }) (set-get_or old.held.protocols i no_protocol)
            ∙ ap (λ ps. record old.held { protocol_pools = ps }) (set-get_or old.held.protocol_pools i no_pool);
      }

pub binding_gives : (old new : BookView) (i : ℕ) (s' : ProtocolState) (pool' : PoolView) (moved : Bool) → IsResting old → i < length old.tray.net.head.bindings
    → TicksRoomed (Binding i) (λ t left. IsDrained (slice_index_or old.held.protocols i no_protocol) t s' left) old.tray (slice_index_or old.held.protocol_pools i no_pool) moved new.tray pool'
    → new.held ≡ protocol_called old.held i s' pool' → Gives old new (returns_all old.tray.net i) moved
binding_gives old new i s' pool' moved r within t held =
    let g : Begins old.tray t.begun [] = begins_roomed old.tray t.begun t.roomed.same t.roomed.covers t.roomed.slack in
    subst (λ (v : BookView). Gives old v (returns_all old.tray.net i) moved) (book_is refl (held ∙ ap (protocol_called old.held i s') t.ticks.pool_is))
    (ticked_gives old t.begun t.ticks.left new.tray (Binding i) (protocol_called old.held i s' t.ticks.left.pool) s'.kept (returns_all old.tray.net i) moved r g t.turns
    (ticked old t.begun i r g within s' t.ticks.left t.ticks.does) t.ticks.tray (still_is moved t.ticks.left.queue t.ticks.moved_is) (moves_is moved t.ticks.left.queue t.ticks.moved_is))

-- one binding after the other
pub returned_past : (old : BookView) (i : ℕ) → length old.tray.net.head.bindings ≤ i → Gives old old (returned_from old.tray.net i) false
returned_past old i past = gives_none old (returned_from old.tray.net i) (ap (λ ns. first_rows (map (returns_all old.tray.net) ns)) (numbers_past i i old.tray.net.head.bindings past))

from_here : (net : Net) (i : ℕ) → i < length net.head.bindings → returned_from net i ≡ first_rows (map (returns_all net) (i ∷ numbers_from (i + 1) (drop (i + 1) net.head.bindings)))
from_here net i within = ap (λ ns. first_rows (map (returns_all net) ns)) (numbers_at i i net.head.bindings within)

pub returned_here : (old new : BookView) (i : ℕ) → i < length old.tray.net.head.bindings → Gives old new (returns_all old.tray.net i) true → Gives old new (returned_from old.tray.net i) true
returned_here old new i within g =
    gives_rows (sym (from_here old.tray.net i within ∙ first_here (returns_all old.tray.net i) _ (g.gave refl).some)) g

pub returned_later : (old mid new : BookView) (i : ℕ) (moved : Bool) → i < length old.tray.net.head.bindings → Gives old mid (returns_all old.tray.net i) false → Gives mid new (returned_from mid.tray.net (i + 1)) moved
    → Gives old new (returned_from old.tray.net i) moved
returned_later old mid new i moved within first more =
    let s : IsSame old mid = first.still refl in
    let e : returned_from mid.tray.net (i + 1) ≡ returned_from old.tray.net i =
    ap (λ (n : Net). returned_from n (i + 1)) s.tray.net ∙ sym (from_here old.tray.net i within ∙ first_later (returns_all old.tray.net i) _ (first.none refl)) in
    gives_rows e (gives_then s more)

-- the same at a place
abbrev Ticked : ℕ → ProtocolState → ProtocolState → TrayView → PoolView → Bool → TrayView → PoolView → Type 0
Ticked i s s' t pool moved t' pool' = TicksRoomed (Binding i) (λ q left. IsDrained s q s' left) t pool moved t' pool'

pub ticked_at : {E : Type 0} (r : Result Bool E) (i : ℕ) (s q s' q' : ProtocolState) (t : TrayView) (pool from : PoolView) (t' : TrayView) (pool' from' : PoolView) → q ≡ s → q' ≡ s' → from ≡ pool → from' ≡ pool'
    → IfOk r (λ moved. Ticked i s s' t pool moved t' pool') → IfOk r (λ moved. Ticked i q q' t from moved t' from')
ticked_at r i s q s' q' t pool from t' pool' from' e f k l h =
    subst (λ x. IfOk r (λ moved. Ticked i x q' t from moved t' from')) (sym e)
    (subst (λ x. IfOk r (λ moved. Ticked i s x t from moved t' from')) (sym f)
    (subst (λ x. IfOk r (λ moved. Ticked i s s' t x moved t' from')) (sym k)
    (subst (λ x. IfOk r (λ moved. Ticked i s s' t pool moved t' x)) (sym l) h)))

-- the view with other protocols and pools
pub called_at : (held : HeldView) (i : ℕ) (s' : ProtocolState) (left : PoolView) (all : List ProtocolState) (each : List PoolView) → all ≡ slice_set held.protocols i s' → each ≡ slice_set held.protocol_pools i left
    → record held { protocols = all; protocol_pools = each } ≡ protocol_called held i s' left
called_at held i s' left all each e f = ap (λ ps. record held { protocols = ps; protocol_pools = each }) e ∙ ap (λ ps. record held { protocols = slice_set held.protocols i s'; protocol_pools = ps }) f
