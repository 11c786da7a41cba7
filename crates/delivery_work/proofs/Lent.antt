-- What a delivery leaves for the next one.
use Rattle.std.proofs.Common.{◌≡◌, ℕ, ◌+◌, ◌*◌, ◌≤◌, ◌<◌, cond, List, length, sum_by, slice_index_or, slice_set, length-set, get_or-set_other, refl, sym, ap, ◌∙◌, subst, arith, None}
use Rattle.std.specs.List.{AllWithin}
use Rattle.ndis_base.specs.declared.Direction.TheVariants.{Down}
use Rattle.ndis_base.specs.declared.ModuleId.TheVariants.{Binding}
use Rattle.journal_types.specs.declared.How.TheVariants.{Lent}
use Rattle.journal_types.specs.declared.Row.TheVariants as row
use Rattle.buffer_pools.specs.declared.label.Label.{Label}
use Rattle.buffer_pools.specs.Views.{ListView, PoolView}
use Rattle.stack_rules.specs.Net.{Net, after}
use Rattle.stack_rules.specs.Port.{Port}
use Rattle.stack_rules.specs.Tests.{is_miniport}
use Rattle.hand_lemmas.specs.Frames.{AreSized}
use Rattle.driver_views.specs.States.{ProtocolState}
use Rattle.driver_tray.specs.Tray as tray
use Rattle.driver_tray.specs.Tray.{TrayView, Starts, IsLow}
use Rattle.driver_tray.proofs.Rows.{fits_bytes}
use Rattle.driver_calls.specs.Protocols.{Echoes}
use Rattle.driver_calls.specs.Protocols.Echoes.{silent, lacking, echoing}
use Rattle.call_lemmas.proofs.Steps.{IsPass, onward_is}
use Rattle.book_lemmas.specs.Views.{no_pool, no_protocol}
use Rattle.binding_work.specs.Owns.{Lends, MayLend, MayOwn}
use Rattle.binding_work.specs.Sends.{called_with}
use Rattle.delivery_work.specs.Desks.{Desk, LendsAt, MayDeliver, HasRoomFrom, CanTake}

-- an echo uses at most two rows and a place on the way, and one number
pub record IsEchoed (t t' : TrayView) : Type 0 where
  pub rows : t.room.rows ≤ t'.room.rows + 2
  pub slack : t.slack ≤ t'.slack + 1
  pub frames : t.room.frames ≤ t'.room.frames
  pub bytes : t.room.bytes ≤ t'.room.bytes
  pub list : t'.net.next.list ≤ t.net.next.list + 1
  pub port : t'.net.port ≡ t.net.port
  pub head : t'.net.head ≡ t.net.head

echoed_same : {t t' : TrayView} → t' ≡ t → IsEchoed t t'
echoed_same {t} {t'} e =
    let rows = ap (λ (x : TrayView). x.room.rows) e in
    let slack = ap (λ (x : TrayView). x.slack) e in
    let frames = ap (λ (x : TrayView). x.room.frames) e in
    let bytes = ap (λ (x : TrayView). x.room.bytes) e in
    let list = ap (λ (x : TrayView). x.net.next.list) e in
    record {
      rows = omega (arith, rows);
      slack = omega (arith, slack);
      frames = omega (arith, frames);
      bytes = omega (arith, bytes);
      list = omega (arith, list);
      port = ap (λ (x : TrayView). x.net.port) e;
      head = ap (λ (x : TrayView). x.net.head) e;
    }

echoed_started : {t t' : TrayView} {b : ℕ} {frames : List (List ℕ)} → t.caller ≡ Binding b → Starts t Down None frames t' → IsEchoed t t'
echoed_started {t} {t'} {b} caller s =
    let l : ListView = s.list in
    let t1 : TrayView = tray.written (record t { pool = t'.pool }) (tray.issue_row l.label l.frames) in
    let p : IsPass l (tray.onward_row t1 l) = onward_is t1 l in
    let own : l.label.owner ≡ Binding b = ap (λ (k : Label). k.owner) s.label ∙ caller in
    let net : t'.net ≡ after t1.net (row.Pass l.label.number p.way p.to) = ap (λ (x : TrayView). x.net) s.tray ∙ ap (after t1.net) p.is in
    let rows = ap (λ (x : TrayView). x.room.rows) s.tray in
    let slack = ap (λ (x : TrayView). x.slack) s.tray in
    let frames = ap (λ (x : TrayView). x.room.frames) s.tray in
    let bytes = ap (λ (x : TrayView). x.room.bytes) s.tray in
    let list : t'.net.next.list ≡ t.net.next.list + 1 = ap (λ (n : Net). n.next.list) net in
    record {
      rows = omega (arith, rows);
      slack = omega (arith, slack);
      frames = omega (arith, frames);
      bytes = omega (arith, bytes);
      list = omega (arith, list);
      port = ap (λ (n : Net). n.port) net ∙ ap (λ o. record t.net.port { received = cond (is_miniport o) (t.net.port.received + length l.frames) t.net.port.received }) own;
      head = ap (λ (n : Net). n.head) net;
    }

echoed_by : {s : ProtocolState} {l : ListView} {t t' : TrayView} {b : ℕ} → t.caller ≡ Binding b → Echoes s l t t' → IsEchoed t t'
echoed_by caller (silent quiet same) = echoed_same same
echoed_by caller (lacking echo full same) = echoed_same same
echoed_by caller (echoing echo some starts) = echoed_started caller starts

-- a delivery by which a list is lent uses at most three rows and the frames of one list
pub record IsLentSo (t t' : TrayView) : Type 0 where
  pub rows : t.room.rows ≤ t'.room.rows + 3
  pub slack : t.slack ≤ t'.slack + 1
  pub frames : t.room.frames ≤ t'.room.frames + 8
  pub bytes : t.room.bytes ≤ t'.room.bytes + 12144
  pub list : t'.net.next.list ≤ t.net.next.list + 1
  pub port : t'.net.port ≡ t.net.port
  pub head : t'.net.head ≡ t.net.head

pub lent_so : {b : ℕ} {l : ListView} {s s' : ProtocolState} {t t' : TrayView} {pool pool' : PoolView} → AreSized l.frames → Lends b l s t pool s' t' pool' → IsLentSo t t'
lent_so {b} {l} {s} {s'} {t} {t'} {pool} {pool'} sized d =
    let t0 : TrayView = tray.delivered (called_with t (Binding b) pool) l b Lent in
    let echo : IsEchoed t0 d.mid = echoed_by {b = b} refl d.lent.echo in
    let rows = ap (λ (x : TrayView). x.room.rows) d.tray in
    let slack = ap (λ (x : TrayView). x.slack) d.tray in
    let frames = ap (λ (x : TrayView). x.room.frames) d.tray in
    let bytes = ap (λ (x : TrayView). x.room.bytes) d.tray in
    let list = ap (λ (x : TrayView). x.net.next.list) d.tray in
    let few : length l.frames ≤ 8 = sized.fits.few in
    let short : sum_by length l.frames ≤ 8 * 1518 = fits_bytes l.frames sized.fits in
    record {
      rows = omega (arith, rows, echo.rows);
      slack = omega (arith, slack, echo.slack);
      frames = omega (arith, frames, echo.frames, few);
      bytes = omega (arith, bytes, echo.bytes, short);
      list = omega (arith, list, echo.list);
      port = ap (λ (x : TrayView). x.net.port) d.tray ∙ echo.port;
      head = ap (λ (x : TrayView). x.net.head) d.tray ∙ echo.head;
    }

room_after : (from next many : ℕ) (t t' : TrayView) → HasRoomFrom from many t → IsLentSo t t' → from < next → HasRoomFrom next many t'
room_after from next many t t' r s less =
    let sent = ap (λ (p : Port). p.sent) s.port in
    let received = ap (λ (p : Port). p.received) s.port in
    record {
      rows = omega (arith, r.rows, s.rows, less);
      slack = omega (arith, r.slack, s.slack, less);
      frames = omega (arith, r.frames, s.frames, less);
      bytes = omega (arith, r.bytes, s.bytes, less);
      list = omega (arith, r.list, s.list, less);
      sent = omega (arith, r.sent, sent);
      received = omega (arith, r.received, received);
    }

above_only : {X : Type 0} (P : X → Type 0) (xs ys : List X) (from next : ℕ) (x : X) → AllWithin P xs from (length xs) → ys ≡ slice_set xs from x → from < next → AllWithin P ys next (length ys)
above_only P xs ys from next x all e less =
    subst (λ zs. AllWithin P zs next (length zs)) (sym e) (λ k d low high.
    let within : k < length xs = subst (λ n. k < n) (length-set xs from x) high in
    subst P (sym (get_or-set_other xs from k x d (λ same. omega (arith, same, low, less)))) (all k d (omega (arith, low, less)) within))

-- the list may be delivered to the next one
pub may_next : (from next : ℕ) (l : ListView) (d mid : Desk) → MayDeliver from l d → LendsAt from l d mid → from < next → next < length d.protocols → MayDeliver next l mid
may_next from next l d mid m s less within =
    let many : length mid.protocols ≡ length d.protocols = ap length s.protocols ∙ length-set d.protocols from s.state in
    let pools : length mid.pools ≡ length d.pools = ap length s.pools ∙ length-set d.pools from s.pool in
    record {
      below = omega (arith, many, within);
      pools = pools ∙ m.pools ∙ sym many;
      counts = above_only CanTake d.protocols mid.protocols from next s.state m.counts s.protocols less;
      bytes = above_only (λ (p : PoolView). p.bytes ≡ 1518) d.pools mid.pools from next s.pool m.bytes s.pools less;
      sized = m.sized;
      room = subst (λ n. HasRoomFrom next n mid.tray) (sym many) (room_after from next (length d.protocols) d.tray mid.tray m.room (lent_so m.sized s.lends) less);
    }

is_low : (from many : ℕ) (t : TrayView) → from < many → HasRoomFrom from many t → IsLow t.net
is_low from many t within r = record { list = omega (arith, r.list, within); sent = r.sent; received = r.received }

pub may_lend : (b : ℕ) (l : ListView) (d : Desk) → MayDeliver b l d → MayLend (slice_index_or d.protocols b no_protocol) l d.tray (slice_index_or d.pools b no_pool)
may_lend b l d m = record {
  count = (m.counts b no_protocol (omega arith) m.below).lent;
  sized = m.sized;
  size = m.bytes b no_pool (omega arith) (omega (arith, m.below, m.pools));
  rows = omega (arith, m.room.rows, m.below);
  slack = omega (arith, m.room.slack, m.below);
  frames = omega (arith, m.room.frames, m.below);
  bytes = omega (arith, m.room.bytes, m.below);
  low = is_low b (length d.protocols) d.tray m.below m.room;
}

pub may_own : (b : ℕ) (l : ListView) (d : Desk) → MayDeliver b l d → MayOwn (slice_index_or d.protocols b no_protocol) l d.tray (slice_index_or d.pools b no_pool)
may_own b l d m = record {
  count = (m.counts b no_protocol (omega arith) m.below).own;
  sized = m.sized;
  size = m.bytes b no_pool (omega arith) (omega (arith, m.below, m.pools));
  rows = omega (arith, m.room.rows, m.below);
  slack = omega (arith, m.room.slack, m.below);
  frames = omega (arith, m.room.frames, m.below);
  bytes = omega (arith, m.room.bytes, m.below);
  low = is_low b (length d.protocols) d.tray m.below m.room;
}

-- the other protocols have their room still
pub rooms_above : (old new : List ℕ) (from next many x : ℕ) → AllWithin (λ r. 1 ≤ r) old from many → new ≡ slice_set old from x → from < next → AllWithin (λ r. 1 ≤ r) new next many
rooms_above old new from next many x all e less =
    subst (λ zs. AllWithin (λ r. 1 ≤ r) zs next many) (sym e) (λ k d low high.
    subst (λ r. 1 ≤ r) (sym (get_or-set_other old from k x d (λ same. omega (arith, same, low, less)))) (all k d (omega (arith, low, less)) high))
