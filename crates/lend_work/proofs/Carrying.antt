-- What a lent list leaves of the room as it goes up.
use Rattle.std.proofs.Common.{◌≡◌, ℕ, zero, suc, ◌+◌, ◌*◌, ◌≤◌, List, [], ◌∷◌, Option, None, length, slice_index, refl, sym, ap, ◌∙◌, subst, arith}
use Rattle.ndis_base.specs.declared.ListStatus.{ListStatus}
use Rattle.buffer_pools.specs.Views.{ListView}
use Rattle.stack_rules.specs.Net.{Modules}
use Rattle.stack_rules.specs.Targets.{has_receive}
use Rattle.driver_tray.specs.Tray.{TrayView}
use Rattle.book_lemmas.specs.Views.{BookView}
use Rattle.delivery_work.specs.Desks.{HasRoomFrom, desk}
use Rattle.lend_work.specs.Visits.{Bench, VisitsAt}
use Rattle.lend_work.specs.Climbs.{Climbs, receivers}
use Rattle.lend_work.specs.Climbs.AtFilter.{ends, goes_on}
use Rattle.lend_work.specs.Bindings.{MayLendFrom}
use Rattle.lend_work.specs.Lends.{Carries, MayCarry}
use Rattle.lend_work.specs.Lends.Carries.{stops, arrives}
use Rattle.lend_work.proofs.Arriving.{arrived_rows, one_more}
use Rattle.lend_work.proofs.Meeting.{went_on, visited_rows}

-- the filters left the list as it is: each used a row, and nothing else that a binding sees changed
pub record IsUp (t t' : TrayView) (many : ℕ) : Type 0 where
  pub rows : t.room.rows ≤ t'.room.rows + many
  pub slack : t'.slack ≡ t.slack
  pub frames : t'.room.frames ≡ t.room.frames
  pub bytes : t'.room.bytes ≡ t.room.bytes
  pub turns : t'.room.turns ≡ t.room.turns
  pub list : t'.net.next.list ≡ t.net.next.list
  pub sent : t'.net.port.sent ≡ t.net.port.sent
  pub received : t'.net.port.received ≡ t.net.port.received

one_up : {f place : ℕ} {l : ListView} {d mid : Bench} → VisitsAt f place l d None mid → IsUp d.tray mid.tray 1
one_up v =
    let w = went_on refl v.setup v.visits in
    let rows = ap (λ (t : TrayView). t.room.rows) w.tray in
    record {
      rows = omega (arith, rows);
      slack = ap (λ (t : TrayView). t.slack) w.tray;
      frames = ap (λ (t : TrayView). t.room.frames) w.tray;
      bytes = ap (λ (t : TrayView). t.room.bytes) w.tray;
      turns = ap (λ (t : TrayView). t.room.turns) w.tray;
      list = ap (λ (t : TrayView). t.net.next.list) w.tray;
      sent = ap (λ (t : TrayView). t.net.port.sent) w.tray;
      received = ap (λ (t : TrayView). t.net.port.received) w.tray;
    }

up_then : {a b c : TrayView} {m n : ℕ} → IsUp a b m → IsUp b c n → IsUp a c (m + n)
up_then p q = record {
  rows = omega (arith, p.rows, q.rows);
  slack = q.slack ∙ p.slack;
  frames = q.frames ∙ p.frames;
  bytes = q.bytes ∙ p.bytes;
  turns = q.turns ∙ p.turns;
  list = q.list ∙ p.list;
  sent = q.sent ∙ p.sent;
  received = q.received ∙ p.received;
}

up_none : {t t' : TrayView} → t' ≡ t → IsUp t t' 0
up_none {t} {t'} e =
    let rows = ap (λ (x : TrayView). x.room.rows) e in
    record {
      rows = omega (arith, rows);
      slack = ap (λ (x : TrayView). x.slack) e;
      frames = ap (λ (x : TrayView). x.room.frames) e;
      bytes = ap (λ (x : TrayView). x.room.bytes) e;
      turns = ap (λ (x : TrayView). x.room.turns) e;
      list = ap (λ (x : TrayView). x.net.next.list) e;
      sent = ap (λ (x : TrayView). x.net.port.sent) e;
      received = ap (λ (x : TrayView). x.net.port.received) e;
    }

pub climbed_up : (seats : List (ℕ × ℕ)) (l : ListView) (fs : List ℕ) (d d' : Bench) (went : Option ListStatus) → went ≡ None → Climbs seats l fs d went d' → IsUp d.tray d'.tray (length fs)
climbed_up seats l [] d d' went none c = up_none (ap (λ (x : Bench). x.tray) c.same)
climbed_up seats l (f ∷ fs) d d' went none (ends place status seat is v) = absurd (cc (none, is))
climbed_up seats l (f ∷ fs) d d' went none (goes_on place mid seat v rest) =
    let many : 1 + length fs ≡ length (f ∷ fs) = omega arith in
    subst (IsUp d.tray d'.tray) many (up_then (one_up v) (climbed_up seats l fs mid d' went none rest))

climbed_rows : (seats : List (ℕ × ℕ)) (l : ListView) (fs : List ℕ) (d d' : Bench) (went : Option ListStatus) → Climbs seats l fs d went d' → d.tray.room.rows ≤ d'.tray.room.rows + length fs + 4
climbed_rows seats l [] d d' went c = let rows = ap (λ (x : Bench). x.tray.room.rows) c.same in omega (arith, rows)
climbed_rows seats l (f ∷ fs) d d' went (ends place status seat is v) = let rows = visited_rows v.setup v.visits in omega (arith, rows)
climbed_rows seats l (f ∷ fs) d d' went (goes_on place mid seat v rest) =
    let one = one_up v in
    let many : 1 + length fs ≡ length (f ∷ fs) = omega arith in
    omega (arith, one.rows, climbed_rows seats l fs mid d' went rest, many)

few_receivers : (ms : Modules) (k : ℕ) → length (receivers ms k) ≤ k
few_receivers ms zero = omega arith
few_receivers ms (suc k) = one_more (has_receive ms (slice_index ms.order k)) (slice_index ms.order k) (receivers ms k) k (few_receivers ms k)

-- the list may come to the bindings
pub may_arrive : {many : ℕ} {l : ListView} {v : BookView} (mid : Bench) (went : Option ListStatus) → MayCarry many l v → went ≡ None
    → Climbs v.held.seats l (receivers v.tray.net.modules (length v.tray.net.modules.order)) (record { filters = v.held.filters; pools = v.held.filter_pools; tray = v.tray }) went mid
    → MayLendFrom 0 l (desk v.held.protocols v.held.protocol_pools mid.tray) × (1 ≤ mid.tray.room.rows)
may_arrive {many} {l} {v} mid went m none c =
    let up = climbed_up v.held.seats l (receivers v.tray.net.modules (length v.tray.net.modules.order)) _ mid went none c in
    let few = few_receivers v.tray.net.modules (length v.tray.net.modules.order) in
    let rows : 3 * many + 5 ≤ mid.tray.room.rows = omega (arith, up.rows, few, m.room.rows) in
    let may : MayLendFrom 0 l (desk v.held.protocols v.held.protocol_pools mid.tray) = record {
      sized = m.climb.sized;
      may = λ b low high. record {
        below = high;
        pools = sym m.pools ∙ m.protocols;
        counts = λ k d low high. m.counts k d high;
        bytes = λ k d low high. m.bytes k d high;
        sized = m.climb.sized;
        room = subst (λ n. HasRoomFrom b n mid.tray) m.protocols (record {
          rows = omega (arith, rows);
          slack = omega (arith, up.slack, m.room.slack);
          frames = omega (arith, up.frames, m.room.frames);
          bytes = omega (arith, up.bytes, m.room.bytes);
          list = omega (arith, up.list, m.room.list);
          sent = omega (arith, up.sent, m.room.sent);
          received = omega (arith, up.received, m.room.received);
        });
      };
    } in
    (may, omega (arith, rows))

-- a row is left for the list's way home
pub carried_rows : {many : ℕ} {l : ListView} {v v' : BookView} {status : ListStatus} → MayCarry many l v → Carries many l v status v' → 1 ≤ v'.tray.room.rows
carried_rows {many} {l} {v} {v'} m (stops c held) =
    let few = few_receivers v.tray.net.modules (length v.tray.net.modules.order) in
    omega (arith, climbed_rows v.held.seats l (receivers v.tray.net.modules (length v.tray.net.modules.order)) _ _ _ c, few, m.room.rows)
carried_rows {many} {l} {v} {v'} m (arrives mid c held a kept) =
    let up = climbed_up v.held.seats l (receivers v.tray.net.modules (length v.tray.net.modules.order)) _ _ None refl c in
    let few = few_receivers v.tray.net.modules (length v.tray.net.modules.order) in
    omega (arith, up.rows, few, m.room.rows, arrived_rows m.climb.sized m.some a)

-- what was done at the filters, told by the book
pub climbs_from : (v : BookView) (l : ListView) (seats : List (ℕ × ℕ)) (many : ℕ) (d' : Bench) (went : Option ListStatus) → seats ≡ v.held.seats → many ≡ length v.tray.net.modules.order
    → Climbs seats l (receivers v.tray.net.modules many) (record { filters = v.held.filters; pools = v.held.filter_pools; tray = v.tray }) went d'
    → Climbs v.held.seats l (receivers v.tray.net.modules (length v.tray.net.modules.order)) (record { filters = v.held.filters; pools = v.held.filter_pools; tray = v.tray }) went d'
climbs_from v l seats many d' went e f c =
    subst (λ n. Climbs v.held.seats l (receivers v.tray.net.modules n) (record { filters = v.held.filters; pools = v.held.filter_pools; tray = v.tray }) went d') f
    (subst (λ ss. Climbs ss l (receivers v.tray.net.modules many) (record { filters = v.held.filters; pools = v.held.filter_pools; tray = v.tray }) went d') e c)
