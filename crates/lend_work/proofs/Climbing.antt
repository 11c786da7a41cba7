-- A lent list at one filter after the other: what is known before each, and what is left for the next one.
use Rattle.std.proofs.Common.{◌≡◌, ℕ, suc, ◌+◌, ◌-◌, ◌≤◌, ◌<◌, true, false, cond, List, ◌∷◌, Option, Some, None, IsSome, length, slice_index, slice_set, length-set, refl, sym, ap, ◌∙◌, subst, arith}
use Rattle.std.proofs.lemmas.Bool.{cond-true, cond-false}
use Rattle.ndis_base.specs.declared.ListStatus.{ListStatus}
use Rattle.ndis_base.specs.declared.ModuleId.TheVariants.{Filter}
use Rattle.journal_types.specs.declared.Handler.TheVariants as handler
use Rattle.buffer_pools.specs.Views.{ListView, PoolView}
use Rattle.stack_rules.specs.Net.{Modules}
use Rattle.stack_rules.specs.Targets.{has_receive}
use Rattle.promise_rules.specs.declared.Called.TheVariants as called
use Rattle.driver_views.specs.States.{FilterState, times}
use Rattle.driver_tray.specs.Tray.{TrayView, given}
use Rattle.book_lemmas.specs.Views.{no_filter, no_pool, filter_at, pool_at, seat_of}
use Rattle.lend_work.specs.Visits.{MayVisit, Bench, VisitsAt, bench}
use Rattle.lend_work.specs.Climbs.{Climbs, IsServed, MayClimb, receivers}
use Rattle.lend_work.specs.Climbs.AtFilter.{ends, goes_on}
use Rattle.lend_work.proofs.Meeting.{went_on}
use Rattle.lend_work.proofs.Placed.{still_at, more_at}

same_place : (p q : ℕ) (o : Option ℕ) → o ≡ Some p → o ≡ Some q → p ≡ q
same_place p q o e f = cc (e, f)

-- the filter's place
pub record IsPlaced (seats : List (ℕ × ℕ)) (f place : ℕ) (d : Bench) : Type 0 where
  pub driver : place < length d.filters
  pub pool : place < length d.pools
  pub setup : IsSome (filter_at d.filters (Some place)).setup
  pub bytes : (pool_at d.pools (Some place)).bytes ≡ 1518

pub is_placed : {seats : List (ℕ × ℕ)} {f : ℕ} {d : Bench} (place : ℕ) → IsServed seats f d → seat_of seats f ≡ Some place → IsPlaced seats f place d
is_placed {seats} {f} {d} place s seat =
    subst (λ p. IsPlaced seats f p d) (same_place s.place place (seat_of seats f) s.seat seat) (record { driver = s.driver; pool = s.pool; setup = s.setup; bytes = s.bytes })

pub has_place : {seats : List (ℕ × ℕ)} {f : ℕ} {d : Bench} → IsServed seats f d → seat_of seats f ≡ None → ⊥
has_place s none = let some = s.seat in cc (none, some)

-- the topmost filter of the next ones
pub served_top : {seats : List (ℕ × ℕ)} {many : ℕ} {l : ListView} {d : Bench} (f : ℕ) → MayClimb seats many l d → 1 ≤ many → f ≡ slice_index d.tray.net.modules.order (many - 1) → has_receive d.tray.net.modules f ≡ true → IsServed seats f d
served_top {seats} {many} {l} {d} f m some is has =
    subst (λ g. IsServed seats g d) (sym is) (m.served (many - 1) (omega (arith, some)) (ap (has_receive d.tray.net.modules) (sym is) ∙ has))

pub may_visit : {seats : List (ℕ × ℕ)} {many : ℕ} {l : ListView} {d : Bench} (f place : ℕ) → MayClimb seats many l d → IsPlaced seats f place d → MayVisit (filter_at d.filters (Some place)) l d.tray (pool_at d.pools (Some place))
may_visit f place m p = record {
  setup = p.setup;
  count = omega (arith, m.counts place p.driver);
  direction = m.direction;
  sized = m.sized;
  size = p.bytes;
  rows = omega (arith, m.room.rows);
  slack = m.room.slack;
  frames = m.room.frames;
  bytes = m.room.bytes;
  low = m.room.low;
  received = m.room.received;
}

-- a filter without the receive pair is passed over
pub may_pass : {seats : List (ℕ × ℕ)} {many : ℕ} {l : ListView} {d : Bench} → MayClimb seats many l d → 1 ≤ many → MayClimb seats (many - 1) l d
may_pass m some = record {
  within = omega (arith, m.within);
  served = λ k less. m.served k (omega (arith, less));
  counts = λ place within. omega (arith, m.counts place within);
  direction = m.direction;
  sized = m.sized;
  room = record { rows = omega (arith, m.room.rows); slack = m.room.slack; frames = m.room.frames; bytes = m.room.bytes; low = m.room.low; received = m.room.received };
}

-- the tray once a filter left the list as it is
abbrev pub passed_by : TrayView → ℕ → PoolView → ListView → TrayView
passed_by t f pool l = record (given (record t { caller = Filter f; pool = pool }) l.label.number handler.ReceiveLent) { pool = t.pool }

served_still : {seats : List (ℕ × ℕ)} {g place : ℕ} {d : Bench} (state : FilterState) (pool : PoolView) (t : TrayView) → place < length d.filters → place < length d.pools
    → state.setup ≡ (filter_at d.filters (Some place)).setup → pool.bytes ≡ (pool_at d.pools (Some place)).bytes → IsServed seats g d → IsServed seats g (bench (slice_set d.filters place state) (slice_set d.pools place pool) t)
served_still {seats} {g} {place} {d} state pool t there housed setup bytes s = record {
  place = s.place;
  seat = s.seat;
  driver = subst (λ n. s.place < n) (sym (length-set d.filters place state)) s.driver;
  pool = subst (λ n. s.place < n) (sym (length-set d.pools place pool)) s.pool;
  setup = subst IsSome (sym (still_at (λ (x : FilterState). x.setup) d.filters place state no_filter there setup s.place)) s.setup;
  bytes = still_at (λ (p : PoolView). p.bytes) d.pools place pool no_pool housed bytes s.place ∙ s.bytes;
}

bench_is : {d' : Bench} {fs : List FilterState} {ps : List PoolView} {t : TrayView} → d'.filters ≡ fs → d'.pools ≡ ps → d'.tray ≡ t → bench fs ps t ≡ d'
bench_is {d'} {fs} {ps} {t} e f g = ap (λ x. bench x ps t) (sym e) ∙ ap (λ x. bench d'.filters x t) (sym f) ∙ ap (λ x. bench d'.filters d'.pools x) (sym g)

-- the list may be lent to the others where a filter left it as it is
pub may_next : {seats : List (ℕ × ℕ)} {many : ℕ} {l : ListView} {d mid : Bench} (f place : ℕ) → MayClimb seats many l d → 1 ≤ many → IsPlaced seats f place d → VisitsAt f place l d None mid → MayClimb seats (many - 1) l mid
may_next {seats} {many} {l} {d} {mid} f place m some p v =
    let w = went_on refl p.setup v.visits in
    let setup : v.state.setup ≡ (filter_at d.filters (Some place)).setup = ap (λ (s : FilterState). s.setup) w.state in
    let bytes : v.pool.bytes ≡ (pool_at d.pools (Some place)).bytes = ap (λ (q : PoolView). q.bytes) w.pool_is in
    let t : TrayView = passed_by d.tray f (pool_at d.pools (Some place)) l in
    let count : times v.state.did.served called.ReceiveLent ≤ times (filter_at d.filters (Some place)).did.served called.ReceiveLent + 1 =
    (let is = ap (λ (s : FilterState). times s.did.served called.ReceiveLent) w.state in omega (arith, is)) in
    subst (MayClimb seats (many - 1) l) (bench_is v.filters v.pools w.tray)
    (record {
      within = omega (arith, m.within);
      served = λ k less has. served_still v.state v.pool t p.driver p.pool setup bytes (m.served k (omega (arith, less)) has);
      counts = λ q within. omega (arith, more_at (λ (s : FilterState). times s.did.served called.ReceiveLent) d.filters place v.state no_filter p.driver count q, m.counts q (subst (λ n. q < n) (length-set d.filters place v.state) within), some);
      direction = m.direction;
      sized = m.sized;
      room = record { rows = omega (arith, m.room.rows, some); slack = m.room.slack; frames = m.room.frames; bytes = m.room.bytes; low = m.room.low; received = m.room.received };
    })

-- the filters that are still to come, by the topmost one
receivers_one : (ms : Modules) (many : ℕ) → 1 ≤ many
    → receivers ms many ≡ cond (has_receive ms (slice_index ms.order (many - 1))) (slice_index ms.order (many - 1) ∷ receivers ms (many - 1)) (receivers ms (many - 1))
receivers_one ms many some =
    let is : many ≡ suc (many - 1) = omega (arith, some) in
    ap (receivers ms) is

with_top : (ms : Modules) (many f : ℕ) → 1 ≤ many → f ≡ slice_index ms.order (many - 1) → has_receive ms f ≡ true → receivers ms many ≡ f ∷ receivers ms (many - 1)
with_top ms many f some is has =
    receivers_one ms many some ∙ cond-true (has_receive ms (slice_index ms.order (many - 1))) (slice_index ms.order (many - 1) ∷ receivers ms (many - 1)) (receivers ms (many - 1)) (ap (has_receive ms) (sym is) ∙ has)
    ∙ ap (λ g. g ∷ receivers ms (many - 1)) (sym is)

pub without_top : (ms : Modules) (many f : ℕ) → 1 ≤ many → f ≡ slice_index ms.order (many - 1) → has_receive ms f ≡ false → receivers ms many ≡ receivers ms (many - 1)
without_top ms many f some is has =
    receivers_one ms many some ∙ cond-false (has_receive ms (slice_index ms.order (many - 1))) (slice_index ms.order (many - 1) ∷ receivers ms (many - 1)) (receivers ms (many - 1)) (ap (has_receive ms) (sym is) ∙ has)

-- nothing is left
pub climbs_none : (seats : List (ℕ × ℕ)) (l : ListView) (ms : Modules) (many : ℕ) (d : Bench) → many ≡ 0 → Climbs seats l (receivers ms many) d None d
climbs_none seats l ms many d none = subst (λ n. Climbs seats l (receivers ms n) d None d) (sym none) (record { same = refl; past = refl })

pub climbs_over : (seats : List (ℕ × ℕ)) (l : ListView) (many f : ℕ) (d d' : Bench) (went : Option ListStatus) → 1 ≤ many → f ≡ slice_index d.tray.net.modules.order (many - 1) → has_receive d.tray.net.modules f ≡ false
    → Climbs seats l (receivers d.tray.net.modules (many - 1)) d went d' → Climbs seats l (receivers d.tray.net.modules many) d went d'
climbs_over seats l many f d d' went some is has c = subst (λ fs. Climbs seats l fs d went d') (sym (without_top d.tray.net.modules many f some is has)) c

pub climbs_ended : (seats : List (ℕ × ℕ)) (l : ListView) (many f place : ℕ) (d d' : Bench) (status : ListStatus) → 1 ≤ many → f ≡ slice_index d.tray.net.modules.order (many - 1) → has_receive d.tray.net.modules f ≡ true
    → seat_of seats f ≡ Some place → VisitsAt f place l d (Some status) d' → Climbs seats l (receivers d.tray.net.modules many) d (Some status) d'
climbs_ended seats l many f place d d' status some is has seat v =
    subst (λ fs. Climbs seats l fs d (Some status) d') (sym (with_top d.tray.net.modules many f some is has)) (ends place status seat refl v)

pub climbs_on : (seats : List (ℕ × ℕ)) (l : ListView) (many f place : ℕ) (d mid d' : Bench) (went : Option ListStatus) → 1 ≤ many → f ≡ slice_index d.tray.net.modules.order (many - 1) → has_receive d.tray.net.modules f ≡ true
    → seat_of seats f ≡ Some place → IsPlaced seats f place d → VisitsAt f place l d None mid → Climbs seats l (receivers mid.tray.net.modules (many - 1)) mid went d' → Climbs seats l (receivers d.tray.net.modules many) d went d'
climbs_on seats l many f place d mid d' went some is has seat p v c =
    let w = went_on refl p.setup v.visits in
    let modules : mid.tray.net.modules ≡ d.tray.net.modules = ap (λ (t : TrayView). t.net.modules) w.tray in
    subst (λ fs. Climbs seats l fs d went d') (sym (with_top d.tray.net.modules many f some is has))
    (goes_on place mid seat v (subst (λ (ms : Modules). Climbs seats l (receivers ms (many - 1)) mid went d') modules c))
