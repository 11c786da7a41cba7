-- A book with room for a lent list: it may be lent out, and then carried up.
use Rattle.std.proofs.Common.{◌≡◌, ℕ, zero, suc, ◌+◌, ◌≤◌, ◌<◌, ◌==◌, ◌||◌, Bool, true, false, cond, List, [], ◌∷◌, Option, Some, None, IsSome, length, find, slice_index, refl, sym, ap, ◌∙◌, subst, arith}
use Rattle.std.specs.List.{list_any}
use Rattle.std.proofs.lemmas.Bool.{false≢true}
use Rattle.std.proofs.lemmas.Bool.Decides.{nat_tests}
use Rattle.ndis_base.specs.declared.ModuleId.{ModuleId}
use Rattle.ndis_base.specs.declared.ModuleId.TheVariants.{Miniport, Filter}
use Rattle.frame_arena.specs.declared.FrameSpan.{FrameSpan}
use Rattle.buffer_pools.specs.declared.label.Label.{Label}
use Rattle.buffer_pools.specs.Views.{ListView, PoolView}
use Rattle.stack_rules.specs.declared.Attached.{Attached}
use Rattle.stack_rules.specs.Net.{Net, attached, handlers_of}
use Rattle.stack_rules.specs.Rewires.{is_in}
use Rattle.stack_rules.specs.Targets.{has_receive}
use Rattle.stack_rules.specs.Tests.{is_miniport}
use Rattle.hand_lemmas.specs.Frames.{AreSized}
use Rattle.agenda_items.specs.declared.Carried.{Carried}
use Rattle.driver_tray.specs.Tray.{TrayView, lent_out}
use Rattle.book_lemmas.specs.Stands.{Stands, IsSeated, IsPoolOf}
use Rattle.book_lemmas.specs.Views.{BookView, no_filter, pool_at, seat_of}
use Rattle.binding_work.specs.Sends.{called_with}
use Rattle.lend_work.specs.Climbs.{IsServed, HasRoomUp}
use Rattle.lend_work.specs.Lends.{LendsFor, MayLend, MayCarry, pooled, bench_of}

-- A filter that has the receive pair is attached, and its driver has a place.

found_by : {X : Type 0} (p : X → Bool) (y : X) (ys : List X) (x : X) (b : Bool) → p y ≡ b → cond b (Some y) (find p ys) ≡ Some x → (find p ys ≡ Some x → p x ≡ true) → p x ≡ true
found_by p y ys x true here e more = let same : y ≡ x = cc in ap p (sym same) ∙ here
found_by p y ys x false here e more = more e

found_passes : {X : Type 0} (p : X → Bool) (xs : List X) (x : X) → find p xs ≡ Some x → p x ≡ true
found_passes p [] x e = absurd cc
found_passes p (y ∷ ys) x e = found_by p y ys x (p y) refl e (found_passes p ys x)

same_number : (a b : ℕ) → (a == b) ≡ true → a ≡ b
same_number a b e = grind (arith, nat_tests)

-- a filter that is attached
pub record IsReceiver (net : Net) (f : ℕ) : Type 0 where
  pub a : Attached
  pub there : attached f net.modules.filters ≡ Some a
  pub number : a.filter ≡ f
  pub inside : is_in f net.modules.order ≡ true

receiver_by : (net : Net) (f : ℕ) (o : Option Attached) → attached f net.modules.filters ≡ o → (handlers_of o).receive ≡ true → is_in f net.modules.order ≡ true → IsReceiver net f
receiver_by net f None there has inside = absurd (false≢true has)
receiver_by net f (Some a) there has inside = record { a = a; there = there; number = same_number a.filter f (found_passes (λ (x : Attached). x.filter == f) net.modules.filters a there); inside = inside }

or_later : (a b : Bool) → b ≡ true → (a || b) ≡ true
or_later true b e = refl
or_later false b e = e

or_first : (a b : Bool) → a ≡ true → (a || b) ≡ true
or_first a b e = ap (λ x. x || b) e

any_at : (p : ℕ → Bool) (xs : List ℕ) (k : ℕ) → k < length xs → p (slice_index xs k) ≡ true → list_any p xs ≡ true
any_at p [] k within e = absurd (omega (arith, within))
any_at p (x ∷ xs) zero within e = or_first (p x) (list_any p xs) e
any_at p (x ∷ xs) (suc k) within e = or_later (p x) (list_any p xs) (any_at p xs k (omega (arith, within)) e)

self_same : (n : ℕ) → (n == n) ≡ true
self_same n = grind (arith, nat_tests)

pub is_receiver : (net : Net) (k : ℕ) → k < length net.modules.order → has_receive net.modules (slice_index net.modules.order k) ≡ true → IsReceiver net (slice_index net.modules.order k)
is_receiver net k within has =
    let f : ℕ = slice_index net.modules.order k in
    receiver_by net f (attached f net.modules.filters) refl has (any_at (λ g. g == f) net.modules.order k within (self_same f))

pub is_served : (v : BookView) {queue : List Carried} {loose : List ListView} (f : ℕ) → Stands v.tray.net queue v.held loose → IsReceiver v.tray.net f → IsServed v.held.seats f (bench_of v)
is_served v f s r =
    let seated : IsSeated v.held r.a = s.seated f r.a r.there in
    let seat : seat_of v.held.seats f ≡ Some seated.place = ap (seat_of v.held.seats) (sym r.number) ∙ seated.seat in
    let place = s.places f seated.place seat in
    let pool : IsPoolOf v.tray.net (Filter f) (pool_at v.held.filter_pools (Some seated.place)) = subst (λ o. IsPoolOf v.tray.net (Filter f) (pool_at v.held.filter_pools o)) seat (s.pools (Filter f) r.inside) in
    record {
      place = seated.place;
      seat = seat;
      driver = place.driver;
      pool = place.pool;
      setup = subst IsSome (sym seated.setup) refl;
      bytes = pool.bytes;
    }

-- The list was lent out.

few_more : (owner : ModuleId) (n m : ℕ) → owner ≡ Miniport → m ≤ 8 → cond (is_miniport owner) (n + m) n ≤ n + 8
few_more owner n m e few = let is : cond (is_miniport owner) (n + m) n ≡ n + m = ap (λ o. cond (is_miniport o) (n + m) n) e in omega (arith, is, few)

pub may_carry : {many : ℕ} {made : List (List ℕ)} {span : FrameSpan} (v : BookView) (l : ListView) (t' : TrayView) (pool' : PoolView) → MayLend many made span v → LendsFor made v.tray v.held.miniport_pool l t' pool'
    → MayCarry many l (record { tray = t'; held = pooled v.held pool' })
may_carry {many} {made} {span} v l t' pool' m d =
    let q : TrayView = record (lent_out (called_with v.tray Miniport v.held.miniport_pool) l d.mid.pool) { pool = v.tray.pool } in
    let is : t' ≡ q = d.tray ∙ ap (λ (t : TrayView). record t { pool = v.tray.pool }) d.lends.tray in
    let owner : l.label.owner ≡ Miniport = ap (λ (k : Label). k.owner) d.lends.label in
    let sized : AreSized l.frames = subst AreSized (sym d.lends.frames) m.sized in
    let received : q.net.port.received ≤ v.tray.net.port.received + 8 = few_more l.label.owner v.tray.net.port.received (length l.frames) owner sized.fits.few in
    let room : HasRoomUp (length v.tray.net.modules.order) q = record {
      rows = omega (arith, m.ready.tray.rows);
      slack = omega (arith, m.ready.tray.slack);
      frames = omega (arith, m.ready.tray.frames);
      bytes = omega (arith, m.ready.tray.bytes);
      low = omega (arith, m.ready.tray.list);
      received = omega (arith, received, m.ready.tray.received);
    } in
    subst (λ (t : TrayView). MayCarry many l (record { tray = t; held = pooled v.held pool' })) (sym is)
    (record {
      climb = record {
        within = omega arith;
        served = λ k less has. let s = m.served k less has in record { place = s.place; seat = s.seat; driver = s.driver; pool = s.pool; setup = s.setup; bytes = s.bytes };
        counts = λ place within. omega (arith, (m.ready.filters place no_filter within).count, m.ready.tray.order);
        direction = ap (λ (k : Label). k.direction) d.lends.label;
        sized = sized;
        room = room;
      };
      some = m.some;
      protocols = m.protocols;
      pools = m.pools;
      counts = m.ready.protocols;
      bytes = m.bytes;
      room = record {
        turns = m.ready.tray.turns;
        order = m.ready.tray.order;
        rows = omega (arith, m.ready.tray.rows);
        slack = m.ready.tray.slack;
        frames = m.ready.tray.frames;
        bytes = m.ready.tray.bytes;
        list = omega (arith, m.ready.tray.list);
        sent = m.ready.tray.sent;
        received = omega (arith, received, m.ready.tray.received);
      };
    })
