-- A filter was told to give away what it keeps ready.
use Rattle.std.proofs.Common.{◌≡◌, ◌==◌, ◌||◌, ℕ, zero, suc, ◌≤◌, ◌<◌, ◌+◌, Bool, true, false, List, [], ◌∷◌, Option, Some, None, IsSome, not, filter, length, map, drop, get_or, slice_set, refl, sym, ap, ◌∙◌, subst, arith, eq-eqb}
use Rattle.std.specs.Prelude.{Result, IfOk}
use Rattle.std.proofs.lemmas.Bool.{cond-true, cond-false}
use Rattle.std.proofs.lemmas.List.{drop_all, set-get_or}
use Rattle.ndis_base.specs.declared.ModuleId.TheVariants.{Filter}
use Rattle.journal_types.specs.declared.Setup.{Setup}
use Rattle.buffer_pools.specs.Views.{PoolView}
use Rattle.stack_rules.specs.declared.Attached.{Attached}
use Rattle.stack_rules.specs.Cancels.{hold_in, is_hold_filter}
use Rattle.stack_rules.specs.Drains.{passes_all, passed_by, first_rows}
use Rattle.stack_rules.specs.Net.{Net, attached}
use Rattle.stack_rules.specs.Places.{ready_lists}
use Rattle.stack_rules.specs.Rewires.{is_in}
use Rattle.stack_rules.specs.Tests.{is_hold}
use Rattle.hand_lemmas.proofs.Ready.{ready_is}
use Rattle.driver_views.specs.States.{FilterState}
use Rattle.driver_tray.specs.Tray.{TrayView, each_passed_on}
use Rattle.driver_calls.specs.Filters.{is_ready, IsDrained}
use Rattle.book_lemmas.specs.Between.{IsBetween}
use Rattle.book_lemmas.specs.Called.{SitsAt, filter_called}
use Rattle.book_lemmas.specs.Stands.{IsSeated}
use Rattle.book_lemmas.specs.Views.{BookView, HeldView, no_filter, no_pool, filter_at, pool_at, seat_of, held_pool, kept_of, hands_of}
use Rattle.book_lemmas.proofs.Between.{listed}
use Rattle.book_lemmas.proofs.Called.{sits_at, filter_is_called, filter_leaves}
use Rattle.call_lemmas.specs.InCall.{InCall}
use Rattle.call_lemmas.specs.Served.{Counts}
use Rattle.call_lemmas.proofs.Filters.{on_row}
use Rattle.call_lemmas.proofs.Served.{counts_none, did_filter}
use Rattle.book_parts.proofs.Ended.{idle_state}
use Rattle.book_parts.proofs.Events.{Begins, begins_called, begins_stands, begins_roomed}
use Rattle.drain_work.specs.Drains.{called_with, TicksRoomed, IsResting, IsSame, Gives, passed_from}
use Rattle.drain_work.proofs.Emptied.{Empties, IsTicked, empties_on, empties_none, ready_rows, begins_tick, still_is, moves_is, ticked_gives}
use Rattle.drain_work.proofs.FirstRows.{first_here, first_later, order_at}
use Rattle.drain_work.proofs.Sames.{book_is, gives_then, gives_rows, gives_none}

pub between : (v : BookView) → IsResting v → IsBetween v.tray.head v.tray.turns v.tray.net
between v r = record { is = idle_state v r.book r.idle; sound = r.book.follows.sound; bound = r.book.bound }

-- a filter of the configuration is attached, and its driver has a place
pub record IsPlaced (v : BookView) (f : ℕ) : Type 0 where
  pub a : Attached
  pub there : attached f v.tray.net.modules.filters ≡ Some a
  pub place : ℕ
  pub seat : seat_of v.held.seats f ≡ Some place
  pub kind : (filter_at v.held.filters (Some place)).kind ≡ a.kind
  pub setup : (filter_at v.held.filters (Some place)).setup ≡ Some a.setup

pub placed : (v : BookView) (f : ℕ) → IsResting v → is_in f v.tray.net.modules.order ≡ true → IsPlaced v f
placed v f r inside =
    let o = (listed (between v r) r.live).ordered.attached f inside in
    let seated : IsSeated v.held o.0 = r.book.stands.seated f o.0 o.1 in
    record { a = o.0; there = o.1; place = seated.place; seat = ap (seat_of v.held.seats) (sym o.2) ∙ seated.seat; kind = seated.kind; setup = seated.setup }

pub has_seat : (v : BookView) (f : ℕ) → IsResting v → is_in f v.tray.net.modules.order ≡ true → seat_of v.held.seats f ≡ None → ⊥
has_seat v f r inside none = let p = placed v f r inside in cc (none, p.seat)

same_some : (p q : ℕ) → Some p ≡ Some q → p ≡ q
same_some p q e = cc

is_some : (o : Option Setup) (p : Setup) → o ≡ Some p → IsSome o
is_some o p e = subst IsSome (sym e) refl

pub set_up : (v : BookView) (f place : ℕ) → IsResting v → is_in f v.tray.net.modules.order ≡ true → seat_of v.held.seats f ≡ Some place → IsSome (filter_at v.held.filters (Some place)).setup
set_up v f place r inside seat =
    let p = placed v f r inside in
    let same : p.place ≡ place = same_some p.place place (sym p.seat ∙ seat) in
    is_some _ p.a.setup (ap (λ q. (filter_at v.held.filters (Some q)).setup) (sym same) ∙ p.setup)

module _ (old : BookView) (begun : TrayView) (f place : ℕ) (r : IsResting old) (g : Begins old.tray begun []) (inside : is_in f old.tray.net.modules.order ≡ true) (seat : seat_of old.held.seats f ≡ Some place) where
  abbrev pool : PoolView
  pool = pool_at old.held.filter_pools (Some place)

  abbrev b : TrayView
  b = called_with begun (Filter f) (pool_at old.held.filter_pools (Some place))

  abbrev s : FilterState
  s = filter_at old.held.filters (Some place)

  pool_is : held_pool old.held (Filter f) ≡ pool
  pool_is = ap (pool_at old.held.filter_pools) seat

  kept_is : kept_of old.held (Filter f) ≡ s.kept
  kept_is = ap (λ o. (filter_at old.held.filters o).kept) seat

  sits : SitsAt old.held f place
  sits = sits_at r.book.stands f place seat

  holds : is_hold_filter old.tray.net.modules f ≡ is_hold s.kind
  holds =
      let p = placed old f r inside in
      let same : p.place ≡ place = same_some p.place place (sym p.seat ∙ seat) in
      ap hold_in p.there ∙ ap is_hold (sym p.kind ∙ ap (λ q. (filter_at old.held.filters (Some q)).kind) same)

  begins : InCall (called_with begun (Filter f) (held_pool old.held (Filter f))) (hands_of begun.queue old.held []) (Filter f) [] [] [] (called_with begun (Filter f) (held_pool old.held (Filter f))) (record { front = []; loose = []; kept = kept_of old.held (Filter f) })
  begins = begins_tick (Filter f) r.book g

  emptied : (v : Bool) (s' : FilterState) (left : TrayView) → is_hold s.kind ≡ v → IsDrained s b s' left
      → Empties (called_with begun (Filter f) (held_pool old.held (Filter f))) (hands_of begun.queue old.held []) (Filter f) (kept_of old.held (Filter f)) s'.kept left (passes_all old.tray.net f)
  emptied true s' left e d =
      let k = d.holds e in
      let stands = begins_stands r.book (begins_called (Filter f) (held_pool old.held (Filter f)) g) in
      let was : b ≡ called_with begun (Filter f) (held_pool old.held (Filter f)) = ap (called_with begun (Filter f)) (sym pool_is) in
      empties_on (called_with begun (Filter f) (held_pool old.held (Filter f))) (hands_of begun.queue old.held []) (Filter f) (is_ready begun.net) (kept_of old.held (Filter f)) s'.kept left (passes_all old.tray.net f) begins
      (k.kept_are ∙ ap (λ ks. filter (λ l. not (is_ready begun.net l)) ks) (sym kept_is))
      (k.tray ∙ ap (λ (t : TrayView). each_passed_on t (filter (is_ready begun.net) s.kept)) was ∙ ap (λ ks. each_passed_on (called_with begun (Filter f) (held_pool old.held (Filter f))) (filter (is_ready begun.net) ks)) (sym kept_is))
      (ready_rows begun.net (hands_of begun.queue old.held []) (Filter f) (kept_of old.held (Filter f)) (on_row begun.net.modules (Filter f))
      (ready_is begun.net (hands_of begun.queue old.held []) (Filter f) stands.agrees) refl
      ∙ ap (λ (n : Net). map (passed_by n f) (ready_lists n (Filter f))) g.net
      ∙ sym (cond-true (is_hold_filter old.tray.net.modules f) _ [] (holds ∙ e)))
  emptied false s' left e d =
      let k = d.other e in
      empties_none (called_with begun (Filter f) (held_pool old.held (Filter f))) (hands_of begun.queue old.held []) (Filter f) (kept_of old.held (Filter f)) s'.kept left (passes_all old.tray.net f) begins
      (ap (λ (x : FilterState). x.kept) k.0 ∙ sym kept_is) (k.1 ∙ ap (called_with begun (Filter f)) (sym pool_is))
      (cond-false (is_hold_filter old.tray.net.modules f) _ [] (holds ∙ e))

  ticked : (s' : FilterState) (left : TrayView) → IsDrained s b s' left → IsTicked old begun (Filter f) (filter_called old.held place s' left.pool) s'.kept left (passes_all old.tray.net f)
  ticked s' left d =
      let e = emptied (is_hold s.kind) s' left refl d in
      record {
        did = e;
        called = filter_is_called old.held f place s' left.pool sits;
        leaves = filter_leaves old.held f place s' left.pool sits (ap (λ (x : FilterState). x.kind) d.same) (ap (λ (x : FilterState). x.setup) d.same) e.call.size e.call.bytes;
        ring = r.book.stands.ring;
        served = did_filter old.held place s' left.pool e.call sits tt (subst (λ (x : FilterState). Counts (Filter f) [] [] s.did x.did) (sym d.same) (counts_none (Filter f) s.did))
            (ap (λ (x : FilterState). x.kind) d.same) (let rose = ap (λ (x : FilterState). x.refusals) d.same in omega (arith, rose));
        unchanged = λ kept same.
            let state : s' ≡ s = d.same ∙ ap (λ ks. record s { kept = ks }) (kept ∙ kept_is) in
            ap (λ (x : FilterState). record old.held { filters = slice_set old.held.filters place x; filter_pools = slice_set old.held.filter_pools place left.pool }) state
            ∙ ap (λ (p : PoolView). record old.held { filters = slice_set old.held.filters place s; filter_pools = slice_set old.held.filter_pools place p }) (same ∙ pool_is)
            ∙ ap (λ ps. record old.held { filters = ps; filter_pools = slice_set old.held.filter_pools place pool }) (set-get_or old.held.filters place no_filter)
            ∙ ap (λ ps. record old.held { filter_pools = ps }) (set-get_or old.held.filter_pools place no_pool);
      }

pub filter_gives : (old new : BookView) (f place : ℕ) (s' : FilterState) (pool' : PoolView) (moved : Bool) → IsResting old → is_in f old.tray.net.modules.order ≡ true → seat_of old.held.seats f ≡ Some place
    → TicksRoomed (Filter f) (λ t left. IsDrained (filter_at old.held.filters (Some place)) t s' left) old.tray (pool_at old.held.filter_pools (Some place)) moved new.tray pool'
    → new.held ≡ filter_called old.held place s' pool' → Gives old new (passes_all old.tray.net f) moved
filter_gives old new f place s' pool' moved r inside seat t held =
    let g : Begins old.tray t.begun [] = begins_roomed old.tray t.begun t.roomed.same t.roomed.covers t.roomed.slack in
    subst (λ (v : BookView). Gives old v (passes_all old.tray.net f) moved) (book_is refl (held ∙ ap (filter_called old.held place s') t.ticks.pool_is))
    (ticked_gives old t.begun t.ticks.left new.tray (Filter f) (filter_called old.held place s' t.ticks.left.pool) s'.kept (passes_all old.tray.net f) moved r g t.turns
    (ticked old t.begun f place r g inside seat s' t.ticks.left t.ticks.does) t.ticks.tray (still_is moved t.ticks.left.queue t.ticks.moved_is) (moves_is moved t.ticks.left.queue t.ticks.moved_is))

-- the view with other filters and pools
pub called_at : (held : HeldView) (place : ℕ) (s' : FilterState) (left : PoolView) (all : List FilterState) (each : List PoolView) → all ≡ slice_set held.filters place s' → each ≡ slice_set held.filter_pools place left
    → record held { filters = all; filter_pools = each } ≡ filter_called held place s' left
called_at held place s' left all each e f = ap (λ fs. record held { filters = fs; filter_pools = each }) e ∙ ap (λ ps. record held { filters = slice_set held.filters place s'; filter_pools = ps }) f

-- one filter after the other
pub inside_at : (order : List ℕ) (i : ℕ) → i < length order → is_in (get_or order i 0) order ≡ true
inside_at [] i within = absurd (omega (arith, within))
inside_at (f ∷ fs) zero within = ap (λ b. b || is_in f fs) (eq-eqb f f refl)
inside_at (f ∷ fs) (suc i) within = later (f == get_or fs i 0) (inside_at fs i (omega (arith, within)))
  where
    later : (b : Bool) → is_in (get_or fs i 0) fs ≡ true → (b || is_in (get_or fs i 0) fs) ≡ true
    later true e = refl
    later false e = e

pub passed_past : (old : BookView) (i : ℕ) → length old.tray.net.modules.order ≤ i → Gives old old (passed_from old.tray.net i) false
passed_past old i past = gives_none old (passed_from old.tray.net i) (ap (λ fs. first_rows (map (passes_all old.tray.net) fs)) (drop_all i old.tray.net.modules.order past))

from_here : (net : Net) (i : ℕ) → i < length net.modules.order → passed_from net i ≡ first_rows (map (passes_all net) (get_or net.modules.order i 0 ∷ drop (i + 1) net.modules.order))
from_here net i within = ap (λ fs. first_rows (map (passes_all net) fs)) (order_at i net.modules.order within)

pub passed_here : (old new : BookView) (i f : ℕ) → i < length old.tray.net.modules.order → f ≡ get_or old.tray.net.modules.order i 0 → Gives old new (passes_all old.tray.net f) true → Gives old new (passed_from old.tray.net i) true
passed_here old new i f within is g =
    gives_rows (sym (from_here old.tray.net i within ∙ ap (λ k. first_rows (map (passes_all old.tray.net) (k ∷ drop (i + 1) old.tray.net.modules.order))) (sym is) ∙ first_here (passes_all old.tray.net f) _ (g.gave refl).some)) g

pub passed_later : (old mid new : BookView) (i f : ℕ) (moved : Bool) → i < length old.tray.net.modules.order → f ≡ get_or old.tray.net.modules.order i 0 → Gives old mid (passes_all old.tray.net f) false
    → Gives mid new (passed_from mid.tray.net (i + 1)) moved → Gives old new (passed_from old.tray.net i) moved
passed_later old mid new i f moved within is first more =
    let s : IsSame old mid = first.still refl in
    let e : passed_from mid.tray.net (i + 1) ≡ passed_from old.tray.net i =
    ap (λ (n : Net). passed_from n (i + 1)) s.tray.net
    ∙ sym (from_here old.tray.net i within ∙ ap (λ k. first_rows (map (passes_all old.tray.net) (k ∷ drop (i + 1) old.tray.net.modules.order))) (sym is) ∙ first_later (passes_all old.tray.net f) _ (first.none refl)) in
    gives_rows e (gives_then s more)

-- the same at a place
abbrev Ticked : ℕ → FilterState → FilterState → TrayView → PoolView → Bool → TrayView → PoolView → Type 0
Ticked f s s' t pool moved t' pool' = TicksRoomed (Filter f) (λ q left. IsDrained s q s' left) t pool moved t' pool'

pub ticked_at : {E : Type 0} (r : Result Bool E) (f : ℕ) (s q s' q' : FilterState) (t : TrayView) (pool from : PoolView) (t' : TrayView) (pool' from' : PoolView) → q ≡ s → q' ≡ s' → from ≡ pool → from' ≡ pool'
    → IfOk r (λ moved. Ticked f s s' t pool moved t' pool') → IfOk r (λ moved. Ticked f q q' t from moved t' from')
ticked_at r f s q s' q' t pool from t' pool' from' e g k l h =
    subst (λ x. IfOk r (λ moved. Ticked f x q' t from moved t' from')) (sym e)
    (subst (λ x. IfOk r (λ moved. Ticked f s x t from moved t' from')) (sym g)
    (subst (λ x. IfOk r (λ moved. Ticked f s s' t x moved t' from')) (sym k)
    (subst (λ x. IfOk r (λ moved. Ticked f s s' t pool moved t' x)) (sym l) h)))
