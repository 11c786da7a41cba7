-- One module that queues sends after the other.
use Rattle.std.proofs.Common.{◌≡◌, ℕ, zero, suc, ◌+◌, ◌^◌, ◌≤◌, ◌<◌, ◌==◌, ◌||◌, Bool, true, false, cond, List, [], ◌∷◌, ◌++◌, flat_map, length, map, filter, drop, get_or, refl, sym, ap, ◌∙◌, subst, arith, append_assoc, append-nil, length-append}
use Rattle.std.proofs.lemmas.Bool.{cond-true, cond-false}
use Rattle.std.proofs.lemmas.List.{drop_all}
use Rattle.std.proofs.lemmas.List.Sums.{sum_by-cons}
use Rattle.ndis_base.specs.declared.ModuleId.{ModuleId}
use Rattle.ndis_base.specs.declared.ModuleId.TheVariants.{Miniport, Filter}
use Rattle.journal_types.specs.declared.Row.{Row}
use Rattle.stack_rules.specs.Cancels.{is_hold_filter, cancelled_at, cancel_rows_at}
use Rattle.stack_rules.specs.Net.{Net, Modules, after_rows}
use Rattle.stack_rules.specs.Rewires.{is_in}
use Rattle.stack_rules.specs.Tests.{same_module}
use Rattle.state_laws.specs.Shape.{IsDistinct}
use Rattle.book_lemmas.specs.Did.{Did}
use Rattle.book_lemmas.specs.Views.{BookView, HeldView, kept_of, hands_of}
use Rattle.book_lemmas.proofs.Goes.{after_rows-append, did_then, used_then}
use Rattle.book_parts.specs.Events.{IsBook}
use Rattle.book_parts.proofs.Events.{Ends}
use Rattle.drain_work.proofs.FirstRows.{order_at}
use Rattle.cancel_work.specs.Cancels.{queues_from, kept_by, HasRoomToCancel, CancelledAt, Cancelled}
use Rattle.cancel_work.proofs.Ready.{still_rows, still_count}

-- other modules than this one
abbrev pub AreOther : ModuleId → List ModuleId → Type 0
AreOther m [] = Unit {0}
AreOther m (k ∷ ms) = (same_module k m ≡ false) × AreOther m ms

-- The modules from a place of the configuration on.

queue : (ms : Modules) (f : ℕ) (fs : List ℕ) (b : Bool) → is_hold_filter ms f ≡ b → map Filter (filter (is_hold_filter ms) (f ∷ fs)) ≡ cond b (Filter f ∷ map Filter (filter (is_hold_filter ms) fs)) (map Filter (filter (is_hold_filter ms) fs))
queue ms f fs true e = ap (map Filter) (cond-true (is_hold_filter ms f) (f ∷ filter (is_hold_filter ms) fs) (filter (is_hold_filter ms) fs) e)
queue ms f fs false e = ap (map Filter) (cond-false (is_hold_filter ms f) (f ∷ filter (is_hold_filter ms) fs) (filter (is_hold_filter ms) fs) e)

from_here : (ms : Modules) (i f : ℕ) → i < length ms.order → f ≡ get_or ms.order i 0 → queues_from ms i ≡ map Filter (filter (is_hold_filter ms) (f ∷ drop (i + 1) ms.order)) ++ Miniport ∷ []
from_here ms i f within is =
    ap (λ fs. map Filter (filter (is_hold_filter ms) fs) ++ Miniport ∷ []) (order_at i ms.order within)
    ∙ ap (λ g. map Filter (filter (is_hold_filter ms) (g ∷ drop (i + 1) ms.order)) ++ Miniport ∷ []) (sym is)

pub queues_here : (ms : Modules) (i f : ℕ) → i < length ms.order → f ≡ get_or ms.order i 0 → is_hold_filter ms f ≡ true → queues_from ms i ≡ Filter f ∷ queues_from ms (i + 1)
queues_here ms i f within is hold = from_here ms i f within is ∙ ap (λ qs. qs ++ Miniport ∷ []) (queue ms f (drop (i + 1) ms.order) true hold)

pub queues_later : (ms : Modules) (i f : ℕ) → i < length ms.order → f ≡ get_or ms.order i 0 → is_hold_filter ms f ≡ false → queues_from ms i ≡ queues_from ms (i + 1)
queues_later ms i f within is other = from_here ms i f within is ∙ ap (λ qs. qs ++ Miniport ∷ []) (queue ms f (drop (i + 1) ms.order) false other)

pub queues_past : (ms : Modules) (i : ℕ) → length ms.order ≤ i → queues_from ms i ≡ Miniport ∷ []
queues_past ms i past = ap (λ fs. map Filter (filter (is_hold_filter ms) fs) ++ Miniport ∷ []) (drop_all i ms.order past)

-- They differ.

first_other : (a b : Bool) → (a || b) ≡ false → a ≡ false
first_other true b h = cc
first_other false b h = refl

last_other : (a b : Bool) → (a || b) ≡ false → b ≡ false
last_other true b h = cc
last_other false b h = h

not_among : (f : ℕ) (test : ℕ → Bool) (fs : List ℕ) → is_in f fs ≡ false → AreOther (Filter f) (map Filter (filter test fs) ++ Miniport ∷ [])
not_among f test [] e = (refl, tt)
not_among f test (g ∷ fs) e =
    let rest = not_among f test fs (last_other (g == f) (is_in f fs) e) in
    elim (test g) as (λ b. AreOther (Filter f) (map Filter (cond b (g ∷ filter test fs) (filter test fs)) ++ Miniport ∷ [])) [ true ↦ (first_other (g == f) (is_in f fs) e, rest) | false ↦ rest ]

not_behind : (order : List ℕ) (i : ℕ) → IsDistinct order → i < length order → is_in (get_or order i 0) (drop (suc i) order) ≡ false
not_behind [] i d within = absurd (omega (arith, within))
not_behind (f ∷ fs) zero d within = d.0
not_behind (f ∷ fs) (suc i) d within = not_behind fs i d.1 (omega (arith, within))

pub queues_differ : (ms : Modules) (i f : ℕ) → IsDistinct ms.order → i < length ms.order → f ≡ get_or ms.order i 0 → AreOther (Filter f) (queues_from ms (i + 1))
queues_differ ms i f d within is =
    let next : suc i ≡ i + 1 = omega arith in
    not_among f (is_hold_filter ms) (drop (i + 1) ms.order)
    (subst (λ j. is_in f (drop j ms.order) ≡ false) next (subst (λ g. is_in g (drop (suc i) ms.order) ≡ false) (sym is) (not_behind ms.order i d within)))

-- What the others keep, and their rows, stay.

kept_still : (old mid : HeldView) (m : ModuleId) (ms : List ModuleId) → ((k : ModuleId) → same_module k m ≡ false → kept_of mid k ≡ kept_of old k) → AreOther m ms → kept_by mid ms ≡ kept_by old ms
kept_still old mid m [] others o = refl
kept_still old mid m (k ∷ ms) others o =
    let one = sum_by-cons (λ j. length (kept_of mid j)) k ms in
    let was = sum_by-cons (λ j. length (kept_of old j)) k ms in
    let same : length (kept_of mid k) ≡ length (kept_of old k) = ap length (others k o.0) in
    let rest : kept_by mid ms ≡ kept_by old ms = kept_still old mid m ms others o.1 in
    omega (arith, one, was, same, rest)

module _ (old mid : BookView) (id n : ℕ) (m : ModuleId) (k : IsBook old) (c : CancelledAt old mid id m n) where
  rows_still : (ms : List ModuleId) → AreOther m ms → flat_map (cancel_rows_at mid.tray.net id) ms ≡ flat_map (cancel_rows_at old.tray.net id) ms
  rows_still [] o = refl
  rows_still (j ∷ ms) o =
      ap (λ rs. rs ++ flat_map (cancel_rows_at mid.tray.net id) ms)
      (still_rows old.tray.net mid.tray.net (hands_of old.tray.queue old.held []) (hands_of mid.tray.queue mid.held []) j id k.stands.agrees c.book.stands.agrees (c.others j o.0) c.waits c.modules)
      ∙ ap (λ rs. cancel_rows_at old.tray.net id j ++ rs) (rows_still ms o.1)

  count_still : (ms : List ModuleId) → AreOther m ms → length (flat_map (cancelled_at mid.tray.net id) ms) ≡ length (flat_map (cancelled_at old.tray.net id) ms)
  count_still [] o = refl
  count_still (j ∷ ms) o =
      let now = length-append (cancelled_at mid.tray.net id j) (flat_map (cancelled_at mid.tray.net id) ms) in
      let was = length-append (cancelled_at old.tray.net id j) (flat_map (cancelled_at old.tray.net id) ms) in
      let same : length (cancelled_at mid.tray.net id j) ≡ length (cancelled_at old.tray.net id j) =
      still_count old.tray.net mid.tray.net (hands_of old.tray.queue old.held []) (hands_of mid.tray.queue mid.held []) j id k.stands.agrees c.book.stands.agrees (c.others j o.0) c.waits in
      let rest : length (flat_map (cancelled_at mid.tray.net id) ms) ≡ length (flat_map (cancelled_at old.tray.net id) ms) = count_still ms o.1 in
      omega (arith, now, was, same, rest)

-- rows after rows
ends_twice : (a b c : BookView) (xs ys : List Row) → Ends a b xs → b.held.seats ≡ a.held.seats → Ends b c ys → Ends a c (xs ++ ys)
ends_twice a b c xs ys d seats e = record {
  head = e.head ∙ d.head;
  turns = e.turns ∙ d.turns;
  told_by = e.told_by ∙ d.told_by;
  net = e.net ∙ ap (λ (n : Net). after_rows n ys) d.net ∙ sym (after_rows-append a.tray.net xs ys);
  rows_are = e.rows_are ∙ ap (λ rs. rs ++ ys) d.rows_are ∙ append_assoc a.tray.rows xs ys;
  used = used_then a.tray b.tray c.tray xs ys d.used e.used;
  did = did_then a.held.seats a.held b.held c.held a.tray.net xs ys d.did
      (subst (λ (n : Net). Did a.held.seats b.held c.held n ys) d.net (subst (λ ss. Did ss b.held c.held b.tray.net ys) seats e.did));
  stands = e.stands;
}

-- the last module
pub cancelled_last : (old new : BookView) (id n : ℕ) (m : ModuleId) → CancelledAt old new id m n → Cancelled old new id (m ∷ []) n
cancelled_last old new id n m c =
    let one = sum_by-cons (λ j. length (kept_of old.held j)) m [] in
    record {
      ends = subst (Ends old new) (sym (append-nil (cancel_rows_at old.tray.net id m))) c.ends;
      count = c.count ∙ ap length (sym (append-nil (cancelled_at old.tray.net id m)));
      most = omega (arith, c.most, one);
      shelf = c.shelf;
      seats = c.seats;
    }

-- and one before others
pub cancelled_more : (old mid new : BookView) (id n more : ℕ) (m : ModuleId) (ms : List ModuleId) → IsBook old → AreOther m ms → CancelledAt old mid id m n → Cancelled mid new id ms more → Cancelled old new id (m ∷ ms) (n + more)
cancelled_more old mid new id n more m ms k o c d =
    let one = sum_by-cons (λ j. length (kept_of old.held j)) m ms in
    let kept = kept_still old.held mid.held m ms c.others o in
    let all = length-append (cancelled_at old.tray.net id m) (flat_map (cancelled_at old.tray.net id) ms) in
    let rest = count_still old mid id n m k c ms o in
    record {
      ends = ends_twice old mid new (cancel_rows_at old.tray.net id m) (flat_map (cancel_rows_at old.tray.net id) ms) c.ends c.seats (subst (Ends mid new) (rows_still old mid id n m k c ms o) d.ends);
      count = omega (arith, c.count, d.count, all, rest);
      most = omega (arith, c.most, d.most, one, kept);
      shelf = d.shelf ∙ c.shelf;
      seats = d.seats ∙ c.seats;
    }

-- The room for one module is that for it alone, and that for the others is left.

pub room_one : (v : BookView) (m : ModuleId) (ms : List ModuleId) → HasRoomToCancel v (m ∷ ms) → HasRoomToCancel v (m ∷ [])
room_one v m ms r =
    let one = sum_by-cons (λ j. length (kept_of v.held j)) m [] in
    let all = sum_by-cons (λ j. length (kept_of v.held j)) m ms in
    record { rows = omega (arith, r.rows, one, all); slack = omega (arith, r.slack, one, all); low = omega (arith, r.low, one, all) }

pub room_left : (old mid : BookView) (id n : ℕ) (m : ModuleId) (ms : List ModuleId) → HasRoomToCancel old (m ∷ ms) → AreOther m ms → CancelledAt old mid id m n → HasRoomToCancel mid ms
room_left old mid id n m ms r o c =
    let all = sum_by-cons (λ j. length (kept_of old.held j)) m ms in
    let kept = kept_still old.held mid.held m ms c.others o in
    record { rows = omega (arith, r.rows, c.rows, c.most, kept, all); slack = omega (arith, r.slack, c.slack, c.most, kept, all); low = omega (arith, r.low, kept, all) }

-- A hold filter at a place of the configuration, and then those behind it.
module _ (old mid : BookView) (id n i f : ℕ) (d : IsDistinct old.tray.net.modules.order) (within : i < length old.tray.net.modules.order) (is : f ≡ get_or old.tray.net.modules.order i 0) (hold : is_hold_filter old.tray.net.modules f ≡ true) where
  pub room_here : HasRoomToCancel old (queues_from old.tray.net.modules i) → HasRoomToCancel old (Filter f ∷ [])
  room_here r = room_one old (Filter f) (queues_from old.tray.net.modules (i + 1)) (subst (HasRoomToCancel old) (queues_here old.tray.net.modules i f within is hold) r)

  pub room_behind : HasRoomToCancel old (queues_from old.tray.net.modules i) → CancelledAt old mid id (Filter f) n → HasRoomToCancel mid (queues_from mid.tray.net.modules (i + 1))
  room_behind r c =
      subst (λ ms. HasRoomToCancel mid (queues_from ms (i + 1))) (sym c.modules)
      (room_left old mid id n (Filter f) (queues_from old.tray.net.modules (i + 1)) (subst (HasRoomToCancel old) (queues_here old.tray.net.modules i f within is hold) r)
      (queues_differ old.tray.net.modules i f d within is) c)

  pub cancelled_from : (new : BookView) (more : ℕ) → IsBook old → CancelledAt old mid id (Filter f) n → Cancelled mid new id (queues_from mid.tray.net.modules (i + 1)) more → Cancelled old new id (queues_from old.tray.net.modules i) (n + more)
  cancelled_from new more k c e =
      subst (λ ms. Cancelled old new id ms (n + more)) (sym (queues_here old.tray.net.modules i f within is hold))
      (cancelled_more old mid new id n more (Filter f) (queues_from old.tray.net.modules (i + 1)) k (queues_differ old.tray.net.modules i f d within is) c
      (subst (λ ms. Cancelled mid new id (queues_from ms (i + 1)) more) c.modules e))

  -- the numbers are far from the largest one
  pub low_both : (new : BookView) (more : ℕ) → HasRoomToCancel old (queues_from old.tray.net.modules i) → CancelledAt old mid id (Filter f) n → Cancelled mid new id (queues_from mid.tray.net.modules (i + 1)) more → n + more < 2 ^ 61
  low_both new more r c e =
      let one = sum_by-cons (λ j. length (kept_of old.held j)) (Filter f) [] in
      let here = room_here r in
      let behind = room_behind r c in
      omega (arith, c.most, e.most, here.low, behind.low, one)

-- what these modules keep
pub kept_past : (held : HeldView) (ms : Modules) (i a : ℕ) → length ms.order ≤ i → a ≡ length held.miniport.kept → 0 + a ≡ kept_by held (queues_from ms i)
kept_past held ms i a past here =
    let all = sum_by-cons (λ j. length (kept_of held j)) Miniport [] in
    let from : kept_by held (queues_from ms i) ≡ kept_by held (Miniport ∷ []) = ap (kept_by held) (queues_past ms i past) in
    omega (arith, all, from, here)

pub kept_here : (held : HeldView) (ms : Modules) (i f a b : ℕ) → i < length ms.order → f ≡ get_or ms.order i 0 → is_hold_filter ms f ≡ true → a ≡ length (kept_of held (Filter f)) → b ≡ kept_by held (queues_from ms (i + 1))
    → a + b ≡ kept_by held (queues_from ms i)
kept_here held ms i f a b within is hold here behind =
    let all = sum_by-cons (λ j. length (kept_of held j)) (Filter f) (queues_from ms (i + 1)) in
    let from : kept_by held (queues_from ms i) ≡ kept_by held (Filter f ∷ queues_from ms (i + 1)) = ap (kept_by held) (queues_here ms i f within is hold) in
    omega (arith, all, from, here, behind)
