-- A lent list at one binding after the other.
use Rattle.std.proofs.Common.{◌≡◌, ℕ, zero, suc, ◌+◌, ◌-◌, ◌*◌, ◌≤◌, ◌<◌, Bool, true, false, cond, List, [], ◌∷◌, length, length-set, sym, ap, ◌∙◌, subst, arith}
use Rattle.ndis_base.specs.declared.ListStatus.{ListStatus}
use Rattle.buffer_pools.specs.Views.{ListView}
use Rattle.hand_lemmas.specs.Frames.{AreSized}
use Rattle.driver_tray.specs.Tray.{TrayView}
use Rattle.delivery_work.specs.Takers.{takers_from, passing, is_taker}
use Rattle.delivery_work.specs.Desks.{Desk, LendsAt}
use Rattle.delivery_work.proofs.Counting.{passing_same}
use Rattle.delivery_work.proofs.Lent.{lent_so, may_next}
use Rattle.lend_work.specs.Bindings.{LendsFrom, MayLendFrom, Arrives}
use Rattle.lend_work.specs.Bindings.Arrives.{lends, stops}

-- the list may be lent to those after this one
pub may_further : (from b : ℕ) (l : ListView) (d mid : Desk) → MayLendFrom from l d → from ≤ b → b < length d.protocols → LendsAt b l d mid → MayLendFrom (b + 1) l mid
may_further from b l d mid m above below s =
    let many : length mid.protocols ≡ length d.protocols = ap length s.protocols ∙ length-set d.protocols b s.state in
    record { sized = m.sized; may = λ c low high. may_next b c l d mid (m.may b above below) s (omega (arith, low)) (omega (arith, high, many)) }

pub lends_more : (from b many : ℕ) (l : ListView) (d mid d' : Desk) → AreSized l.frames → from ≤ b → takers_from d.tray.net l.frames from many ≡ b ∷ takers_from d.tray.net l.frames (b + 1) many → LendsAt b l d mid
    → LendsFrom l (b + 1) (takers_from mid.tray.net l.frames (b + 1) many) mid d' → LendsFrom l from (takers_from d.tray.net l.frames from many) d d'
lends_more from b many l d mid d' sized above taken s rest =
    let so = lent_so sized s.lends in
    let same = passing_same d.tray.net mid.tray.net l.frames (b + 1) (many - (b + 1)) so.port so.head in
    subst (λ bs. LendsFrom l from bs d d') (sym taken) (record { above = above; mid = mid; lends = s; others = subst (λ bs. LendsFrom l (b + 1) bs mid d') same rest })

-- what the deliveries leave of the room for rows
each_rows : (l : ListView) (from : ℕ) (bs : List ℕ) (d d' : Desk) → AreSized l.frames → LendsFrom l from bs d d' → d.tray.room.rows ≤ d'.tray.room.rows + 3 * length bs
each_rows l from [] d d' sized s = let rows = ap (λ (x : Desk). x.tray.room.rows) s.same in omega (arith, rows)
each_rows l from (b ∷ bs) d d' sized s =
    let so = lent_so sized s.lends.lends in
    let rest = each_rows l (b + 1) bs s.mid d' sized s.others in
    let many : length (b ∷ bs) ≡ length bs + 1 = omega arith in
    omega (arith, so.rows, rest, many)

pub one_more : (b : Bool) (x : ℕ) (xs : List ℕ) (many : ℕ) → length xs ≤ many → length (cond b (x ∷ xs) xs) ≤ suc many
one_more true x xs many few = omega (arith, few)
one_more false x xs many few = omega (arith, few)

passing_few : (p : ℕ → Bool) (from many : ℕ) → length (passing p from many) ≤ many
passing_few p from zero = omega arith
passing_few p from (suc many) = one_more (p from) from (passing p (from + 1) many) many (passing_few p (from + 1) many)

pub arrived_rows : {many : ℕ} {l : ListView} {d d' : Desk} {status : ListStatus} → AreSized l.frames → 1 ≤ many → Arrives many l d status d' → d.tray.room.rows ≤ d'.tray.room.rows + 3 * many
arrived_rows {many} {l} {d} {d'} sized some (lends runs each success) =
    let none : many - 0 ≡ many = omega arith in
    let few = passing_few (is_taker d.tray.net l.frames) 0 (many - 0) in
    omega (arith, each_rows l 0 (takers_from d.tray.net l.frames 0 many) d d' sized each, few, none)
arrived_rows {many} {l} {d} {d'} sized some (stops still tray protocols pools paused) = let rows = ap (λ (t : TrayView). t.room.rows) tray in omega (arith, rows, some)
