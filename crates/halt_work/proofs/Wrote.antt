-- The rows of a halt are written one after the other, and there is room for them.
use Rattle.std.proofs.Common.{◌≡◌, ℕ, suc, ◌+◌, ◌*◌, ◌≤◌, ◌<◌, ◌^◌, List, [], ◌∷◌, ◌++◌, length, drop, slice_index_or, refl, sym, ap, ◌∙◌, subst, arith}
use Rattle.std.proofs.lemmas.List.{drop_more, drop_all}
use Rattle.ndis_base.specs.declared.ModuleId.TheVariants.{Miniport}
use Rattle.ndis_base.specs.declared.ModuleState.TheVariants as state
use Rattle.ndis_base.specs.declared.Phase.TheVariants as phase
use Rattle.journal_types.specs.declared.PhaseOf.TheVariants as of
use Rattle.journal_types.specs.declared.Row.TheVariants as row
use Rattle.stack_rules.specs.Net.{Net}
use Rattle.stack_rules.specs.Pauses.{state_row}
use Rattle.driver_tray.specs.Tray.{TrayView, written}
use Rattle.book_lemmas.proofs.Phases.{still_phases}
use Rattle.phase_work.specs.Written.{each_written, bindings_from}
use Rattle.phase_work.proofs.EachBinding.{each_append}
use Rattle.phase_work.proofs.Written.{has_written}
use Rattle.setup_work.proofs.Positions.{bindings_count, room_after}
use Rattle.setup_work.proofs.Rows.{twice_length}
use Rattle.halt_work.specs.Halted.{closing, detached, last_rows, halted_rows, AreNumbers}
use Rattle.halt_work.proofs.Written.{off_row, closing_phases}

-- a filter after the others
pub detached_on : (t t' t'' : TrayView) (i f : ℕ) → i < length t.net.modules.order → f ≡ slice_index_or t.net.modules.order i 0 → t' ≡ written t (off_row f)
    → t'' ≡ each_written t' (detached (drop (i + 1) t'.net.modules.order)) → t'' ≡ each_written t (detached (drop i t.net.modules.order))
detached_on t t' t'' i f h is one more =
    more
    ∙ ap (λ (x : TrayView). each_written x (detached (drop (i + 1) x.net.modules.order))) one
    ∙ ap (λ g. each_written t (detached (g ∷ drop (i + 1) t.net.modules.order))) is
    ∙ ap (λ fs. each_written t (detached fs)) (sym (drop_more t.net.modules.order i 0 h))

pub none_detached : (t : TrayView) (i : ℕ) → length t.net.modules.order ≤ i → t ≡ each_written t (detached (drop i t.net.modules.order))
none_detached t i h = ap (λ fs. each_written t (detached fs)) (sym (drop_all i t.net.modules.order h))

pub order_kept : (t t' : TrayView) (f : ℕ) → t' ≡ written t (off_row f) → t'.net.modules.order ≡ t.net.modules.order
order_kept t t' f one = ap (λ (x : TrayView). x.net.modules.order) one

pub room_kept : (t t' : TrayView) (f i : ℕ) → i < length t.net.modules.order → length t.net.modules.order ≤ t.room.rows + i → t' ≡ written t (off_row f) → length t'.net.modules.order ≤ t'.room.rows + (i + 1)
room_kept t t' f i within room one =
    let same : length t'.net.modules.order ≡ length t.net.modules.order = ap length (order_kept t t' f one) in
    let left = ap (λ (x : TrayView). x.room.rows) one in
    omega (arith, room, same, left)

-- a number of the order
pub number_at : (fs : List ℕ) (i f : ℕ) → AreNumbers fs → i < length fs → f ≡ slice_index_or fs i 0 → f + 1 < 2 ^ 64
number_at fs i f all within is = subst (λ g. g + 1 < 2 ^ 64) (sym is) (all i 0 within)

-- after the bindings
pub order_closed : (t a : TrayView) (n : ℕ) → a ≡ each_written t (closing n) → a.net.modules.order ≡ t.net.modules.order
order_closed t a n made =
    ap (λ (x : TrayView). x.net.modules.order) made
    ∙ ap (λ (x : Net). x.modules.order) (has_written (closing n) t (closing_phases n)).net
    ∙ (still_phases t.net (closing n) (closing_phases n)).order

closing_length : (n : ℕ) → length (closing n) ≡ n * 2
closing_length n = twice_length state.Closing state.Unbound (bindings_from 0 n) ∙ ap (λ k. k * 2) (bindings_count 0 n)

detached_length : (fs : List ℕ) → length (detached fs) ≡ length fs
detached_length [] = refl
detached_length (f ∷ fs) = ap suc (detached_length fs)

pub room_closed : (t a : TrayView) (n : ℕ) → n * 2 + length t.net.modules.order + 2 ≤ t.room.rows → a ≡ each_written t (closing n) → length a.net.modules.order + 2 ≤ a.room.rows
room_closed t a n room made =
    let same : length a.net.modules.order ≡ length t.net.modules.order = ap length (order_closed t a n made) in
    let left : length t.net.modules.order + 2 ≤ a.room.rows = room_after t a (closing n) (length t.net.modules.order + 2) made (omega (arith, room, closing_length n)) in
    omega (arith, same, left)

pub room_detached : (t a b : TrayView) (n : ℕ) → n * 2 + length t.net.modules.order + 2 ≤ t.room.rows → a ≡ each_written t (closing n) → b ≡ each_written a (detached (drop 0 a.net.modules.order)) → 2 ≤ b.room.rows
room_detached t a b n room first then =
    room_after a b (detached a.net.modules.order) 2 then (omega (arith, room_closed t a n room first, detached_length a.net.modules.order))

pub all_written : (t a b c d : TrayView) (n : ℕ) → a ≡ each_written t (closing n) → b ≡ each_written a (detached (drop 0 a.net.modules.order))
    → c ≡ each_written b (state_row state.Halted Miniport ∷ []) → d ≡ written c (row.Phase (of.Stack phase.Halted)) → d ≡ each_written t (halted_rows n t.net.modules.order)
all_written t a b c d n first second third last =
    let fs = t.net.modules.order in
    last
    ∙ ap (λ x. written x (row.Phase (of.Stack phase.Halted)))
    (third ∙ ap (λ x. written x (state_row state.Halted Miniport))
    (second ∙ ap (λ gs. each_written a (detached gs)) (order_closed t a n first) ∙ ap (λ x. each_written x (detached fs)) first))
    ∙ sym (each_append (detached fs) last_rows (each_written t (closing n)))
    ∙ sym (each_append (closing n) (detached fs ++ last_rows) t)
