-- Modules take states one after the other, floor by floor.
use Rattle.std.proofs.Common.{◌≡◌, ℕ, zero, suc, ◌+◌, ◌-◌, ◌*◌, ◌≤◌, ◌<◌, List, [], ◌∷◌, ◌++◌, length, map, refl, sym, ap, ◌∙◌, subst, arith}
use Rattle.std.proofs.Math.Nat.{suc-mul}
use Rattle.std.proofs.lemmas.List.{length-map}
use Rattle.ndis_base.specs.declared.ModuleId.{ModuleId}
use Rattle.ndis_base.specs.declared.ModuleId.TheVariants.{Binding}
use Rattle.ndis_base.specs.declared.ModuleState.{ModuleState}
use Rattle.ndis_base.specs.declared.ModuleState.{ModuleState}
use Rattle.journal_types.specs.declared.Row.{Row}
use Rattle.stack_rules.specs.Pauses.{state_row, state_rows}
use Rattle.driver_tray.specs.Tray.{TrayView, written}
use Rattle.phase_work.specs.Written.{each_written, bindings_from}

pub each_append : (rows others : List Row) (t : TrayView) → each_written t (rows ++ others) ≡ each_written (each_written t rows) others
each_append [] others t = refl
each_append (r ∷ rows) others t = each_append rows others (written t r)

pub room_left : (rows : List Row) (t : TrayView) → (each_written t rows).room.rows ≡ t.room.rows - length rows
room_left [] t = omega arith
room_left (r ∷ rows) t =
    let longer : length (r ∷ rows) ≡ suc (length rows) = refl in
    omega (arith, longer, room_left rows (written t r))

-- the first of some bindings, and the others
first_binding : (first many : ℕ) → 0 < many → bindings_from first many ≡ Binding first ∷ bindings_from (first + 1) (many - 1)
first_binding first zero more =
    let none : ⊥ = omega (arith, more) in
    absurd none
first_binding first (suc n) more =
    let one_less : suc n - 1 ≡ n = omega arith in
    ap (λ k. Binding first ∷ bindings_from (first + 1) k) (sym one_less)

others_room : (many each room : ℕ) → 0 < many → many * each ≤ room → (many - 1) * each ≤ room - each
others_room zero each room more enough = omega (arith, more)
others_room (suc n) each room more enough =
    let others : n * each ≤ room - each = omega (arith, suc-mul n each, enough) in
    let one_less : suc n - 1 ≡ n = omega arith in
    subst (λ k. k * each ≤ room - each) (sym one_less) others

-- room for the others, as the first of some bindings took its states
pub room_for_others : (t t' : TrayView) (m : ModuleId) (states : List ModuleState) (many : ℕ) → 0 < many
    → many * length states ≤ t.room.rows → t' ≡ each_written t (map (λ s. state_row s m) states)
    → (many - 1) * length states ≤ t'.room.rows
room_for_others t t' m states many more enough one =
    let left = ap (λ x. x.room.rows) one ∙ room_left (map (λ s. state_row s m) states) t in
    omega (arith, left, length-map states (λ s. state_row s m), others_room many (length states) t.room.rows more enough)

pub first_and_others : (t t' t'' : TrayView) (states : List ModuleState) (first many : ℕ) → 0 < many
    → t' ≡ each_written t (map (λ s. state_row s (Binding first)) states)
    → t'' ≡ each_written t' (state_rows states (bindings_from (first + 1) (many - 1)))
    → t'' ≡ each_written t (state_rows states (bindings_from first many))
first_and_others t t' t'' states first many more one others =
    let rest = state_rows states (bindings_from (first + 1) (many - 1)) in
    others
    ∙ ap (λ x. each_written x rest) one
    ∙ sym (each_append (map (λ s. state_row s (Binding first)) states) rest t)
    ∙ sym (ap (λ ms. each_written t (state_rows states ms)) (first_binding first many more))
