-- The positions of a stack from the bottom: which modules are at each, and their drivers.
use Rattle.std.proofs.Common.{◌≡◌, ℕ, zero, suc, ◌+◌, ◌-◌, ◌*◌, ◌<◌, ◌≤◌, ◌==◌, ◌||◌, Bool, true, false, List, [], ◌∷◌, ◌++◌, length, get_or, reverse, refl, sym, ap, ◌∙◌, arith}
use Rattle.std.proofs.lemmas.Bool.Decides.{nat_tests}
use Rattle.std.proofs.lemmas.List.{get_or-reverse}
use Rattle.ndis_base.specs.declared.ModuleId.TheVariants.{Filter}
use Rattle.ndis_base.specs.declared.ModuleState.TheVariants as state
use Rattle.ndis_base.specs.declared.Phase.{Phase}
use Rattle.ndis_base.specs.declared.Phase.TheVariants as phase
use Rattle.journal_types.specs.declared.Row.{Row}
use Rattle.stack_rules.specs.Net.{Modules}
use Rattle.stack_rules.specs.Pauses.{floors, one}
use Rattle.stack_rules.specs.Rewires.{is_in}
use Rattle.state_laws.specs.Shape.{AllBelow}
use Rattle.state_laws.proofs.Floors.{length-floors, low_filter}
use Rattle.state_laws.proofs.Takes.{in_at}
use Rattle.driver_tray.specs.Tray.{TrayView}
use Rattle.phase_work.specs.Written.{bindings_from, each_written}
use Rattle.phase_work.proofs.EachBinding.{each_append, room_left}
use Rattle.phase_work.proofs.Pausing.{all_bindings}
use Rattle.setup_work.specs.declared.floors.Floor.{Floor}
use Rattle.setup_work.specs.declared.floors.Floor.TheVariants as floor
use Rattle.setup_work.specs.Floors.{modules_of, floor_room, floor_rows, phase_when, step_rows}
use Rattle.setup_work.proofs.Rows.{twice_length}

-- a position from the bottom is one from the top
from_top : (ms : Modules) (i : ℕ) → i < length (floors ms) → get_or (reverse (floors ms)) i [] ≡ get_or (floors ms) (length ms.order + 1 - i) []
from_top ms i within =
    let size = length-floors ms in
    let at : length (floors ms) - 1 - i ≡ length ms.order + 1 - i = omega (arith, size) in
    get_or-reverse (floors ms) i [] within ∙ ap (λ j. get_or (floors ms) j []) at

filter_below : (ms : Modules) (i : ℕ) → i < length (floors ms) → 0 < i → i ≤ length ms.order → one (Filter (get_or ms.order (length ms.order - i) 0)) ≡ get_or (reverse (floors ms)) i []
filter_below ms i within some there =
    let at : length ms.order + 1 - i ≡ suc (length ms.order - i) = omega (arith, some, there) in
    sym (from_top ms i within ∙ ap (λ j. get_or (floors ms) j []) at ∙ low_filter ms.order (length ms.order - i) (omega (arith, some, there)))

pub filter_below_at : (ms : Modules) (order : List ℕ) (i : ℕ) → order ≡ ms.order → i < length (floors ms) → 0 < i → i ≤ length order → one (Filter (get_or order (length order - i) 0)) ≡ get_or (reverse (floors ms)) i []
filter_below_at ms order i e within some there =
    ap (λ fs. one (Filter (get_or fs (length fs - i) 0))) e ∙ filter_below ms i within some (omega (arith, there, ap length e))

pub top_below : (ms : Modules) (i n : ℕ) → i < length (floors ms) → length ms.order < i → n ≡ length ms.bindings → bindings_from 0 n ≡ get_or (reverse (floors ms)) i []
top_below ms i n within above all =
    let at : length ms.order + 1 - i ≡ zero = omega (arith, within, above) in
    ap (bindings_from 0) all ∙ all_bindings 0 ms.bindings ∙ sym (from_top ms i within ∙ ap (λ j. get_or (floors ms) j []) at)

pub inside : (order : List ℕ) (i : ℕ) → 0 < i → i ≤ length order → is_in (get_or order (length order - i) 0) order ≡ true
inside order i some there = in_at order (length order - i) (omega (arith, some, there))

-- a filter of the order has a number below the next one
pub below : (f n : ℕ) (order : List ℕ) → AllBelow n order → is_in f order ≡ true → f < n
below f n [] all there = cc
below f n (g ∷ gs) all there =
    let cases : (b : Bool) → (g == f) ≡ b → (b || is_in f gs) ≡ true → f < n = elim [
      | true ↦ λ e t. let same : g ≡ f = grind (arith, nat_tests) in omega (arith, all.0, same)
      | false ↦ λ e t. below f n gs all.1 t
    ] in
    cases (g == f) refl there

-- how many modules a position has
pub bindings_count : (b n : ℕ) → length (bindings_from b n) ≡ n
bindings_count b zero = refl
bindings_count b (suc n) = ap suc (bindings_count (b + 1) n)

modules_count : (place : Floor) → length (modules_of place) * 2 ≡ floor_room place
modules_count floor.Port = refl
modules_count (floor.Middle f) = refl
modules_count (floor.Top many) = ap (λ n. n * 2) (bindings_count 0 many)

pub rows_count : (place : Floor) → length (floor_rows place) ≡ floor_room place
rows_count place = twice_length state.Restarting state.Running (modules_of place) ∙ modules_count place

pub told_count : (told : Bool) (p : Phase) → length (phase_when told p) ≤ 1
told_count true p = omega arith
told_count false p = omega arith

-- one piece of a step after the other
pub step_written : (t a b c : TrayView) (begins : Bool) (place : Floor) (top : Bool) → a ≡ each_written t (phase_when begins phase.Restarting) → b ≡ each_written a (floor_rows place) → c ≡ each_written b (phase_when top phase.Running)
    → c ≡ each_written t (step_rows begins place top)
step_written t a b c begins place top first then last =
    last
    ∙ ap (λ x. each_written x (phase_when top phase.Running)) (then ∙ ap (λ x. each_written x (floor_rows place)) first)
    ∙ sym (each_append (floor_rows place) (phase_when top phase.Running) (each_written t (phase_when begins phase.Restarting)))
    ∙ sym (each_append (phase_when begins phase.Restarting) (floor_rows place ++ phase_when top phase.Running) t)

pub room_after : (t a : TrayView) (rows : List Row) (n : ℕ) → a ≡ each_written t rows → length rows + n ≤ t.room.rows → n ≤ a.room.rows
room_after t a rows n made enough = omega (arith, ap (λ (x : TrayView). x.room.rows) made, room_left rows t, enough)

-- room for the rows of a step
pub room_for_last : (t a b : TrayView) (begins : Bool) (place : Floor) → floor_room place + 2 ≤ t.room.rows → a ≡ each_written t (phase_when begins phase.Restarting) → b ≡ each_written a (floor_rows place) → 1 ≤ b.room.rows
room_for_last t a b begins place room first then =
    let few = told_count begins phase.Restarting in
    let left : floor_room place + 1 ≤ a.room.rows = room_after t a (phase_when begins phase.Restarting) (floor_room place + 1) first (omega (arith, few, room)) in
    room_after a b (floor_rows place) 1 then (omega (arith, left, rows_count place))
