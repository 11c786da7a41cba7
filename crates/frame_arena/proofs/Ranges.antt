-- A part of a list when the list grows.
use Rattle.std.proofs.Common.{◌≡◌, ℕ, List, ◌++◌, ◌+◌, ◌-◌, ◌≤◌, length, take, drop, ◌∙◌, ap, refl, arith}
use Rattle.std.specs.Prelude.{slice_range}
use Rattle.std.proofs.lemmas.List.{length-drop, drop-append-le, take-append-le, take_all, drop_at}

pub part_grown : {X : Type 0} (xs more : List X) (first count : ℕ) → first + count ≤ length xs → take count (drop first (xs ++ more)) ≡ take count (drop first xs)
part_grown xs more first count within =
    let before : first ≤ length xs = omega arith in
    let enough : count ≤ length (drop first xs) = omega (arith, length-drop first xs) in
    ap (take count) (drop-append-le first xs more before) ∙ take-append-le count (drop first xs) more enough

pub slice_range_grown : {X : Type 0} (xs more : List X) (from to : ℕ) → from ≤ to → to ≤ length xs → slice_range (xs ++ more) from to ≡ slice_range xs from to
slice_range_grown xs more from to ordered inside = part_grown xs more from (to - from) (omega arith)

pub slice_range_added : {X : Type 0} (xs more : List X) (to : ℕ) → to ≡ length xs + length more → slice_range (xs ++ more) (length xs) to ≡ more
slice_range_added xs more to end =
    let all : length more ≤ to - length xs = omega arith in
    ap (take (to - length xs)) (drop_at xs more (length xs) refl) ∙ take_all (to - length xs) more all

-- the part that was added last
pub part_added : {X : Type 0} (xs more : List X) → take (length more) (drop (length xs) (xs ++ more)) ≡ more
part_added xs more = ap (take (length more)) (drop_at xs more (length xs) refl) ∙ take_all (length more) more (omega arith)
