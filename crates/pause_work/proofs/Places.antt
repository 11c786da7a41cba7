-- What is at each position, and a list of which an element changed, but not what it shows.
use Rattle.std.proofs.Common.{◌≡◌, ℕ, zero, suc, ◌-◌, ◌^◌, ◌<◌, ◌≤◌, List, [], ◌∷◌, ◌++◌, length, map, slice_index_or, slice_set, refl, ap, ◌∙◌, arith}
use Rattle.std.proofs.Math.Seq.{map-set_same}
use Rattle.ndis_base.specs.declared.ModuleId.{ModuleId}
use Rattle.ndis_base.specs.declared.ModuleId.TheVariants.{Miniport, Filter}
use Rattle.stack_rules.specs.Net.{Modules}
use Rattle.stack_rules.specs.Pauses.{one}
use Rattle.state_laws.specs.Shape.{AllBelow}
use Rattle.state_laws.proofs.Floors.{length-floors}
use Rattle.phase_work.specs.Written.{bindings_from}
use Rattle.phase_work.proofs.Pausing.{all_bindings}
use Rattle.pause_work.specs.declared.floor.Floor.TheVariants as floor
use Rattle.pause_work.specs.Positions.{IsAt}

-- an element was changed, but not what it shows
pub same_shown : {X Y : Type 0} (f : X → Y) (xs : List X) (i : ℕ) (old y : X) → old ≡ slice_index_or xs i old → f y ≡ f old → map f (slice_set xs i y) ≡ map f xs
same_shown f xs i old y e same = map-set_same f xs i y old (same ∙ ap f e)

-- the positions below the bindings
abbrev low : List ℕ → List (List ModuleId)
low order = map (λ f. one (Filter f)) order ++ one Miniport ∷ []

low_filter : (order : List ℕ) (j : ℕ) → j < length order → one (Filter (slice_index_or order j 0)) ≡ slice_index_or (low order) j []
low_filter [] j within =
    let none : ⊥ = omega (arith, within) in
    absurd none
low_filter (f ∷ fs) zero within = refl
low_filter (f ∷ fs) (suc j) within =
    let longer : length (f ∷ fs) ≡ suc (length fs) = refl in
    low_filter fs j (omega (arith, within, longer))

number_below : (n : ℕ) (order : List ℕ) (j : ℕ) → AllBelow n order → j < length order → slice_index_or order j 0 < n
number_below n [] j below within =
    let none : ⊥ = omega (arith, within) in
    absurd none
number_below n (f ∷ fs) zero below within = below.0
number_below n (f ∷ fs) (suc j) below within =
    let longer : length (f ∷ fs) ≡ suc (length fs) = refl in
    number_below n fs j below.1 (omega (arith, within, longer))

-- what is at each position
pub at_bindings : (ms : Modules) (many : ℕ) → many ≡ length ms.bindings → IsAt ms 0 (floor.Bindings many)
at_bindings ms many all = record {
  within = omega (arith, length-floors ms);
  are = ap (λ n. bindings_from 0 n) all ∙ all_bindings 0 ms.bindings;
  numbered = record {};
}

at_low : (ms : Modules) (j f next : ℕ) → AllBelow next ms.order → next < 2 ^ 64 → j < length ms.order → f ≡ slice_index_or ms.order j 0 → IsAt ms (suc j) (floor.Filter f)
at_low ms j f next below small within is = record {
  within = omega (arith, length-floors ms, within);
  are = ap (λ g. one (Filter g)) is ∙ low_filter ms.order j within;
  numbered = omega (arith, number_below next ms.order j below within, small, is);
}

pub at_filter : (ms : Modules) (i f next : ℕ) → AllBelow next ms.order → next < 2 ^ 64 → (i ≡ 0 → ⊥) → i ≤ length ms.order → f ≡ slice_index_or ms.order (i - 1) 0 → IsAt ms i (floor.Filter f)
at_filter ms zero f next below small some within is = absurd (some refl)
at_filter ms (suc j) f next below small some within is =
    let one_less : suc j - 1 ≡ j = omega arith in
    at_low ms j f next below small (omega (arith, within)) (is ∙ ap (λ k. slice_index_or ms.order k 0) one_less)
