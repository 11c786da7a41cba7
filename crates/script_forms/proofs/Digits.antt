-- A text of a few digits is read as a number.
use Rattle.std.proofs.Common.{◌≡◌, ◌<◌, ◌≤◌, ◌^◌, ℕ, List, length, true, false, ◌==◌, Result, Ok, Err, sym, ◌∙◌, arith, rules}
use Rattle.std.proofs.lemmas.Str.Parse.{IsNumeralModel, numerals_by_value, digits_value_short, parse_gives}
use Rattle.std.proofs.lemmas.Bool.Decides.{nat_tests}
use Rattle.std.specs.Char.{is_ascii_digit}
use Rattle.std.specs.List.{list_all}
use Rattle.std.specs.Str.Parse.{digits_value, ParsesUnsigned}

pub positive : (n : ℕ) → (n == 0) ≡ false → 0 < n
positive n h = grind (arith, nat_tests)

pub numerals : IsNumeralModel (λ ds. list_all is_ascii_digit ds ≡ true) (digits_value 10)
numerals = numerals_by_value _ (search rules)

pub parsed : {E : Type 0} (bs : List ℕ) (r : Result ℕ E) → ParsesUnsigned 64 10 bs r → list_all is_ascii_digit bs ≡ true → 0 < length bs → length bs ≤ 9 → r ≡ Ok (digits_value 10 bs)
parsed bs r h p some short =
    let small : digits_value 10 bs < 10 ^ 9 = digits_value_short numerals bs 9 p short in
    parse_gives numerals 64 bs r h p some (omega arith)

pub unparsed : {E : Type 0} (bs : List ℕ) (r : Result ℕ E) (e : E) → ParsesUnsigned 64 10 bs r → list_all is_ascii_digit bs ≡ true → 0 < length bs → length bs ≤ 9 → r ≡ Err e → ⊥
unparsed bs r e h p some short not = clash (sym (parsed bs r h p some short) ∙ not)
  where
    clash : Ok (digits_value 10 bs) ≡ Err e → ⊥
    clash same = cc
