-- The last digits of a number in decimal.
use Rattle.std.specs.Prelude.{ℕ, ◌+◌, ◌/◌, ◌%◌, List, [], ◌∷◌}

abbrev pub last_digit : ℕ → ℕ
last_digit number = 48 + number % 10

abbrev pub four_last : ℕ → List ℕ
four_last number = last_digit (number / 1000) ∷ last_digit (number / 100) ∷ last_digit (number / 10) ∷ last_digit number ∷ []
