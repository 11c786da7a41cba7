-- A table of the digits' values.
use Rattle.std.proofs.Common.{◌≡◌, ℕ, zero, suc, ◌+◌, ◌*◌, ◌<◌, ◌==◌, ◌&&◌, Bool, true, List, slice_index, Option, Some, None, Ok, unwrap_or, refl, ap, ◌∙◌, arith}
use Rattle.std.proofs.lemmas.Bool.{and_parts, cases_lt, eqb-true}
use Rattle.std.proofs.Common.{inl, inr}
use Rattle.hex.specs.Hex.{hex_digit_value, digit_or_error, pair_value, ◌>>=◌}

-- the test of one place of a table, which computes
abbrev holds_value : List ℕ → ℕ → Bool
holds_value table k = slice_index table k == unwrap_or (hex_digit_value k) 256

-- the test of the first places
abbrev pub holds_values : List ℕ → ℕ → Bool
holds_values table zero = true
holds_values table (suc n) = holds_value table n && holds_values table n

-- a place that was tested
pub value_at_place : (table : List ℕ) (n k : ℕ) → holds_values table n ≡ true → k < n → slice_index table k ≡ unwrap_or (hex_digit_value k) 256
value_at_place table zero k h below = absurd (omega arith)
value_at_place table (suc n) k h below =
    let parts = and_parts (holds_value table n) (holds_values table n) h in
    elim (cases_lt k n) [
      | inl lower ↦ value_at_place table n k parts.1 lower
      | inr top ↦
          let e : k ≡ n = omega arith in
          rw e (eqb-true (slice_index table n) (unwrap_or (hex_digit_value n) 256) parts.0)
    ]

pair-is : (high low : Option ℕ) (a b place : ℕ) → unwrap_or high 256 * 16 + unwrap_or low 256 < 256
    → (digit_or_error a place high >>= (λ h. digit_or_error b (place + 1) low >>= (λ l. Ok (h * 16 + l)))) ≡ Ok (unwrap_or high 256 * 16 + unwrap_or low 256)
pair-is None low a b place fits = absurd (omega arith)
pair-is (Some h) None a b place fits = absurd (omega arith)
pair-is (Some h) (Some l) a b place fits = refl

-- the byte of two digits, from their values
pub pair_value-fits : (a b place h l : ℕ) → h ≡ unwrap_or (hex_digit_value a) 256 → l ≡ unwrap_or (hex_digit_value b) 256 → h * 16 + l < 256 → pair_value a b place ≡ Ok (h * 16 + l)
pair_value-fits a b place h l is_high is_low fits =
    let fits_both : unwrap_or (hex_digit_value a) 256 * 16 + unwrap_or (hex_digit_value b) 256 < 256 = omega (arith, is_high, is_low, fits) in
    let same : unwrap_or (hex_digit_value a) 256 * 16 + unwrap_or (hex_digit_value b) 256 ≡ h * 16 + l = omega (arith, is_high, is_low) in
    pair-is (hex_digit_value a) (hex_digit_value b) a b place fits_both ∙ ap Ok same
