-- A number in decimal, by its last digits.
use Rattle.std.proofs.Common.{◌≡◌, ℕ, List, [], ◌∷◌, ◌++◌, ◌+◌, ◌/◌, ◌^◌, ◌<◌, ◌≤◌, decimal, ◌∙◌, ap, refl, sym, append_assoc, arith}
use Rattle.std.specs.Prelude.{Result, Ok, Err, OnOk}
use Rattle.std.proofs.lemmas.Fmt.{decimal_step, decimal_digit}
use Rattle.journal_words.specs.Digits.{last_digit, four_last}

pub one_digit : (n : ℕ) → n < 10 → decimal n ≡ last_digit n ∷ []
one_digit n small =
    let same : 48 + n ≡ last_digit n = omega arith in
    decimal_digit n small ∙ ap (λ (d : ℕ). d ∷ []) same

-- a number whose first digits are known
more_digits : (n : ℕ) (first : List ℕ) → 10 ≤ n → n < 2 ^ 64 → decimal (n / 10) ≡ first → decimal n ≡ first ++ last_digit n ∷ []
more_digits n first large small same = decimal_step n large small ∙ ap (λ (ds : List ℕ). ds ++ last_digit n ∷ []) same

pub two_digits : (n : ℕ) → 10 ≤ n → n < 100 → decimal n ≡ last_digit (n / 10) ∷ last_digit n ∷ []
two_digits n large small = more_digits n (last_digit (n / 10) ∷ []) large (omega arith) (one_digit (n / 10) (omega arith))

pub three_digits : (n : ℕ) → 100 ≤ n → n < 1000 → decimal n ≡ last_digit (n / 100) ∷ last_digit (n / 10) ∷ last_digit n ∷ []
three_digits n large small =
    let hundreds : n / 10 / 10 ≡ n / 100 = omega arith in
    more_digits n (last_digit (n / 100) ∷ last_digit (n / 10) ∷ []) (omega arith) (omega arith)
    (two_digits (n / 10) (omega arith) (omega arith) ∙ ap (λ (k : ℕ). last_digit k ∷ last_digit (n / 10) ∷ []) hundreds)

pub four_digits : (n : ℕ) → 1000 ≤ n → n < 10000 → decimal n ≡ four_last n
four_digits n large small =
    let hundreds : n / 10 / 10 ≡ n / 100 = omega arith in
    let thousands : n / 10 / 100 ≡ n / 1000 = omega arith in
    more_digits n (last_digit (n / 1000) ∷ last_digit (n / 100) ∷ last_digit (n / 10) ∷ []) (omega arith) (omega arith)
    (three_digits (n / 10) (omega arith) (omega arith)
    ∙ ap (λ (k : ℕ). last_digit k ∷ last_digit (n / 10 / 10) ∷ last_digit (n / 10) ∷ []) thousands
    ∙ ap (λ (k : ℕ). last_digit (n / 1000) ∷ last_digit k ∷ last_digit (n / 10) ∷ []) hundreds)

four_pushed : (xs : List ℕ) (a b c d : ℕ) → (((xs ++ a ∷ []) ++ b ∷ []) ++ c ∷ []) ++ d ∷ [] ≡ xs ++ a ∷ b ∷ c ∷ d ∷ []
four_pushed [] a b c d = refl
four_pushed (x ∷ xs) a b c d = ap (λ (ys : List ℕ). x ∷ ys) (four_pushed xs a b c d)

pub many_digits : (n : ℕ) → 10000 ≤ n → n < 2 ^ 64 → decimal n ≡ decimal (n / 10000) ++ four_last n
many_digits n large small =
    let tens : ℕ = n / 10 in
    let hundreds : ℕ = tens / 10 in
    let thousands : ℕ = hundreds / 10 in
    let rest : ℕ = thousands / 10 in
    let hundreds_same : hundreds ≡ n / 100 = omega arith in
    let thousands_same : thousands ≡ n / 1000 = omega arith in
    let rest_same : rest ≡ n / 10000 = omega arith in
    let third : decimal thousands ≡ decimal rest ++ last_digit thousands ∷ [] = decimal_step thousands (omega arith) (omega arith) in
    let second : decimal hundreds ≡ (decimal rest ++ last_digit thousands ∷ []) ++ last_digit hundreds ∷ [] = more_digits hundreds (decimal rest ++ last_digit thousands ∷ []) (omega arith) (omega arith) third in
    let first : decimal tens ≡ ((decimal rest ++ last_digit thousands ∷ []) ++ last_digit hundreds ∷ []) ++ last_digit tens ∷ [] = more_digits tens ((decimal rest ++ last_digit thousands ∷ []) ++ last_digit hundreds ∷ []) (omega arith) (omega arith) second in
    more_digits n (((decimal rest ++ last_digit thousands ∷ []) ++ last_digit hundreds ∷ []) ++ last_digit tens ∷ []) (omega arith) small first
    ∙ four_pushed (decimal rest) (last_digit thousands) (last_digit hundreds) (last_digit tens) (last_digit n)
    ∙ ap (λ (k : ℕ). decimal k ++ last_digit thousands ∷ last_digit hundreds ∷ last_digit tens ∷ last_digit n ∷ []) rest_same
    ∙ ap (λ (k : ℕ). decimal (n / 10000) ++ last_digit k ∷ last_digit hundreds ∷ last_digit tens ∷ last_digit n ∷ []) thousands_same
    ∙ ap (λ (k : ℕ). decimal (n / 10000) ++ last_digit (n / 1000) ∷ last_digit k ∷ last_digit tens ∷ last_digit n ∷ []) hundreds_same

-- the first digits of a number and its last four, behind a text
pub digits_behind : {T E : Type 0} (r : Result T E) (old text now : List ℕ) (n : ℕ) → 10000 ≤ n → n < 2 ^ 64 → text ≡ old ++ decimal (n / 10000) → OnOk r (now ≡ text ++ four_last n) → OnOk r (now ≡ old ++ decimal n)
digits_behind (Ok x) old text now n large small first last =
    last
    ∙ ap (λ (xs : List ℕ). xs ++ four_last n) first
    ∙ append_assoc old (decimal (n / 10000)) (four_last n)
    ∙ ap (λ (xs : List ℕ). old ++ xs) (sym (many_digits n large small))
digits_behind (Err x) old text now n large small first last = tt
