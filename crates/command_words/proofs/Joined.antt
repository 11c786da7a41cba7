-- The words, and digits that are joined.
use Rattle.std.proofs.Common.{ℕ, ◌≡◌, ◌≤◌, ◌-◌, ◌==◌, ◌&&◌, nat_le, Bool, true, false, List, [], ◌∷◌, ◌++◌, Option, Some, None, option_map, is_some, length, map, take, drop, get_or, if◌then◌else◌, refl, ap, sym, subst, ◌∙◌, arith}
use Rattle.std.proofs.lemmas.Bool.Decides.{nat_tests}
use Rattle.std.proofs.lemmas.List.{append_assoc, take_rest}
use Rattle.command_words.specs.Words.{is_lane, joined_lanes, order_in}

differ : {A : Type 0} → false ≡ true → A
differ e = absurd (cc)

-- what a text is where a digit and a comma are in front
record Begins (digit : ℕ) (others : List ℕ) (text : List ℕ) : Type 0 where
  pub low : 48 ≤ digit
  pub more : is_some (joined_lanes others) ≡ true
  pub is : joined_lanes text ≡ option_map (λ lanes. (digit - 48) ∷ lanes) (joined_lanes others)

begins_with : (d c : ℕ) (others : List ℕ) → is_some (joined_lanes (d ∷ c ∷ others)) ≡ true → Begins d others (d ∷ c ∷ others)
begins_with d c others some = by_test (is_lane d && c == 44) refl
  where
    mapped : (o : Option (List ℕ)) → is_some (option_map (λ lanes. (d - 48) ∷ lanes) o) ≡ is_some o
    mapped None = refl
    mapped (Some x) = refl

    low : (a b : Bool) → (a && b) ≡ true → a ≡ true
    low true b e = refl
    low false b e = differ e

    by_test : (b : Bool) → (is_lane d && c == 44) ≡ b → Begins d others (d ∷ c ∷ others)
    by_test true e =
        let is : joined_lanes (d ∷ c ∷ others) ≡ option_map (λ lanes. (d - 48) ∷ lanes) (joined_lanes others) = ap (λ (b : Bool). if b then option_map (λ lanes. (d - 48) ∷ lanes) (joined_lanes others) else None) e in
        let digit : nat_le 48 d ≡ true = low (nat_le 48 d) (nat_le d 55) (low (is_lane d) (c == 44) e) in
        record {
          low = grind (arith, nat_tests, digit);
          more = sym (mapped (joined_lanes others)) ∙ sym (ap is_some is) ∙ some;
          is = is;
        }
    by_test false e = differ (sym (ap (λ (b : Bool). is_some (if b then option_map (λ lanes. (d - 48) ∷ lanes) (joined_lanes others) else None)) e) ∙ some)

begins : (text : List ℕ) → 2 ≤ length text → is_some (joined_lanes text) ≡ true → Begins (get_or text 0 0) (drop 2 text) text
begins [] two some = absurd (omega (arith, two))
begins (x ∷ []) two some = absurd (omega (arith, two))
begins (x ∷ c ∷ others) two some = begins_with x c others some

-- the lanes before them go in front
goes_on : (text rest others : List ℕ) (d : ℕ) (lanes lanes' : List ℕ) → Begins d others rest → joined_lanes text ≡ option_map (λ more. lanes ++ more) (joined_lanes rest) → lanes' ≡ lanes ++ (d - 48) ∷ []
    → joined_lanes text ≡ option_map (λ more. lanes' ++ more) (joined_lanes others)
goes_on text rest others d lanes lanes' b told pushed = told ∙ ap (option_map (λ more. lanes ++ more)) b.is ∙ mapped (joined_lanes others)
  where
    mapped : (o : Option (List ℕ)) → option_map (λ more. lanes ++ more) (option_map (λ ls. (d - 48) ∷ ls) o) ≡ option_map (λ more. lanes' ++ more) o
    mapped None = refl
    mapped (Some more) = ap Some (sym (append_assoc lanes ((d - 48) ∷ []) more) ∙ ap (λ (xs : List ℕ). xs ++ more) (sym pushed))

pub more_joined : (text rest rest' : List ℕ) → 2 ≤ length rest → rest' ≡ take (length rest - 2) (drop 2 rest) → is_some (joined_lanes rest) ≡ true → is_some (joined_lanes rest') ≡ true
more_joined text rest rest' two is some = subst (λ (r : List ℕ). is_some (joined_lanes r) ≡ true) (sym (is ∙ take_rest rest 2)) (begins rest two some).more

pub more_told : (text rest rest' lanes lanes' : List ℕ) → 2 ≤ length rest → rest' ≡ take (length rest - 2) (drop 2 rest) → is_some (joined_lanes rest) ≡ true → joined_lanes text ≡ option_map (λ more. lanes ++ more) (joined_lanes rest)
    → lanes' ≡ lanes ++ (get_or rest 0 0 - 48) ∷ [] → joined_lanes text ≡ option_map (λ more. lanes' ++ more) (joined_lanes rest')
more_told text rest rest' lanes lanes' two is some told pushed =
    subst (λ (r : List ℕ). joined_lanes text ≡ option_map (λ more. lanes' ++ more) (joined_lanes r)) (sym (is ∙ take_rest rest 2))
    (goes_on text rest (drop 2 rest) (get_or rest 0 0) lanes lanes' (begins rest two some) told pushed)

-- more than three words are no form
pub too_many : {X : Type 0} (f : X → List ℕ) (words : List X) → 4 ≤ length words → None ≡ order_in (map f words)
too_many f [] most = absurd (omega (arith, most))
too_many f (a ∷ []) most = absurd (omega (arith, most))
too_many f (a ∷ b ∷ []) most = absurd (omega (arith, most))
too_many f (a ∷ b ∷ c ∷ []) most = absurd (omega (arith, most))
too_many f (a ∷ b ∷ c ∷ d ∷ words) most = refl
