-- What a word is that clap reads as a long flag.
use Rattle.std.specs.Prelude.{drop, ◌||◌, option_and_then, unwrap_or}
use Rattle.std.specs.List.{before_first, position_or_len}
use Rattle.std.specs.Option.{option_map_or}
use Rattle.std.proofs.Common.{ℕ, ◌≡◌, Bool, true, false, cond, [], ◌∷◌, ◌++◌, Option, Some, None, refl, sym, ap, ap₂, ◌∙◌, codes, ◌+◌, ◌==◌, not, suc, take, arith, eqb-true}
use Rattle.clap.specs.Lexer.{has_byte, long_of_rest, name_and_value, strip_byte, long_of}
use Rattle.clap.specs.Walk.{Text}

-- what stands behind the name of a flag in its word
abbrev with_value : Option Text → Text
with_value attached = option_map_or (λ lanes. 61 ∷ lanes) attached []

abbrev value_of : Text → Option Text
value_of text = (name_and_value text).1

-- a text is what stands in front of its first `=`, and that with what stands behind it
split_is : (text : Text) → text ≡ before_first (λ x. x == 61) text ++ with_value (value_of text)
split_is [] = refl
split_is (x ∷ xs) = by_test (split_is xs) (x == 61) refl
  where
    by_test : xs ≡ before_first (λ y. y == 61) xs ++ with_value (value_of xs) → (b : Bool) → (x == 61) ≡ b
        → x ∷ xs ≡ take (cond (not b) (1 + position_or_len (λ y. y == 61) xs) 0) (x ∷ xs) ++ with_value (cond (b || has_byte 61 xs) (Some (drop (cond (not b) (1 + position_or_len (λ y. y == 61) xs) 0 + 1) (x ∷ xs))) None)
    by_test rest true e = ap (λ (y : ℕ). y ∷ xs) (eqb-true x 61 e)
    by_test rest false e =
        let n = position_or_len (λ y. y == 61) xs in
        let front : 1 + n ≡ suc n = omega arith in
        let behind : (1 + n) + 1 ≡ suc (n + 1) = omega arith in
        ap (λ (ys : Text). x ∷ ys) rest
        ∙ sym (ap₂ (λ (i j : ℕ). take i (x ∷ xs) ++ with_value (cond (has_byte 61 xs) (Some (drop j (x ∷ xs))) None)) front behind)

-- a text whose first byte was taken off
stripped : (c : ℕ) (text rest : Text) → strip_byte c text ≡ Some rest → text ≡ c ∷ rest
stripped c [] rest e = absurd (cc)
stripped c (x ∷ xs) rest e = by_test (x == c) refl
  where
    by_test : (b : Bool) → (x == c) ≡ b → x ∷ xs ≡ c ∷ rest
    by_test true same =
        let is : Some xs ≡ Some rest = sym (ap (λ (b : Bool). cond b (Some xs) None) same) ∙ e in
        ap₂ (λ (y : ℕ) (ys : Text). y ∷ ys) (eqb-true x c same) (ap (λ (o : Option Text). unwrap_or o xs) is)
    by_test false other =
        let none : ◌≡◌ {A = Option Text} None (Some rest) = sym (ap (λ (b : Bool). cond b (Some xs) None) other) ∙ e in
        absurd (cc)

-- a long flag by its name and its value
pub long_word_of : (word name : Text) (attached : Option Text) → long_of word ≡ Some (name, attached) → word ≡ codes "--" ++ name ++ option_map_or (λ lanes. 61 ∷ lanes) attached []
long_word_of word name attached e = by_first (strip_byte 45 word) refl
  where
    by_rest : (rest : Text) → long_of_rest rest ≡ Some (name, attached) → rest ≡ name ++ with_value attached
    by_rest [] e = absurd (cc)
    by_rest (x ∷ xs) e =
        let is : name_and_value (x ∷ xs) ≡ (name, attached) = ap (λ (o : Option (Text × Option Text)). unwrap_or o (name, attached)) e in
        split_is (x ∷ xs) ∙ ap (λ (p : Text × Option Text). p.0 ++ with_value p.1) is

    by_second : (first : Text) (o : Option Text) → strip_byte 45 first ≡ o → option_and_then long_of_rest o ≡ Some (name, attached) → first ≡ 45 ∷ name ++ with_value attached
    by_second first None s e = absurd (cc)
    by_second first (Some rest) s e = stripped 45 first rest s ∙ ap (λ (t : Text). 45 ∷ t) (by_rest rest e)

    by_first : (o : Option Text) → strip_byte 45 word ≡ o → word ≡ 45 ∷ 45 ∷ name ++ with_value attached
    by_first None s =
        let none : ◌≡◌ {A = Option (Text × Option Text)} None (Some (name, attached)) = sym (ap (λ (o : Option Text). option_and_then long_of_rest (option_and_then (strip_byte 45) o)) s) ∙ e in
        absurd (cc)
    by_first (Some first) s =
        let more = sym (ap (λ (o : Option Text). option_and_then long_of_rest (option_and_then (strip_byte 45) o)) s) ∙ e in
        stripped 45 word first s ∙ ap (λ (t : Text). 45 ∷ t) (by_second first (strip_byte 45 first) refl more)
