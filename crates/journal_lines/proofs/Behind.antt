-- Words behind a text of two parts stand behind its second part.
use Rattle.std.proofs.Common.{◌≡◌, List, ℕ, [], ◌∷◌, ◌++◌, refl, sym, ◌∙◌, ap, append_assoc, append-nil}
use Rattle.std.specs.Prelude.{codes, Result, Ok, Err, OnOk}
use Rattle.journal_words.specs.Words.{word, spaced}

word-behind : (front text next : List ℕ) → word (front ++ text) next ≡ front ++ word text next
word-behind front text next = ap (λ xs. xs ++ next) (append_assoc front text (codes " ")) ∙ append_assoc front (text ++ codes " ") next

spaced-behind : (front text : List ℕ) (words : List (List ℕ)) → spaced (front ++ text) words ≡ front ++ spaced text words
spaced-behind front text [] = refl
spaced-behind front text (next ∷ words) = ap (λ xs. spaced xs words) (word-behind front text next) ∙ spaced-behind front (word text next) words

-- words at the beginning of a line
pub behind-none : (front now : List ℕ) (words : List (List ℕ)) → now ≡ spaced front words → now ≡ front ++ spaced [] words
behind-none front now words e = e ∙ ap (λ xs. spaced xs words) (sym (append-nil front)) ∙ spaced-behind front [] words

-- words behind the beginning of a line
pub behind : (front text was now : List ℕ) (words : List (List ℕ)) → was ≡ front ++ text → now ≡ spaced was words → now ≡ front ++ spaced text words
behind front text was now words e f = f ∙ ap (λ xs. spaced xs words) e ∙ spaced-behind front text words

-- four times words behind the beginning of a line
pub behind-four : (front text was now : List ℕ) (a b c d : List (List ℕ)) → was ≡ front ++ text → now ≡ spaced (spaced (spaced (spaced was a) b) c) d → now ≡ front ++ spaced (spaced (spaced (spaced text a) b) c) d
behind-four front text was now a b c d e f =
    let a2 : spaced was a ≡ front ++ spaced text a = behind front text was (spaced was a) a e refl in
    let b2 : spaced (spaced was a) b ≡ front ++ spaced (spaced text a) b = behind front (spaced text a) (spaced was a) (spaced (spaced was a) b) b a2 refl in
    let c2 : spaced (spaced (spaced was a) b) c ≡ front ++ spaced (spaced (spaced text a) b) c = behind front (spaced (spaced text a) b) (spaced (spaced was a) b) (spaced (spaced (spaced was a) b) c) c b2 refl in
    behind front (spaced (spaced (spaced text a) b) c) (spaced (spaced (spaced was a) b) c) now d c2 f

-- the end of a line
pub line-ends : {T E : Type 0} (r : Result T E) (front text was now : List ℕ) → was ≡ front ++ text → OnOk r (now ≡ was ++ codes "\n") → OnOk r (now ≡ front ++ (text ++ codes "\n"))
line-ends (Ok x) front text was now e h = h ∙ ap (λ xs. xs ++ codes "\n") e ∙ append_assoc front text (codes "\n")
line-ends (Err x) front text was now e h = tt
