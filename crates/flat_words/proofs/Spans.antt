-- The text of the frames of a span, one after the other.
use Rattle.std.proofs.Common.{◌≡◌, ℕ, zero, suc, List, [], ◌∷◌, ◌++◌, ◌+◌, ◌-◌, ◌<◌, ◌≤◌, length, take, drop, get_or, ◌∙◌, ap, sym, arith, append_assoc, append-nil}
use Rattle.std.specs.Prelude.{codes, Result, Ok, Err, OnOk}
use Rattle.std.proofs.lemmas.List.{drop_more, take_more, get_or-drop, length-drop}
use Rattle.std.proofs.lemmas.Grind.{flat_map-append}
use Rattle.journal_words.specs.Words.{word, hex_text, frames_text, more_frames_text}

-- the frames of a span are its first and those behind it
pub first_shown : (frames : List (List ℕ)) (first count : ℕ) → 0 < count → first + count ≤ length frames → frames_text (take count (drop first frames)) ≡ hex_text (get_or frames first []) ++ more_frames_text (take (count - 1) (drop (first + 1) frames))
first_shown frames first zero some within = grind arith
first_shown frames first (suc count) some within =
    let less : count ≡ suc count - 1 = omega arith in
    ap (λ (xs : List (List ℕ)). frames_text (take (suc count) xs)) (drop_more frames first [] (omega arith)) ∙ ap (λ (k : ℕ). hex_text (get_or frames first []) ++ more_frames_text (take k (drop (first + 1) frames))) less

-- one frame more is shown
pub more_shown : (frames : List (List ℕ)) (first i : ℕ) → first + i < length frames → more_frames_text (take (i + 1) (drop first frames)) ≡ more_frames_text (take i (drop first frames)) ++ (codes "/" ++ hex_text (get_or frames (first + i) []))
more_shown frames first i within =
    let next : take (i + 1) (drop first frames) ≡ take i (drop first frames) ++ get_or (drop first frames) i [] ∷ [] = take_more (drop first frames) i [] (omega (arith, length-drop first frames)) in
    let here : get_or (drop first frames) i [] ≡ get_or frames (first + i) [] = get_or-drop first frames i [] in
    let both : more_frames_text (take i (drop first frames) ++ get_or (drop first frames) i [] ∷ []) ≡ more_frames_text (take i (drop first frames)) ++ more_frames_text (get_or (drop first frames) i [] ∷ []) = flat_map-append (λ (frame : List ℕ). codes "/" ++ hex_text frame) (take i (drop first frames)) (get_or (drop first frames) i [] ∷ []) in
    let last : more_frames_text (get_or (drop first frames) i [] ∷ []) ≡ codes "/" ++ hex_text (get_or (drop first frames) i []) = append-nil (codes "/" ++ hex_text (get_or (drop first frames) i [])) in
    ap more_frames_text next ∙ both ∙ ap (λ (xs : List ℕ). more_frames_text (take i (drop first frames)) ++ xs) (last ∙ ap (λ (frame : List ℕ). codes "/" ++ hex_text frame) here)

-- the word of a span, whose first frame and the others were added one after the other
pub word_shown : {T E : Type 0} (r : Result T E) (frames : List (List ℕ)) (first count : ℕ) (page text behind now : List ℕ) → 0 < count → first + count ≤ length frames → text ≡ page ++ codes " " → behind ≡ text ++ hex_text (get_or frames first []) → OnOk r (now ≡ behind ++ more_frames_text (take (count - 1) (drop (first + 1) frames))) → OnOk r (now ≡ word page (frames_text (take count (drop first frames))))
word_shown (Ok x) frames first count page text behind now some within space hex more =
    let one : List ℕ = hex_text (get_or frames first []) in
    let others : List ℕ = more_frames_text (take (count - 1) (drop (first + 1) frames)) in
    more
    ∙ ap (λ (xs : List ℕ). xs ++ others) (hex ∙ ap (λ (xs : List ℕ). xs ++ one) space)
    ∙ append_assoc (page ++ codes " ") one others
    ∙ ap (λ (xs : List ℕ). (page ++ codes " ") ++ xs) (sym (first_shown frames first count some within))
word_shown (Err x) frames first count page text behind now some within space hex more = tt
