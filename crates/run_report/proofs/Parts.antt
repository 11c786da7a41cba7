use Rattle.std.proofs.Common.{◌≡◌, ℕ, ◌+◌, ◌≤◌, ◌<◌, List, [], ◌∷◌, ◌++◌, length, take, drop, slice_index_or, Option, Some, None, min, inl, inr, refl, sym, ◌∙◌, ap, subst, arith, append_assoc, append-nil}
use Rattle.std.specs.Prelude.{◌⊎◌, flat_map, Result, Ok, Err, OnOk, OnErr}
use Rattle.std.specs.List.{concat}
use Rattle.std.proofs.lemmas.List.{drop_more, take-append-le, take_all}
use Rattle.std.proofs.Math.Seq.{take-append-add, take-append_seam}
use Rattle.outside_io.specs.Edges.{after, AddsPrefix}
use Rattle.outside_io.proofs.Pieces.{after-more}
use Rattle.run_report.specs.Report.{Wrote}

-- nothing is written yet
pub wrote-none : (was : Option (List ℕ)) (whole : List ℕ) → Wrote was was whole whole
wrote-none was whole = record { written = []; is = same was; all = refl }
  where
    same : (was : Option (List ℕ)) → was ≡ after was []
    same None = refl
    same (Some held) = ap Some (sym (append-nil held))

-- what is written is a prefix
pub wrote-prefix : (was held : Option (List ℕ)) (rest whole : List ℕ) → Wrote was held rest whole → AddsPrefix was held whole
wrote-prefix was held rest whole w = record {
  much = length w.written;
  is = w.is ∙ ap (after was) (sym (ap (take (length w.written)) (sym w.all) ∙ take-append_seam w.written rest));
}

-- a part of the next piece is written
pub wrote-part : (was held now : Option (List ℕ)) (piece rest whole : List ℕ) → Wrote was held (piece ++ rest) whole → AddsPrefix held now piece → AddsPrefix was now whole
wrote-part was held now piece rest whole w part = record {
  much = length w.written + min part.much (length piece);
  is = after-more was held now w.written (take part.much piece) w.is part.is ∙ ap (after was) (sym (front ∙ ap (λ ys. w.written ++ ys) (inside piece rest part.much)));
}
  where
    inside : (xs ys : List ℕ) (n : ℕ) → take (min n (length xs)) (xs ++ ys) ≡ take n xs
    inside xs ys n = take-append-le (min n (length xs)) xs ys (omega arith) ∙ cut (split n (length xs))
      where
        split : (m n : ℕ) → (m ≤ n) ⊎ (n ≤ m)
        split m n = grind arith

        cut : (n ≤ length xs) ⊎ (length xs ≤ n) → take (min n (length xs)) xs ≡ take n xs
        cut (inl h) = ap (λ k. take k xs) (small n (length xs) h)
          where
            small : (m n : ℕ) → m ≤ n → min m n ≡ m
            small m n h = omega arith
        cut (inr h) = take_all (min n (length xs)) xs (omega arith) ∙ sym (take_all n xs h)

    front : take (length w.written + min part.much (length piece)) whole ≡ w.written ++ take (min part.much (length piece)) (piece ++ rest)
    front = ap (take (length w.written + min part.much (length piece))) (sym w.all) ∙ take-append-add w.written (piece ++ rest) (min part.much (length piece))

-- a part of the last piece is written
pub wrote-last : (was held now : Option (List ℕ)) (piece whole : List ℕ) → Wrote was held piece whole → AddsPrefix held now piece → AddsPrefix was now whole
wrote-last was held now piece whole w part =
    let P : List ℕ → Type 0 = λ text. Wrote was held text whole in
    wrote-part was held now piece [] whole (subst P (sym (append-nil piece)) w) part

-- the texts of the items from one on are its text and those of the items behind it
pub rest-more : {X : Type 0} (f : X → List ℕ) (xs : List X) (i : ℕ) (x d : X) → i < length xs → x ≡ slice_index_or xs i d → flat_map f (drop i xs) ≡ f x ++ flat_map f (drop (i + 1) xs)
rest-more f xs i x d h e = ap (flat_map f) (drop_more xs i d h ∙ ap (λ y. y ∷ drop (i + 1) xs) (sym e))

-- what was gathered is written, or a part of it
pub wrote-more : (was held now : Option (List ℕ)) (page left rest whole : List ℕ) → Wrote was held (page ++ rest) whole → Wrote held now left page → Wrote was now (left ++ rest) whole
wrote-more was held now page left rest whole w v = record {
  written = w.written ++ v.written;
  is = after-more was held now w.written v.written w.is v.is;
  all = append_assoc w.written v.written (left ++ rest) ∙ ap (λ xs. w.written ++ xs) (sym (append_assoc v.written left rest) ∙ ap (λ xs. xs ++ rest) v.all) ∙ w.all;
}

-- the next line is on the page
pub line-on : (page now : List ℕ) (lines left : List (List ℕ)) → now ≡ page ++ concat (take 1 lines) → left ≡ drop 1 lines → page ++ concat lines ≡ now ++ concat left
line-on page now [] left e f = sym e ∙ sym (append-nil now) ∙ ap (λ xs. now ++ concat xs) (sym f)
line-on page now (line ∷ lines) left e f = ap (λ xs. page ++ (xs ++ concat lines)) (sym (append-nil line)) ∙ sym (append_assoc page (line ++ []) (concat lines)) ∙ ap (λ xs. xs ++ concat lines) (sym e) ∙ ap (λ xs. now ++ concat xs) (sym f)

-- the next item is on the page
pub item-on : {X : Type 0} (f : X → List ℕ) (page : List ℕ) (xs : List X) (i : ℕ) (x d : X) → i < length xs → x ≡ slice_index_or xs i d → page ++ flat_map f (drop i xs) ≡ (page ++ f x) ++ flat_map f (drop (i + 1) xs)
item-on f page xs i x d h e = ap (λ ys. page ++ ys) (rest-more f xs i x d h e) ∙ sym (append_assoc page (f x) (flat_map f (drop (i + 1) xs)))

-- the text that is left is seen in another way
wrote-as : (was held : Option (List ℕ)) (rest same whole : List ℕ) → rest ≡ same → Wrote was held rest whole → Wrote was held same whole
wrote-as was held rest same whole e w =
    let P : List ℕ → Type 0 = λ text. Wrote was held text whole in
    subst P e w

-- the next line is gathered, and what was gathered is written, or a part of it
pub wrote-line : (was held now : Option (List ℕ)) (page gathered left : List ℕ) (lines more : List (List ℕ)) (whole : List ℕ) → gathered ≡ page ++ concat (take 1 lines) → more ≡ drop 1 lines → Wrote was held (page ++ concat lines) whole → Wrote held now left gathered → Wrote was now (left ++ concat more) whole
wrote-line was held now page gathered left lines more whole e f w v = wrote-more was held now gathered left (concat more) whole (wrote-as was held (page ++ concat lines) (gathered ++ concat more) whole (line-on page gathered lines more e f) w) v

pub wrote-in-line : (was held now : Option (List ℕ)) (page gathered : List ℕ) (lines more : List (List ℕ)) (whole : List ℕ) → gathered ≡ page ++ concat (take 1 lines) → more ≡ drop 1 lines → Wrote was held (page ++ concat lines) whole → AddsPrefix held now gathered → AddsPrefix was now whole
wrote-in-line was held now page gathered lines more whole e f w v = wrote-part was held now gathered (concat more) whole (wrote-as was held (page ++ concat lines) (gathered ++ concat more) whole (line-on page gathered lines more e f) w) v

-- the text of the next item is gathered and written, or a part of it
pub wrote-item : {X : Type 0} (f : X → List ℕ) (xs : List X) (i : ℕ) (x d : X) (was held now : Option (List ℕ)) (page left whole : List ℕ) → i < length xs → x ≡ slice_index_or xs i d → Wrote was held (page ++ flat_map f (drop i xs)) whole → Wrote held now left (page ++ f x) → Wrote was now (left ++ flat_map f (drop (i + 1) xs)) whole
wrote-item f xs i x d was held now page left whole h e w v = wrote-more was held now (page ++ f x) left (flat_map f (drop (i + 1) xs)) whole (wrote-as was held (page ++ flat_map f (drop i xs)) ((page ++ f x) ++ flat_map f (drop (i + 1) xs)) whole (item-on f page xs i x d h e) w) v

pub wrote-in-item : {X : Type 0} (f : X → List ℕ) (xs : List X) (i : ℕ) (x d : X) (was held now : Option (List ℕ)) (page whole : List ℕ) → i < length xs → x ≡ slice_index_or xs i d → Wrote was held (page ++ flat_map f (drop i xs)) whole → AddsPrefix held now (page ++ f x) → AddsPrefix was now whole
wrote-in-item f xs i x d was held now page whole h e w v = wrote-part was held now (page ++ f x) (flat_map f (drop (i + 1) xs)) whole (wrote-as was held (page ++ flat_map f (drop i xs)) ((page ++ f x) ++ flat_map f (drop (i + 1) xs)) whole (item-on f page xs i x d h e) w) v

-- the first of two texts is written: of both there is the rest of its page and the second
wrote-first : (was held : Option (List ℕ)) (page left first second : List ℕ) → Wrote was held left (page ++ first) → Wrote was held (left ++ second) (page ++ (first ++ second))
wrote-first was held page left first second w = record {
  written = w.written;
  is = w.is;
  all = sym (append_assoc w.written left second) ∙ ap (λ xs. xs ++ second) w.all ∙ append_assoc page first second;
}

-- of two texts a part of the first is written
pub wrote-in-first : (was now : Option (List ℕ)) (page first second : List ℕ) → AddsPrefix was now (page ++ first) → AddsPrefix was now (page ++ (first ++ second))
wrote-in-first was now page first second v =
    let none : Wrote was was ((page ++ first) ++ second) (page ++ (first ++ second)) = wrote-as was was (page ++ (first ++ second)) ((page ++ first) ++ second) (page ++ (first ++ second)) (sym (append_assoc page first second)) (wrote-none was (page ++ (first ++ second))) in
    wrote-part was was now (page ++ first) second (page ++ (first ++ second)) none v

-- of two texts the first is written, and the second or a part of it
pub second-whole : {T E : Type 0} (r : Result T E) (was held now : Option (List ℕ)) (page left last first second : List ℕ) → Wrote was held left (page ++ first) → OnOk r (Wrote held now last (left ++ second)) → OnOk r (Wrote was now last (page ++ (first ++ second)))
second-whole (Ok x) was held now page left last first second w v =
    let both : Wrote was held (left ++ second) (page ++ (first ++ second)) = wrote-first was held page left first second w in
    let P : List ℕ → Type 0 = λ text. Wrote was now text (page ++ (first ++ second)) in
    let Q : List ℕ → Type 0 = λ text. Wrote was held text (page ++ (first ++ second)) in
    subst P (append-nil last) (wrote-more was held now (left ++ second) last [] (page ++ (first ++ second)) (subst Q (sym (append-nil (left ++ second))) both) v)
second-whole (Err e) was held now page left last first second w v = tt

pub second-part : {T E : Type 0} (r : Result T E) (was held now : Option (List ℕ)) (page left first second : List ℕ) → Wrote was held left (page ++ first) → OnErr r (AddsPrefix held now (left ++ second)) → OnErr r (AddsPrefix was now (page ++ (first ++ second)))
second-part (Ok x) was held now page left first second w v = tt
second-part (Err e) was held now page left first second w v = wrote-last was held now (left ++ second) (page ++ (first ++ second)) (wrote-first was held page left first second w) v

-- a part of the last page is written
pub wrote-in-last : (was held now : Option (List ℕ)) (piece left text whole : List ℕ) → text ≡ whole → piece ≡ left → Wrote was held left text → AddsPrefix held now piece → AddsPrefix was now whole
wrote-in-last was held now piece left text whole e f w v =
    let P : List ℕ → Type 0 = λ (xs : List ℕ). Wrote was held left xs in
    let Q : List ℕ → Type 0 = λ (xs : List ℕ). AddsPrefix held now xs in
    wrote-last was held now left whole (subst P e w) (subst Q f v)

pub on-err : {T E P : Type 0} (r : Result T E) → P → OnErr r P
on-err (Ok x) p = tt
on-err (Err e) p = p
