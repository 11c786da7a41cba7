use Rattle.std.proofs.Common.{◌≡◌, ℕ, ◌+◌, ◌-◌, ◌≤◌, List, [], ◌++◌, length, take, drop, Option, Some, None, refl, sym, ◌∙◌, ap, arith, append_assoc}
use Rattle.std.proofs.lemmas.List.{take-append-drop, take-take, drop-take, drop-drop, take_all, length-drop, length-take-le}
use Rattle.std.proofs.Math.Seq.{take-append_seam}
use Rattle.outside_io.specs.Edges.{before, after}

-- two reads, one after the other
pub before-more : (a b c : Option (List ℕ)) (xs ys : List ℕ) → a ≡ before xs b → b ≡ before ys c → a ≡ before (xs ++ ys) c
before-more a b c xs ys e f = e ∙ ap (before xs) f ∙ at c
  where
    at : (c : Option (List ℕ)) → before xs (before ys c) ≡ before (xs ++ ys) c
    at None = refl
    at (Some rest) = ap Some (sym (append_assoc xs ys rest))

-- two writes, one after the other
pub after-more : (a b c : Option (List ℕ)) (xs ys : List ℕ) → b ≡ after a xs → c ≡ after b ys → c ≡ after a (xs ++ ys)
after-more a b c xs ys e f = f ∙ ap (λ o. after o ys) e ∙ at a
  where
    at : (a : Option (List ℕ)) → after (after a xs) ys ≡ after a (xs ++ ys)
    at None = refl
    at (Some held) = ap Some (append_assoc held xs ys)

pub before-none : (a : Option (List ℕ)) → a ≡ before [] a
before-none None = refl
before-none (Some x) = refl

pub take-add : (xs : List ℕ) (a b : ℕ) → take (a + b) xs ≡ take a xs ++ take b (drop a xs)
take-add xs a b = sym (take-append-drop a (take (a + b) xs)) ∙ ap (λ ys. ys ++ drop a (take (a + b) xs)) (take-take a (a + b) xs (omega arith)) ∙ ap (λ ys. take a xs ++ ys) (drop-take a b xs)

-- a piece of the text was written where the last one ended; a range of it stands as the code took it
pub wrote-more : (was held now : Option (List ℕ)) (text : List ℕ) (from n : ℕ) → from ≤ length text → held ≡ after was (take from text) → now ≡ after held (take n (take (length text - from) (drop from text))) → now ≡ after was (take (from + n) text)
wrote-more was held now text from n h e f =
    let all : take (length text - from) (drop from text) ≡ drop from text = take_all (length text - from) (drop from text) (omega (arith, length-drop from text)) in
    after-more was held now (take from text) (take n (drop from text)) e (f ∙ ap (λ ys. after held (take n ys)) all) ∙ ap (after was) (sym (take-add text from n))

-- what was copied to the front of a buffer is what stood first in the rest
pub read-front : (all new out : List ℕ) (at n : ℕ) → at ≤ length all → n ≤ length out → n ≤ length (take (length all - at) (drop at all)) → new ≡ take n (take (length all - at) (drop at all))
    → drop at all ≡ take n (new ++ drop n out) ++ drop (at + n) all
read-front all new out at n h k l e =
    let whole : take (length all - at) (drop at all) ≡ drop at all = take_all (length all - at) (drop at all) (omega (arith, length-drop at all)) in
    let is : new ≡ take n (drop at all) = e ∙ ap (take n) whole in
    let size : length new ≡ n = ap length is ∙ length-take-le n (drop at all) (omega (arith, ap length whole)) in
    let front : take n (new ++ drop n out) ≡ new = ap (λ k. take k (new ++ drop n out)) (sym size) ∙ take-append_seam new (drop n out) in
    sym (ap (λ ys. ys ++ drop (at + n) all) (front ∙ is) ∙ ap (λ ys. take n (drop at all) ++ ys) (sym (drop-drop n at all)) ∙ take-append-drop n (drop at all))
