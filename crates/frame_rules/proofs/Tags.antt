-- Bytes put in at offset 12 and taken out there.
use Rattle.std.proofs.Common.{◌≡◌, ℕ, zero, suc, ◌+◌, ◌≤◌, List, [], ◌∷◌, ◌++◌, length, take, drop, insert, remove, refl, sym, ap, ap₂, ◌∙◌, subst}
use Rattle.std.proofs.lemmas.List.{length-take-le}
use Rattle.std.proofs.Math.Seq.{drop-append-add, drop-append_seam, take-append_seam}

-- a list that begins with these elements
take-front : (front rest : List ℕ) (n : ℕ) → length front ≡ n → take n (front ++ rest) ≡ front
take-front front rest n e = subst (λ k. take k (front ++ rest) ≡ front) e (take-append_seam front rest)

drop-front : (front rest : List ℕ) (n : ℕ) → length front ≡ n → drop n (front ++ rest) ≡ rest
drop-front front rest n e = subst (λ k. drop k (front ++ rest) ≡ rest) e (drop-append_seam front rest)

drop-next : (front rest : List ℕ) (n : ℕ) → length front ≡ n → drop (n + 1) (front ++ rest) ≡ drop 1 rest
drop-next front rest n e = subst (λ k. drop (k + 1) (front ++ rest) ≡ drop 1 rest) e (drop-append-add front rest 1)

insert-front : (front rest : List ℕ) (x : ℕ) → length front ≡ 12 → insert (front ++ rest) 12 x ≡ front ++ x ∷ rest
insert-front front rest x e = ap₂ (λ f r. f ++ x ∷ r) (take-front front rest 12 e) (drop-front front rest 12 e)

remove-front : (front rest : List ℕ) → length front ≡ 12 → remove (front ++ rest) 12 ≡ front ++ drop 1 rest
remove-front front rest e = ap₂ (λ f r. f ++ r) (take-front front rest 12 e) (drop-next front rest 12 e)

drop-one : (n : ℕ) (xs : List ℕ) → drop 1 (drop n xs) ≡ drop (suc n) xs
drop-one zero xs = refl
drop-one (suc n) [] = refl
drop-one (suc n) (x ∷ xs) = drop-one n xs

pub insert-four : (xs s t u v : List ℕ) (d c b a : ℕ) → 12 ≤ length xs → s ≡ insert xs 12 d → t ≡ insert s 12 c → u ≡ insert t 12 b → v ≡ insert u 12 a → v ≡ take 12 xs ++ (a ∷ b ∷ c ∷ d ∷ drop 12 xs)
insert-four xs s t u v d c b a long first second third fourth =
    let front : List ℕ = take 12 xs in
    let rest : List ℕ = drop 12 xs in
    let size : length front ≡ 12 = length-take-le 12 xs long in
    let two : t ≡ front ++ (c ∷ d ∷ rest) = second ∙ ap (λ l. insert l 12 c) first ∙ insert-front front (d ∷ rest) c size in
    let three : u ≡ front ++ (b ∷ c ∷ d ∷ rest) = third ∙ ap (λ l. insert l 12 b) two ∙ insert-front front (c ∷ d ∷ rest) b size in
    fourth ∙ ap (λ l. insert l 12 a) three ∙ insert-front front (b ∷ c ∷ d ∷ rest) a size

pub remove-four : (xs s t u v : List ℕ) → 12 ≤ length xs → s ≡ remove xs 12 → t ≡ remove s 12 → u ≡ remove t 12 → v ≡ remove u 12 → v ≡ take 12 xs ++ drop 16 xs
remove-four xs s t u v long first second third fourth =
    let front : List ℕ = take 12 xs in
    let size : length front ≡ 12 = length-take-le 12 xs long in
    let two : t ≡ front ++ drop 14 xs = second ∙ ap (λ l. remove l 12) first ∙ remove-front front (drop 13 xs) size ∙ ap (λ l. front ++ l) (drop-one 13 xs) in
    let three : u ≡ front ++ drop 15 xs = third ∙ ap (λ l. remove l 12) two ∙ remove-front front (drop 14 xs) size ∙ ap (λ l. front ++ l) (drop-one 14 xs) in
    fourth ∙ ap (λ l. remove l 12) three ∙ remove-front front (drop 15 xs) size ∙ ap (λ l. front ++ l) (drop-one 15 xs)
