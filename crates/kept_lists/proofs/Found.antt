-- The first list of a number among others.
use Rattle.std.proofs.Common.{◌≡◌, ℕ, suc, ◌+◌, ◌<◌, true, false, cond, List, [], ◌∷◌, ◌++◌, Some, None, length, take, drop, get_or, All, refl, ap, sym, ◌∙◌, arith}
use Rattle.std.specs.Prelude.{find, remove}
use Rattle.std.proofs.lemmas.List.{take-append-drop, drop_more}
use Rattle.std.proofs.lemmas.List.Elements.{All-head, All-tail}
use Rattle.buffer_pools.specs.Views.{ListView}
use Rattle.driver_calls.specs.Filters.{without_first}
use Rattle.kept_lists.specs.Kept.{KeptView, has_number, IsOther, StandsAt, Takes}
use Rattle.kept_lists.specs.Kept.Takes.{takes}

-- a search goes on behind lists of other numbers
pub find_behind : (n : ℕ) (front rest : List ListView) → All (IsOther n) front → find (has_number n) (front ++ rest) ≡ find (has_number n) rest
find_behind n [] rest others = refl
find_behind n (x ∷ front) rest others =
    let first : has_number n x ≡ false = All-head (IsOther n) x front others in
    ap (λ b. cond b (Some x) (find (has_number n) (front ++ rest))) first ∙ find_behind n front rest (All-tail (IsOther n) x front others)

pub without_behind : (n : ℕ) (front rest : List ListView) → All (IsOther n) front → without_first n (front ++ rest) ≡ front ++ without_first n rest
without_behind n [] rest others = refl
without_behind n (x ∷ front) rest others =
    let first : has_number n x ≡ false = All-head (IsOther n) x front others in
    ap (λ b. cond b (front ++ rest) (x ∷ without_first n (front ++ rest))) first ∙ ap (λ xs. x ∷ xs) (without_behind n front rest (All-tail (IsOther n) x front others))

-- a list parted at a place
parted : (xs : List ListView) (i : ℕ) (d : ListView) → i < length xs → xs ≡ take i xs ++ get_or xs i d ∷ drop (suc i) xs
parted xs i d h =
    let next : i + 1 ≡ suc i = omega arith in
    sym (take-append-drop i xs) ∙ ap (λ r. take i xs ++ r) (drop_more xs i d h ∙ ap (λ k. get_or xs i d ∷ drop k xs) next)

-- what is taken from a place
pub takes_at : (n : ℕ) (old after : KeptView) (i : ℕ) (taken : ListView) → StandsAt n old.lists i → taken ≡ get_or old.lists i taken → after.lists ≡ remove old.lists i → after.room ≡ old.room + 1
    → Takes old n (Some taken) after
takes_at n old after i taken stands is now room =
    takes (take i old.lists) taken (drop (suc i) old.lists) stands.before (parted old.lists i taken stands.inside ∙ ap (λ x. take i old.lists ++ x ∷ drop (suc i) old.lists) (sym is))
    (ap (has_number n) is ∙ stands.here taken) refl now room

-- the one that is searched, and the others, in the words of a filter
pub record IsTaken (kept : List ListView) (n : ℕ) (list : ListView) (after : List ListView) : Type 0 where
  pub found : find (has_number n) kept ≡ Some list
  pub left : after ≡ without_first n kept

pub taken_first : (n : ℕ) (kept front back after : List ListView) (list : ListView) → All (IsOther n) front → kept ≡ front ++ list ∷ back → has_number n list ≡ true → after ≡ front ++ back → IsTaken kept n list after
taken_first n kept front back after list others is here now = record {
  found = ap (find (has_number n)) is ∙ find_behind n front (list ∷ back) others ∙ ap (λ b. cond b (Some list) (find (has_number n) back)) here;
  left = now ∙ ap (λ xs. front ++ xs) (sym (ap (λ b. cond b back (list ∷ without_first n back)) here)) ∙ sym (without_behind n front (list ∷ back) others) ∙ ap (without_first n) (sym is);
}

pub found_none : (n : ℕ) (kept : List ListView) → All (IsOther n) kept → find (has_number n) kept ≡ None
found_none n [] others = refl
found_none n (x ∷ kept) others =
    ap (λ b. cond b (Some x) (find (has_number n) kept)) (All-head (IsOther n) x kept others) ∙ found_none n kept (All-tail (IsOther n) x kept others)
