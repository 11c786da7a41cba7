-- Parting the lists that leave from those that stay, list by list.
use Rattle.std.proofs.Common.{◌≡◌, ℕ, ◌+◌, ◌<◌, ◌≤◌, Bool, true, false, not, cond, List, [], ◌∷◌, ◌++◌, length, take, drop, get_or, refl, ap, sym, ◌∙◌, arith}
use Rattle.std.specs.Prelude.{filter}
use Rattle.std.proofs.lemmas.List.{append_assoc, drop_more}
use Rattle.std.proofs.lemmas.List.Elements.{filter_more}
use Rattle.std.proofs.lemmas.List.Sums.{length-filter, count_by-le-length}
use Rattle.buffer_pools.specs.Views.{ListView}
use Rattle.kept_lists.specs.Moves.{Moves}

-- the parts of a list before a place, of which one test keeps some and another the others
pub record IsParted (goes : ListView → Bool) (all kept leaving : List ListView) (i : ℕ) : Type 0 where
  pub stay : kept ≡ drop i all ++ filter (λ l. not (goes l)) (take i all)
  pub leave : leaving ≡ filter goes (take i all)
  pub within : i ≤ length all

drop_read : (xs : List ListView) (i : ℕ) (first : ListView) (rest done : List ListView) → i < length xs → first ∷ rest ≡ drop i xs ++ done
    → (get_or xs i first ≡ first) × (rest ≡ drop (i + 1) xs ++ done)
drop_read xs i first rest done h e =
    let split : drop i xs ≡ get_or xs i first ∷ drop (i + 1) xs = drop_more xs i first h in
    let joined : first ∷ rest ≡ get_or xs i first ∷ (drop (i + 1) xs ++ done) = rw split at e in
    let here : get_or xs i first ≡ first = cc joined in
    let others : rest ≡ drop (i + 1) xs ++ done = cc joined in
    (here, others)

swapped : (b : Bool) (x : ListView) → cond (not b) (x ∷ []) [] ≡ cond b [] (x ∷ [])
swapped true x = refl
swapped false x = refl

pub parted_more : (goes : ListView → Bool) (all kept leaving kept' leaving' : List ListView) (i : ℕ) → i < length all → IsParted goes all kept leaving i → Moves goes kept leaving kept' leaving'
    → IsParted goes all kept' leaving' (i + 1)
parted_more goes all kept leaving kept' leaving' i h p m =
    let read = drop_read all i m.first m.rest (filter (λ l. not (goes l)) (take i all)) h (sym m.was ∙ p.stay) in
    let here : get_or all i m.first ≡ m.first = read.0 in
    let rest : m.rest ≡ drop (i + 1) all ++ filter (λ l. not (goes l)) (take i all) = read.1 in
    let stays : filter (λ l. not (goes l)) (take (i + 1) all) ≡ filter (λ l. not (goes l)) (take i all) ++ cond (not (goes m.first)) (m.first ∷ []) [] =
    rw here at (filter_more (λ l. not (goes l)) all i m.first h) in
    let goes_on : filter goes (take (i + 1) all) ≡ filter goes (take i all) ++ cond (goes m.first) (m.first ∷ []) [] =
    rw here at (filter_more goes all i m.first h) in
    let kept_is : kept' ≡ (drop (i + 1) all ++ filter (λ l. not (goes l)) (take i all)) ++ cond (not (goes m.first)) (m.first ∷ []) [] =
    m.stay ∙ ap (λ (xs : List ListView). m.rest ++ xs) (sym (swapped (goes m.first) m.first)) ∙ ap (λ (xs : List ListView). xs ++ cond (not (goes m.first)) (m.first ∷ []) []) rest in
    record {
      stay = kept_is ∙ append_assoc (drop (i + 1) all) (filter (λ l. not (goes l)) (take i all)) (cond (not (goes m.first)) (m.first ∷ []) []) ∙ ap (λ (xs : List ListView). drop (i + 1) all ++ xs) (sym stays);
      leave = m.leave ∙ ap (λ (xs : List ListView). xs ++ cond (goes m.first) (m.first ∷ []) []) p.leave ∙ sym goes_on;
      within = omega arith;
    }

-- those that leave are no more than all
pub no_more : (goes : ListView → Bool) (all : List ListView) → length (filter goes all) ≤ length all
no_more goes all = omega (arith, length-filter goes all, count_by-le-length goes all)
