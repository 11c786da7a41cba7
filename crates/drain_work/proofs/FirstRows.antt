-- The rows of the first module that has any.
use Rattle.std.proofs.Common.{◌≡◌, ◌≢◌, ℕ, ◌+◌, ◌≤◌, ◌<◌, List, [], ◌∷◌, ◌++◌, length, get_or, drop, refl, sym, ap, ◌∙◌, add-one}
use Rattle.std.proofs.lemmas.List.{drop_all}
use Rattle.std.proofs.Math.Seq.{drop-cons}
use Rattle.ndis_base.specs.declared.ProtocolKind.{ProtocolKind}
use Rattle.ndis_base.specs.declared.ProtocolKind.TheVariants as protocol_kind
use Rattle.journal_types.specs.declared.Row.{Row}
use Rattle.journal_types.specs.declared.Reply.TheVariants as reply
use Rattle.stack_rules.specs.Drains.{first_rows, drained}
use Rattle.stack_rules.specs.Heads.{numbers_from}

pub first_none : (xs ys : List (List Row)) → first_rows xs ≡ [] → first_rows (xs ++ ys) ≡ first_rows ys
first_none [] ys e = refl
first_none ([] ∷ xs) ys e = first_none xs ys e
first_none ((r ∷ rs) ∷ xs) ys e = absurd cc

pub first_some : (xs ys : List (List Row)) → first_rows xs ≢ [] → first_rows (xs ++ ys) ≡ first_rows xs
first_some [] ys some = absurd (some refl)
first_some ([] ∷ xs) ys some = first_some xs ys some
first_some ((r ∷ rs) ∷ xs) ys some = refl

pub first_here : (x : List Row) (xs : List (List Row)) → x ≢ [] → first_rows (x ∷ xs) ≡ x
first_here [] xs some = absurd (some refl)
first_here (r ∷ rs) xs some = refl

pub first_later : (x : List Row) (xs : List (List Row)) → x ≡ [] → first_rows (x ∷ xs) ≡ first_rows xs
first_later x xs none = ap (λ y. first_rows (y ∷ xs)) none

pub first_one : (x : List Row) → first_rows (x ∷ []) ≡ x
first_one [] = refl
first_one (r ∷ rs) = refl

-- what was drained, where there are rows
pub drained_reply : (rows : List Row) → rows ≢ [] → reply.Moved ≡ (drained rows).reply
drained_reply [] some = absurd (some refl)
drained_reply (r ∷ rows) some = refl

pub drained_rows : (rows : List Row) → rows ≡ (drained rows).rows
drained_rows [] = refl
drained_rows (r ∷ rows) = refl

-- the numbers of bindings and the filters, one by one
pub numbers_at : (b i : ℕ) (setups : List (ProtocolKind × ℕ)) → i < length setups → numbers_from b (drop i setups) ≡ b ∷ numbers_from (b + 1) (drop (i + 1) setups)
numbers_at b i setups within = ap (numbers_from b) (drop-cons setups i (protocol_kind.Log, 0) within) ∙ ap (λ k. b ∷ numbers_from (b + 1) (drop k setups)) (sym (add-one i))

pub numbers_past : (b i : ℕ) (setups : List (ProtocolKind × ℕ)) → length setups ≤ i → numbers_from b (drop i setups) ≡ []
numbers_past b i setups past = ap (numbers_from b) (drop_all i setups past)

pub order_at : (i : ℕ) (order : List ℕ) → i < length order → drop i order ≡ get_or order i 0 ∷ drop (i + 1) order
order_at i order within = drop-cons order i 0 within ∙ ap (λ k. get_or order i 0 ∷ drop k order) (sym (add-one i))
