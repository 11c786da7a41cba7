-- The first row that passes a test, where a row is known to be there.
use Rattle.std.proofs.Common.{◌≡◌, ◌≤◌, Bool, true, cond, List, [], ◌∷◌, ◌++◌, Some, None, All, find, count_by, refl, arith, ap, ◌∙◌}
use Rattle.std.specs.List.{Contains}
use Rattle.std.specs.Option.{option_or}
use Rattle.std.proofs.lemmas.List.Elements.{All-nil, All-cons, All-contains}
use Rattle.std.proofs.lemmas.List.Folds.{find-append}
use Rattle.journal_types.specs.declared.Row.{Row}
use Rattle.rule_basics.proofs.Counts.{count_by-append}
use Rattle.completion_laws.proofs.Tells.{count_one, zero_find, find_new}

-- the rows before and after a row
pub record IsAt (rows : List Row) (r : Row) : Type 0 where
  pub before : List Row
  pub later : List Row
  pub are : rows ≡ before ++ r ∷ later

all_at : (rows : List Row) → All (IsAt rows) rows
all_at [] = All-nil (IsAt [])
all_at (x ∷ rows) = All-cons (IsAt (x ∷ rows)) x rows (record { before = []; later = rows; are = refl }) (λ k d low. more (all_at rows k d low))
  where
    more : {r : Row} → IsAt rows r → IsAt (x ∷ rows) r
    more {r} a = record { before = x ∷ a.before; later = a.later; are = ap (λ xs. x ∷ xs) a.are }

pub is_at : (rows : List Row) (r : Row) → Contains rows r → IsAt rows r
is_at rows r c = All-contains (IsAt rows) rows r (all_at rows) c

-- where one row at most passes, one that is there is found
pub found_once : (test : Row → Bool) (rows : List Row) (r : Row) → count_by test rows ≤ 1 → test r ≡ true → Contains rows r → find test rows ≡ Some r
found_once test rows r few t c =
    let a : IsAt rows r = is_at rows r c in
    let all = ap (count_by test) a.are in
    let both = count_by-append test a.before (r ∷ a.later) in
    let one = count_one test r true a.later t in
    let none : find test a.before ≡ None = zero_find test a.before (omega (arith, all, both, one, few)) in
    ap (find test) a.are ∙ find_new test a.before (r ∷ a.later) none ∙ ap (λ b. cond b (Some r) (find test a.later)) t

-- and it stays the first one
pub found_still : (test : Row → Bool) (rows later : List Row) (r : Row) → find test rows ≡ Some r → find test (rows ++ later) ≡ Some r
found_still test rows later r f = find-append test rows later ∙ ap (λ o. option_or o (find test later)) f
