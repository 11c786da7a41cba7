-- The live lists, and the requests, by their numbers.
use Rattle.std.specs.Prelude.{ℕ, ◌≡◌, ◌<◌, ◌==◌, ◌||◌, not, Bool, false, List, [], ◌∷◌, ◌++◌, Option, Some, None, filter, map, if◌then◌else◌}
use Rattle.stack_rules.specs.declared.LiveList.{LiveList}
use Rattle.stack_rules.specs.declared.Request.{Request}
use Rattle.stack_rules.specs.declared.Thing.{Thing}
use Rattle.stack_rules.specs.declared.Thing.TheVariants as thing

-- a list of this number is live
abbrev pub is_live : ℕ → List LiveList → Bool
is_live n [] = false
is_live n (l ∷ ls) = (l.list.0 == n) || is_live n ls

-- no two live lists have the same number
abbrev pub IsApart : List LiveList → Type 0
IsApart [] = Unit {0}
IsApart (l ∷ ls) = (is_live l.list.0 ls ≡ false) × IsApart ls

-- the lists but the one of this number
abbrev pub others : ℕ → List LiveList → List LiveList
others n ls = filter (λ l. not (l.list.0 == n)) ls

abbrev pub touched : ℕ → (LiveList → LiveList) → LiveList → LiveList
touched n f l = if l.list.0 == n then f l else l

-- the list of this number is changed in its place
abbrev pub retouched : ℕ → (LiveList → LiveList) → List LiveList → List LiveList
retouched n f ls = map (touched n f) ls

-- a change that keeps the number of each list
abbrev pub KeepsNumber : (LiveList → LiveList) → Type 0
KeepsNumber f = (l : LiveList) → (f l).list.0 ≡ l.list.0

-- the lists as things
abbrev pub things_of : List LiveList → List Thing
things_of ls = map (λ l. thing.List l) ls

-- one more list at the end, where there is one
abbrev pub with_last : List LiveList → Option LiveList → List LiveList
with_last ls None = ls
with_last ls (Some l) = ls ++ l ∷ []

-- a fact of each list
abbrev pub Each : (LiveList → Type 0) → List LiveList → Type 0
Each P [] = Unit {0}
Each P (l ∷ ls) = P l × Each P ls

-- how many of two positions at the front pass
abbrev pub front_of_two : Bool → Bool → ℕ
front_of_two a b = if a then (if b then 2 else 1) else 0

-- every number is below this one
abbrev pub IsBelow : ℕ → List LiveList → Type 0
IsBelow n ls = Each (λ l. l.list.0 < n) ls

-- a fact of each request
abbrev pub EachRequest : (Request → Type 0) → List Request → Type 0
EachRequest P [] = Unit {0}
EachRequest P (r ∷ rs) = P r × EachRequest P rs

-- no two requests have the same number
abbrev pub EachApart : List Request → Type 0
EachApart [] = Unit {0}
EachApart (r ∷ rs) = EachRequest (λ q. (q.request.0 == r.request.0) ≡ false) rs × EachApart rs
