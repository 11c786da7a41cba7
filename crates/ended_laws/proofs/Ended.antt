-- Each list that was issued is home where none is live.
use Rattle.std.proofs.Common.{◌≡◌, ℕ, ◌+◌, ◌<◌, ◌≤◌, ◌==◌, Bool, true, false, List, [], ◌∷◌, ◌⊎◌, inl, inr, All, count_by, refl, ap, arith}
use Rattle.std.specs.List.{Contains}
use Rattle.std.proofs.lemmas.Bool.{cases_lt}
use Rattle.std.proofs.lemmas.Bool.Decides.{nat_tests}
use Rattle.std.proofs.lemmas.List.Elements.{All-nil, All-cons, All-contains}
use Rattle.ndis_base.specs.declared.ListNo.{ListNo}
use Rattle.journal_types.specs.declared.Row.{Row}
use Rattle.journal_types.specs.declared.Row.TheVariants as row
use Rattle.journal_types.specs.declared.StackHead.{StackHead}
use Rattle.journal_types.specs.declared.Turn.{Turn}
use Rattle.stack_rules.specs.declared.LiveList.{LiveList}
use Rattle.stack_rules.specs.Net.{seen, lists}
use Rattle.stack_rules.specs.Sound.{Sound}
use Rattle.rule_basics.specs.Live.{is_live}
use Rattle.rule_basics.proofs.Counts.{count_by-cons, one_if}
use Rattle.home_laws.specs.Rows.{rows_of, is_home_of, IsHome, issue_row}
use Rattle.home_laws.specs.Standing.{ListsStand}
use Rattle.home_laws.proofs.Fits.{Register, empty, registered, registered_rows, Fits, AllFit}
use Rattle.home_laws.proofs.Registers.{next_after, next_rows}
use Rattle.home_laws.proofs.Homes.{home_once}
use Rattle.home_laws.proofs.Events.{FitsAfter, journal_fits}
use Rattle.home_laws.proofs.Standing.{lists_stand}
use Rattle.ended_laws.specs.Ended.{EachIsHome}

-- a list that the row issues has a number from 1 on, below this one
abbrev pub IsGivenOut : ℕ → Row → Type 0
IsGivenOut top (row.Issue list owner config direction cancel origin frames) = (1 ≤ list.0) × (list.0 < top)
IsGivenOut top _ = Unit {0}

one_given_out : (reg : Register) (r : Row) (top : ℕ) → 1 ≤ reg.next → Fits reg r → (registered reg r).next ≤ top → IsGivenOut top r
one_given_out reg (row.Issue list owner config direction cancel origin frames) top some f low =
    let same : list.0 ≡ reg.next = f.0 in
    let less : reg.next + 1 ≤ top = low in
    (omega (arith, same), omega (arith, same, less))
one_given_out reg _ top some f low = tt

-- the numbers of issued lists were given out
given_out : (reg : Register) (rows : List Row) (top : ℕ) → 1 ≤ reg.next → AllFit reg rows → (registered_rows reg rows).next ≤ top → All (IsGivenOut top) rows
given_out reg [] top some f low = All-nil (IsGivenOut top)
given_out reg (r ∷ rows) top some f low =
    let more : reg.next ≤ (registered reg r).next = next_after reg r in
    let rest : (registered reg r).next ≤ (registered_rows (registered reg r) rows).next = next_rows (registered reg r) rows in
    All-cons (IsGivenOut top) r rows (one_given_out reg r top some f.0 (omega (arith, rest, low))) (given_out (registered reg r) rows top (omega (arith, some, more)) f.1 low)

-- where none is counted none passes
none_passes : (test : Row → Bool) (rows : List Row) → count_by test rows ≡ 0 → All (λ x. test x ≡ false) rows
none_passes test [] none = All-nil (λ x. test x ≡ false)
none_passes test (r ∷ rows) none =
    let next : count_by test (r ∷ rows) ≡ one_if (test r) + count_by test rows = count_by-cons test r rows in
    All-cons (λ x. test x ≡ false) r rows (fails (test r) (omega (arith, none, next))) (none_passes test rows (omega (arith, none, next)))
  where
    fails : (b : Bool) → one_if b ≡ 0 → b ≡ false
    fails true h = absurd (omega (arith, h))
    fails false h = refl

-- a row that passes is counted
is_counted : (test : Row → Bool) (rows : List Row) (r : Row) → Contains rows r → test r ≡ true → count_by test rows ≡ 0 → ⊥
is_counted test rows r here passes none = clash (test r) passes (All-contains (λ x. test x ≡ false) rows r (none_passes test rows none) here)
  where
    clash : (b : Bool) → b ≡ true → b ≡ false → ⊥
    clash b is isnt = cc

same_number : (n : ℕ) → (n == n) ≡ true
same_number n = grind (arith, nat_tests)

one_home : (rows : List Row) (list : ListNo) → IsHome rows list → count_by (is_home_of list) rows ≤ 1 → count_by (is_home_of list) rows ≡ 1
one_home rows list h most = of (cases_lt 0 (count_by (is_home_of list) rows))
  where
    of : (0 < count_by (is_home_of list) rows) ⊎ (count_by (is_home_of list) rows ≤ 0) → count_by (is_home_of list) rows ≡ 1
    of (inl some) = omega (arith, some, most)
    of (inr none) = absurd (is_counted (is_home_of list) rows (row.Home list h.owner h.status) h.here (same_number list.0) (omega (arith, none)))

-- an issued list that isn't live is home
home_of : (ls : List LiveList) (rows : List Row) (list : ListNo) → ls ≡ [] → (is_live list.0 ls ≡ true) ⊎ IsHome rows list → IsHome rows list
home_of ls rows list none (inl live) = absurd (empty_live (is_live list.0 ls) live (ap (is_live list.0) none))
  where
    empty_live : (b : Bool) → b ≡ true → b ≡ false → ⊥
    empty_live b is isnt = cc
home_of ls rows list none (inr home) = home

pub each_is_home : (head : StackHead) (turns : List Turn) → Sound head turns → lists (seen head turns).things ≡ [] → EachIsHome (rows_of turns)
each_is_home head turns s none = λ list label issued.
    let f : FitsAfter empty (rows_of turns) (seen head turns) = journal_fits head turns s in
    let given : All (IsGivenOut (registered_rows empty (rows_of turns)).next) (rows_of turns) =
    given_out empty (rows_of turns) (registered_rows empty (rows_of turns)).next (omega arith) f.fit (omega arith) in
    let number : (1 ≤ list.0) × (list.0 < (registered_rows empty (rows_of turns)).next) =
    All-contains (IsGivenOut (registered_rows empty (rows_of turns)).next) (rows_of turns) (issue_row list issued.config label) given issued.here in
    let next : (seen head turns).next.list ≡ (registered_rows empty (rows_of turns)).next = f.agrees.next in
    let stand : ListsStand head turns = lists_stand head turns s in
    one_home (rows_of turns) list
    (home_of (lists (seen head turns).things) (rows_of turns) list none (stand.all list.0 number.0 (omega (arith, next, number.1))))
    (home_once (rows_of turns) f.fit list)
