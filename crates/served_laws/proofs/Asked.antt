-- Each request is issued by one row.
use Rattle.std.proofs.Common.{◌≡◌, ℕ, ◌+◌, ◌≤◌, ◌==◌, Bool, true, false, List, [], ◌∷◌, ◌++◌, Some, None, count_by, refl, arith, ap, sym, subst, ◌∙◌}
use Rattle.std.proofs.lemmas.Bool.Decides.{nat_tests}
use Rattle.ndis_base.specs.declared.ModuleId.TheVariants.{Miniport, Filter}
use Rattle.journal_types.specs.declared.Row.{Row}
use Rattle.journal_types.specs.declared.Row.TheVariants as row
use Rattle.journal_types.specs.declared.StackHead.{StackHead}
use Rattle.journal_types.specs.declared.Turn.{Turn}
use Rattle.stack_rules.specs.Net.{Net, start, told, after_rows, after_turn}
use Rattle.stack_rules.specs.Outcome.{oid_no}
use Rattle.stack_rules.specs.Sound.{Next}
use Rattle.rule_basics.proofs.Counts.{one_if, count_by-append}
use Rattle.promise_rules.specs.Calls.{asks}
use Rattle.request_laws.proofs.Asked.{is_equal}
use Rattle.request_laws.proofs.Rows.{IsKept}
use Rattle.completion_laws.proofs.Tells.{AreMute, IsDeaf, NonePass, none_mute, count_one, count_none}
use Rattle.completion_laws.proofs.Mutes.{AsksAlike, mute_after}
use Rattle.completion_laws.proofs.Sorts.{Sorts, mute, asked, done, low, on}
use Rattle.completion_laws.proofs.Events.{sorted_turn}

-- one row at most issues each request, and none a number from the next one on
pub record IsAskedOnce (rows : List Row) (next : ℕ) : Type 0 where
  pub once : (n : ℕ) → count_by (asks n) rows ≤ 1
  pub none : (n : ℕ) → next ≤ n → count_by (asks n) rows ≡ 0

abbrev pub AskedOnce : List Row → Net → Type 0
AskedOnce past net = IsAskedOnce past net.next.request

deaf_asks : (n : ℕ) → IsDeaf (asks n)
deaf_asks n (row.OidIssue request parent binding kind code value) h = cc
deaf_asks n _ h = refl

-- rows that issue no request
once_still : (past rows : List Row) (next : ℕ) → ((n : ℕ) → NonePass (asks n) rows) → IsAskedOnce past next → IsAskedOnce (past ++ rows) next
once_still past rows next off h = record {
  once = λ n. let same = count_none (asks n) past rows (off n) in let was = h.once n in omega (arith, same, was);
  none = λ n high. count_none (asks n) past rows (off n) ∙ h.none n high;
}

-- rows that issue the next one
once_issued : (past rows : List Row) (next : ℕ) → ((n : ℕ) → count_by (asks n) rows ≡ one_if (next == n)) → IsAskedOnce past next → IsAskedOnce (past ++ rows) (next + 1)
once_issued past rows next one h = record {
  once = λ n. by n (next == n) refl;
  none = λ n high.
      let both = count_by-append (asks n) past rows in
      let was = h.none n (omega (arith, high)) in
      let new : count_by (asks n) rows ≡ 0 = one n ∙ ap one_if (lower next n high) in
      omega (arith, both, was, new);
}
  where
    lower : (m n : ℕ) → m + 1 ≤ n → (m == n) ≡ false
    lower m n high = grind (arith, nat_tests)

    by : (n : ℕ) (b : Bool) → (next == n) ≡ b → count_by (asks n) (past ++ rows) ≤ 1
    by n true t =
        let both = count_by-append (asks n) past rows in
        let same = is_equal next n t in
        let was = h.none n (omega (arith, same)) in
        let new : count_by (asks n) rows ≡ 1 = one n ∙ ap one_if t in
        omega (arith, both, was, new)
    by n false t =
        let both = count_by-append (asks n) past rows in
        let was = h.once n in
        let new : count_by (asks n) rows ≡ 0 = one n ∙ ap one_if t in
        omega (arith, both, was, new)

once_now : (past : List Row) (net now : Net) (rows : List Row) → now ≡ net → AskedOnce (past ++ rows) (after_rows net rows) → AskedOnce (past ++ rows) (after_rows now rows)
once_now past net now rows s h = subst (λ (n : Net). AskedOnce (past ++ rows) (after_rows n rows)) (sym s) h

once_sort : (past : List Row) (net now : Net) (rows : List Row) → ((rows : List Row) → AreMute rows → AsksAlike net (after_rows now rows)) → Sorts net now rows → AskedOnce past net → AskedOnce (past ++ rows) (after_rows now rows)
once_sort past net now _ alike (mute rows q) h =
    subst (IsAskedOnce (past ++ rows)) (sym (alike rows q).number) (once_still past rows net.next.request (λ n. none_mute (asks n) (deaf_asks n) rows q) h)
once_sort past net now _ alike (asked binding kind code value s) h =
    let issue : Row = row.OidIssue (oid_no net.next.request) None binding kind code value in
    once_now past net now (issue ∷ []) s
    (once_issued past (issue ∷ []) net.next.request (λ n. let one = count_one (asks n) issue (net.next.request == n) [] refl in omega (arith, one)) h)
once_sort past net now _ alike (done a first s) h =
    let finish : Row = row.OidDone a.parent a.status a.value in
    once_now past net now (finish ∷ []) s (once_still past (finish ∷ []) net.next.request (λ n. (refl, tt)) h)
once_sort past net now _ alike (low r status value f w s) h =
    let give : Row = row.OidGive r.request Miniport in
    let finish : Row = row.OidDone r.request status value in
    once_now past net now (give ∷ finish ∷ []) s (once_still past (give ∷ finish ∷ []) net.next.request (λ n. (refl, (refl, tt))) h)
once_sort past net now _ alike (on r filter f w s) h =
    let give : Row = row.OidGive r.request (Filter filter) in
    let issue : Row = row.OidIssue (oid_no net.next.request) (Some r.request) r.binding r.kind r.code r.value in
    once_now past net now (give ∷ issue ∷ []) s
    (once_issued past (give ∷ issue ∷ []) net.next.request
    (λ n.
    let first = count_one (asks n) give false (issue ∷ []) refl in
    let one = count_one (asks n) issue (net.next.request == n) [] refl in
    omega (arith, first, one)) h)

pub once_turn : (past : List Row) (net : Net) (turn : Turn) → IsKept net → Next net turn → AskedOnce past net → AskedOnce (past ++ turn.rows) (after_turn net turn)
once_turn past net turn k n h =
    once_sort past net (told net turn.event turn.reply) turn.rows (λ rows q. mute_after net turn.event turn.reply rows q) (sorted_turn net turn k n) h

pub once_start : (head : StackHead) → AskedOnce [] (start head)
once_start head = record { once = λ n. omega arith; none = λ n high. refl }
