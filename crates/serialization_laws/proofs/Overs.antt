-- Each request that was issued and isn't there any more is done; so all are where the stack is Halted.
use Rattle.std.proofs.Common.{◌≡◌, ℕ, ◌+◌, ◌≤◌, ◌<◌, ◌==◌, ◌&&◌, Bool, true, false, cond, List, [], ◌∷◌, ◌++◌, Option, Some, None, option_map, find, is_some, count_by, refl, arith, ap, sym, subst, append_assoc, ◌∙◌}
use Rattle.std.specs.List.{list_all}
use Rattle.std.proofs.lemmas.Bool.Decides.{nat_tests}
use Rattle.ndis_base.specs.declared.ModuleId.TheVariants.{Miniport, Filter}
use Rattle.journal_types.specs.declared.Row.{Row}
use Rattle.journal_types.specs.declared.Row.TheVariants as row
use Rattle.journal_types.specs.declared.StackHead.{StackHead}
use Rattle.journal_types.specs.declared.Turn.{Turn}
use Rattle.stack_rules.specs.declared.Request.{Request}
use Rattle.stack_rules.specs.declared.RequestAt.TheVariants as at
use Rattle.stack_rules.specs.Net.{Net, start, told, after, after_rows, after_turn, after_turns, seen, request_of, given_to, place_of_request}
use Rattle.stack_rules.specs.Outcome.{oid_no}
use Rattle.stack_rules.specs.Sound.{SoundFrom}
use Rattle.home_laws.specs.Rows.{rows_of}
use Rattle.rule_basics.proofs.Counts.{count_by-append}
use Rattle.state_laws.specs.Shape.{IsShaped}
use Rattle.state_laws.proofs.Events.{shaped_start}
use Rattle.request_laws.proofs.Asked.{is_equal}
use Rattle.request_laws.proofs.Finds.{found_push, found_given, found_but}
use Rattle.request_laws.proofs.Rows.{found_in, IsKept, kept_start}
use Rattle.promise_rules.specs.Rows.{first_of_two, first_row}
use Rattle.promise_rules.specs.Completions.{is_done, is_completed}
use Rattle.completion_laws.proofs.Tells.{AreMute, count_one}
use Rattle.completion_laws.proofs.Steps.{itself}
use Rattle.completion_laws.proofs.Mutes.{AsksAlike, mute_after}
use Rattle.completion_laws.proofs.Sorts.{Sorts, mute, asked, done, low, on}
use Rattle.completion_laws.proofs.Events.{kept_turn, shaped_turn, sorted_turn}
use Rattle.serialization_laws.specs.Dones.{AllAreDone}

-- the requests that rows issue have lower numbers
abbrev pub AreBelow : ℕ → List Row → Type 0
AreBelow next [] = Unit {0}
AreBelow next (row.OidIssue request parent binding kind code value ∷ rows) = ((1 ≤ request.0) × (request.0 < next)) × AreBelow next rows
AreBelow next (r ∷ rows) = AreBelow next rows

-- each number that was given out is that of a request, or of one that is done
pub record AreOver (past : List Row) (found : ℕ → Option Request) (next : ℕ) : Type 0 where
  pub some : 1 ≤ next
  pub over : (n : ℕ) → 1 ≤ n → n < next → found n ≡ None → 1 ≤ count_by (is_done n) past
  pub below : AreBelow next past

below-append : (next : ℕ) (xs ys : List Row) → AreBelow next xs → AreBelow next ys → AreBelow next (xs ++ ys)
below-append next [] ys h k = k
below-append next (row.OidIssue request parent binding kind code value ∷ xs) ys h k = (h.0, below-append next xs ys h.1 k)
below-append next (row.OidGive request m ∷ xs) ys h k = below-append next xs ys h k
below-append next (row.OidDone request status value ∷ xs) ys h k = below-append next xs ys h k
below-append next (r ∷ xs) ys h k = below-append next xs ys h k

below-more : (next : ℕ) (xs : List Row) → AreBelow next xs → AreBelow (next + 1) xs
below-more next [] h = tt
below-more next (row.OidIssue request parent binding kind code value ∷ xs) h = ((h.0.0, let less = h.0.1 in omega (arith, less)), below-more next xs h.1)
below-more next (r ∷ xs) h = below-more next xs h

below_mute : (next : ℕ) (rows : List Row) → AreMute rows → AreBelow next rows
below_mute next [] h = tt
below_mute next (row.OidIssue request parent binding kind code value ∷ xs) h = cc
below_mute next (r ∷ xs) h = below_mute next xs h.1

more_done : (n : ℕ) (past rows : List Row) → 1 ≤ count_by (is_done n) past → 1 ≤ count_by (is_done n) (past ++ rows)
more_done n past rows h = let both = count_by-append (is_done n) past rows in omega (arith, both, h)

now_done : (n : ℕ) (past rows : List Row) → 1 ≤ count_by (is_done n) rows → 1 ≤ count_by (is_done n) (past ++ rows)
now_done n past rows h = let both = count_by-append (is_done n) past rows in omega (arith, both, h)

-- a request comes, at the next number
over_issued : (past rows : List Row) (found then : ℕ → Option Request) (next : ℕ) (r : Request) → AreOver past found next → ((i : ℕ) → then i ≡ cond (i == next) (Some r) (found i)) → AreBelow (next + 1) rows → AreOver (past ++ rows) then (next + 1)
over_issued past rows found then next r o is b = record {
  some = omega arith;
  over = λ n one less f. by n one less (n == next) refl (sym (is n) ∙ f);
  below = below-append (next + 1) past rows (below-more next past o.below) b;
}
  where
    some_none : (r : Request) → Some r ≡ None → ⊥
    some_none r e = cc

    lower : (n : ℕ) → n < next + 1 → (n == next) ≡ false → n < next
    lower n h k = grind (arith, nat_tests)

    by : (n : ℕ) → 1 ≤ n → n < next + 1 → (b : Bool) → (n == next) ≡ b → cond b (Some r) (found n) ≡ None → 1 ≤ count_by (is_done n) (past ++ rows)
    by n one less true t f = absurd (some_none r f)
    by n one less false t f = more_done n past rows (o.over n one (lower n less t) f)

-- a request goes, which the rows show as done
over_gone : (past rows : List Row) (found then : ℕ → Option Request) (next p : ℕ) → AreOver past found next → ((i : ℕ) → (i == p) ≡ false → then i ≡ None → found i ≡ None) → 1 ≤ count_by (is_done p) rows → AreBelow next rows → AreOver (past ++ rows) then next
over_gone past rows found then next p o is d b = record {
  some = o.some;
  over = λ n one less f. by n one less (n == p) refl f;
  below = below-append next past rows o.below b;
}
  where
    by : (n : ℕ) → 1 ≤ n → n < next → (b : Bool) → (n == p) ≡ b → then n ≡ None → 1 ≤ count_by (is_done n) (past ++ rows)
    by n one less true t f = subst (λ i. 1 ≤ count_by (is_done i) (past ++ rows)) (sym (is_equal n p t)) (now_done p past rows d)
    by n one less false t f = more_done n past rows (o.over n one less (is n t f))

map_none : (f : Request → Request) (o : Option Request) → option_map f o ≡ None → o ≡ None
map_none f None e = refl
map_none f (Some r) e = cc

abbrev pub Over : List Row → Net → Type 0
Over past net = AreOver past (found_in net) net.next.request

over_alike : (past rows : List Row) (net next : Net) → AreMute rows → AsksAlike net next → Over past net → Over (past ++ rows) next
over_alike past rows net next m s o =
    subst (λ (rs : List Request). AreOver (past ++ rows) (λ n. request_of n rs) next.next.request) (sym s.requests)
    (subst (λ n. AreOver (past ++ rows) (found_in net) n) (sym s.number)
    record { some = o.some; over = λ n one less f. more_done n past rows (o.over n one less f); below = below-append net.next.request past rows o.below (below_mute net.next.request rows m) })

over_now : (past : List Row) (net now : Net) (rows : List Row) → now ≡ net → Over (past ++ rows) (after_rows net rows) → Over (past ++ rows) (after_rows now rows)
over_now past net now rows s e = subst (λ (n : Net). Over (past ++ rows) (after_rows n rows)) (sym s) e

-- the next number is free
pub free : (net : Net) → IsKept net → found_in net net.next.request ≡ None
free net k = by (found_in net net.next.request) refl
  where
    by : (o : Option Request) → found_in net net.next.request ≡ o → o ≡ None
    by None f = refl
    by (Some r) f = let less : net.next.request < net.next.request = k.asked.below net.next.request r f in absurd (omega (arith, less))

pub over_sort : (past : List Row) (net now : Net) (rows : List Row) → IsKept net → ((rows : List Row) → AreMute rows → AsksAlike net (after_rows now rows)) → Sorts net now rows → Over past net → Over (past ++ rows) (after_rows now rows)
over_sort past net now _ k alike (mute rows h) o = over_alike past rows net (after_rows now rows) h (alike rows h) o
over_sort past net now _ k alike (asked binding kind code value s) o =
    let rows : List Row = row.OidIssue (oid_no net.next.request) None binding kind code value ∷ [] in
    let made : Request = record { request = oid_no net.next.request; parent = None; binding = binding; kind = kind; code = code; value = value; at = at.Entry } in
    over_now past net now rows s
    (over_issued past rows (found_in net) (found_in (after_rows net rows)) net.next.request made o (λ i. found_push net.requests made i (free net k)) ((o.some, omega arith), tt))
over_sort past net now _ k alike (done a first s) o =
    let finish : Row = row.OidDone a.parent a.status a.value in
    let one = count_one (is_done a.parent.0) finish true [] (itself a.parent.0) in
    over_now past net now (finish ∷ []) s
    (over_gone past (finish ∷ []) (found_in net) (found_in (after_rows net (finish ∷ []))) net.next.request a.parent.0 o
    (λ i t f. ap (λ b. cond b None (found_in net i)) (sym t) ∙ sym (found_but a.parent.0 net.requests i) ∙ f) (omega (arith, one)) tt)
over_sort past net now _ k alike (low r status value f w s) o =
    let p : ℕ = r.request.0 in
    let give : Row = row.OidGive r.request Miniport in
    let finish : Row = row.OidDone r.request status value in
    let rows : List Row = give ∷ finish ∷ [] in
    let zero = count_one (is_done p) give false (finish ∷ []) refl in
    let one = count_one (is_done p) finish true [] (itself p) in
    over_now past net now rows s
    (over_gone past rows (found_in net) (found_in (after_rows net rows)) net.next.request p o
    (λ i t f. map_none (given_to p Miniport) (found_in net i)
    (sym (found_given p Miniport net.requests i) ∙ ap (λ b. cond b None (found_in (after net give) i)) (sym t) ∙ sym (found_but p (after net give).requests i) ∙ f)) (omega (arith, zero, one)) tt)
over_sort past net now _ k alike (on r filter f w s) o =
    let p : ℕ = r.request.0 in
    let give : Row = row.OidGive r.request (Filter filter) in
    let issue : Row = row.OidIssue (oid_no net.next.request) (Some r.request) r.binding r.kind r.code r.value in
    let rows : List Row = give ∷ issue ∷ [] in
    let given : Net = after net give in
    let made : Request = record { request = oid_no net.next.request; parent = Some r.request; binding = r.binding; kind = r.kind; code = r.code; value = r.value; at = place_of_request given.modules given.requests (Some r.request) } in
    let none : request_of made.request.0 given.requests ≡ None = found_given p (Filter filter) net.requests net.next.request ∙ ap (option_map (given_to p (Filter filter))) (free net k) in
    let kept : AreOver past (found_in given) net.next.request = record { some = o.some; over = λ n one less g. o.over n one less (map_none (given_to p (Filter filter)) (found_in net n) (sym (found_given p (Filter filter) net.requests n) ∙ g)); below = o.below } in
    over_now past net now rows s
    (over_issued past rows (found_in given) (found_in (after_rows net rows)) net.next.request made kept (λ i. found_push given.requests made i none) ((o.some, omega arith), tt))

over_turns : (past : List Row) (net : Net) (turns : List Turn) → IsShaped net → IsKept net → SoundFrom net turns → Over past net → Over (past ++ rows_of turns) (after_turns net turns)
over_turns past net [] s k h o = subst (λ rows. Over rows net) (sym (nil_end past)) o
  where
    nil_end : (xs : List Row) → xs ++ [] ≡ xs
    nil_end [] = refl
    nil_end (x ∷ xs) = ap (λ rest. x ∷ rest) (nil_end xs)
over_turns past net (turn ∷ turns) s k h o =
    subst (λ rows. Over rows (after_turns (after_turn net turn) turns)) (append_assoc past turn.rows (rows_of turns))
    (over_turns (past ++ turn.rows) (after_turn net turn) turns (shaped_turn net turn s h.0) (kept_turn net turn s k h.0) h.1
    (over_sort past net (told net turn.event turn.reply) turn.rows k (λ rows q. mute_after net turn.event turn.reply rows q) (sorted_turn net turn k h.0) o))

pub over_start : (head : StackHead) → Over [] (start head)
over_start head = record { some = omega arith; over = λ n one less f. absurd (omega (arith, one, less)); below = tt }

kept_turns : (net : Net) (turns : List Turn) → IsShaped net → IsKept net → SoundFrom net turns → IsKept (after_turns net turns)
kept_turns net [] s k h = k
kept_turns net (turn ∷ turns) s k h = kept_turns (after_turn net turn) turns (shaped_turn net turn s h.0) (kept_turn net turn s k h.0) h.1

-- a row that is counted is found
none_counted : (test : Row → Bool) (rows : List Row) → find test rows ≡ None → count_by test rows ≡ 0
none_counted test [] e = refl
none_counted test (r ∷ rows) e =
    let cases : (b : Bool) → test r ≡ b → cond b (Some r) (find test rows) ≡ None → count_by test (r ∷ rows) ≡ 0 = elim [
      | true ↦ λ t f. absurd (clash r f)
      | false ↦ λ t f. let one = count_one test r false rows t in let rest = none_counted test rows f in omega (arith, one, rest)
    ] in
    cases (test r) refl e
  where
    clash : (r : Row) → Some r ≡ None → ⊥
    clash r e = cc

counted_found : (test : Row → Bool) (turns : List Turn) → 1 ≤ count_by test (rows_of turns) → is_some (first_row test turns) ≡ true
counted_found test [] h = absurd (omega (arith, h))
counted_found test (t ∷ ts) h = by (λ k. counted_found test ts k) (find test t.rows) refl
  where
    by : (1 ≤ count_by test (rows_of ts) → is_some (first_row test ts) ≡ true) → (o : Option Row) → find test t.rows ≡ o → is_some (first_of_two o (first_row test ts)) ≡ true
    by later (Some r) e = refl
    by later None e =
        let both = count_by-append test t.rows (rows_of ts) in
        let zero = none_counted test t.rows e in
        later (omega (arith, both, zero, h))

both_true : (a b : Bool) → a ≡ true → b ≡ true → (a && b) ≡ true
both_true a b h k = cc

module _ (whole : List Turn) (next : ℕ) (o : (n : ℕ) → 1 ≤ n → n < next → 1 ≤ count_by (is_done n) (rows_of whole)) where
  rows_completed : (rows later : List Row) → AreBelow next (rows ++ later) → (list_all (is_completed whole) rows ≡ true) × AreBelow next later
  rows_completed [] later h = (refl, h)
  rows_completed (row.OidIssue request parent binding kind code value ∷ rows) later h =
      let rest = rows_completed rows later h.1 in
      (both_true _ _ (counted_found (is_done request.0) whole (o request.0 h.0.0 h.0.1)) rest.0, rest.1)
  rows_completed (r ∷ rows) later h = rows_completed rows later h

  turns_completed : (turns : List Turn) → AreBelow next (rows_of turns) → list_all (λ (t : Turn). list_all (is_completed whole) t.rows) turns ≡ true
  turns_completed [] h = refl
  turns_completed (t ∷ ts) h = let one = rows_completed t.rows (rows_of ts) h in both_true _ _ one.0 (turns_completed ts one.1)

pub all_are_done : AllAreDone
all_are_done head turns s e =
    let o : Over (rows_of turns) (seen head turns) = over_turns [] (start head) turns (shaped_start head) (kept_start head) s (over_start head) in
    let k : IsKept (seen head turns) = kept_turns (start head) turns (shaped_start head) (kept_start head) s in
    turns_completed turns (seen head turns).next.request (λ n one less. o.over n one less (ap (request_of n) (k.halted e))) turns o.below
