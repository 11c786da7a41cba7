-- Each request of a sound journal completes once at most, by its own clone.
use Rattle.std.proofs.Common.{◌≡◌, ℕ, ◌+◌, ◌≤◌, ◌==◌, ◌&&◌, Bool, true, false, cond, List, [], ◌∷◌, ◌++◌, Option, Some, None, find, count_by, refl, arith, ap, sym, append_assoc, ◌∙◌}
use Rattle.std.specs.List.{list_all}
use Rattle.std.specs.Option.{option_or}
use Rattle.std.proofs.lemmas.Bool.Decides.{nat_tests}
use Rattle.std.proofs.lemmas.List.Folds.{find-append}
use Rattle.std.proofs.lemmas.List.Sums.{sum_by-cons}
use Rattle.ndis_base.specs.declared.ModuleId.TheVariants.{Miniport, Filter}
use Rattle.ndis_base.specs.declared.OidNo.{OidNo}
use Rattle.journal_types.specs.declared.Row.{Row}
use Rattle.journal_types.specs.declared.Row.TheVariants as row
use Rattle.journal_types.specs.declared.Turn.{Turn}
use Rattle.stack_rules.specs.Net.{Net, start, told, after_turn}
use Rattle.stack_rules.specs.Sound.{SoundFrom}
use Rattle.home_laws.specs.Rows.{rows_of}
use Rattle.rule_basics.proofs.Counts.{count_by-append}
use Rattle.state_laws.specs.Shape.{IsShaped}
use Rattle.state_laws.proofs.Events.{shaped_start}
use Rattle.request_laws.proofs.Rows.{IsKept, kept_start}
use Rattle.promise_rules.specs.Rows.{first_of_two, first_row, count_rows}
use Rattle.promise_rules.specs.Completions.{is_done, is_clone, gives, done_of, clone_in, same_answer, same_answer_as, is_answered}
use Rattle.completion_laws.specs.Completed.{EachCompletesOnce}
use Rattle.completion_laws.proofs.Tells.{gives_low, gives_on, clone_of, done_in, answer_same, AreMute, is_mute, count_one, zero_find}
use Rattle.completion_laws.proofs.Ends.{Tally}
use Rattle.completion_laws.proofs.Steps.{itself}
use Rattle.completion_laws.proofs.Sorts.{Sorts, mute, asked, done, low, on}
use Rattle.completion_laws.proofs.Events.{ended_journal, sorted_turn, kept_turn, shaped_turn}

-- counts and finds over turns are those over their rows
rows_counted : (test : Row → Bool) (turns : List Turn) → count_rows test turns ≡ count_by test (rows_of turns)
rows_counted test [] = refl
rows_counted test (t ∷ ts) =
    let whole = sum_by-cons (λ (t : Turn). count_by test t.rows) t ts in
    let both = count_by-append test t.rows (rows_of ts) in
    let rest = rows_counted test ts in
    omega (arith, whole, both, rest)

or_first : (a b : Option Row) → first_of_two a b ≡ option_or a b
or_first None b = refl
or_first (Some r) b = refl

rows_found : (test : Row → Bool) (turns : List Turn) → first_row test turns ≡ find test (rows_of turns)
rows_found test [] = refl
rows_found test (t ∷ ts) = or_first (find test t.rows) (first_row test ts) ∙ ap (λ o. option_or (find test t.rows) o) (rows_found test ts) ∙ sym (find-append test t.rows (rows_of ts))

answers_alike : (turns : List Turn) (o : Option Row) (clone : Option ℕ) → same_answer turns o clone ≡ answer_same (rows_of turns) o clone
answers_alike turns None clone = refl
answers_alike turns (Some (row.OidDone request status value)) None = refl
answers_alike turns (Some (row.OidDone request status value)) (Some c) = ap (same_answer_as status value) (rows_found (is_done c) turns)
answers_alike turns (Some r) clone = refl

equals : (n m : ℕ) → n ≡ m → (n == m) ≡ true
equals n m h = grind (arith, nat_tests)

all_three : (a b c : Bool) → a ≡ true → b ≡ true → c ≡ true → (a && (b && c)) ≡ true
all_three a b c h k l = cc

both_true : (a b : Bool) → a ≡ true → b ≡ true → (a && b) ≡ true
both_true a b h k = cc

-- the rows of a turn among all rows
pub record IsAmong (whole : List Turn) (rows : List Row) : Type 0 where
  pub before : List Row
  pub after : List Row
  pub are : rows_of whole ≡ before ++ (rows ++ after)

among_count : (test : Row → Bool) (whole : List Turn) (rows : List Row) (a : IsAmong whole rows) → count_by test (rows_of whole) ≡ count_by test a.before + (count_by test rows + count_by test a.after)
among_count test whole rows a =
    let all = ap (count_by test) a.are in
    let outer = count_by-append test a.before (rows ++ a.after) in
    let inner = count_by-append test rows a.after in
    omega (arith, all, outer, inner)

-- what is found in the rows is found first where it is there once
among_find : (test : Row → Bool) (whole : List Turn) (rows : List Row) (r : Row) (a : IsAmong whole rows) → count_by test (rows_of whole) ≡ 1 → count_by test rows ≡ 1 → find test rows ≡ Some r → find test (rows_of whole) ≡ Some r
among_find test whole rows r a once here f =
    let counted = among_count test whole rows a in
    let none : find test a.before ≡ None = zero_find test a.before (omega (arith, counted, once, here)) in
    ap (find test) a.are
    ∙ find-append test a.before (rows ++ a.after)
    ∙ ap (λ o. option_or o (find test (rows ++ a.after))) none
    ∙ find-append test rows a.after
    ∙ ap (λ o. option_or o (find test a.after)) f

module _ (whole : List Turn) (tally : (n : ℕ) → Tally (rows_of whole) n) (same : (n : ℕ) → answer_same (rows_of whole) (done_in n (rows_of whole)) (clone_of n (rows_of whole)) ≡ true) where
  -- a request that is done is done and given once
  done_once : (p : OidNo) (rows : List Row) → IsAmong whole rows → 1 ≤ count_by (is_done p.0) rows → (count_rows (is_done p.0) whole == 1 && count_rows (gives p.0) whole == 1) ≡ true
  done_once p rows a h =
      let t : Tally (rows_of whole) p.0 = tally p.0 in
      let d = among_count (is_done p.0) whole rows a in
      let dc = rows_counted (is_done p.0) whole in
      let gc = rows_counted (gives p.0) whole in
      both_true _ _ (equals (count_rows (is_done p.0) whole) 1 (omega (arith, d, dc, h, t.done, t.once))) (equals (count_rows (gives p.0) whole) 1 (omega (arith, d, gc, h, t.done, t.once)))

  mute_one : (rows : List Row) (r : Row) → is_mute r ≡ true → is_answered whole rows r ≡ true
  mute_one rows (row.OidGive request m) h = cc
  mute_one rows (row.OidDone request status value) h = cc
  mute_one rows _ h = refl

  mute_all : (rows some : List Row) → AreMute some → list_all (is_answered whole rows) some ≡ true
  mute_all rows [] h = refl
  mute_all rows (r ∷ some) h = both_true _ _ (mute_one rows r h.0) (mute_all rows some h.1)

  by_sort : (net now : Net) (rows : List Row) → IsAmong whole rows → Sorts net now rows → list_all (is_answered whole rows) rows ≡ true
  by_sort net now _ a (mute rows h) = mute_all rows rows h
  by_sort net now _ a (asked binding kind code value s) = refl
  by_sort net now _ a (done given first s) =
      let finish : Row = row.OidDone given.parent given.status given.value in
      let one = count_one (is_done given.parent.0) finish true [] (itself given.parent.0) in
      both_true _ _ (done_once given.parent (finish ∷ []) a (omega (arith, one))) refl
  by_sort net now _ a (low r status value f w s) =
      let give : Row = row.OidGive r.request Miniport in
      let finish : Row = row.OidDone r.request status value in
      let rows : List Row = give ∷ finish ∷ [] in
      let p : ℕ = r.request.0 in
      let t : Tally (rows_of whole) p = tally p in
      let d1 = count_one (is_done p) give false (finish ∷ []) refl in
      let d2 = count_one (is_done p) finish true [] (itself p) in
      let l1 = count_one (gives_low p) give true (finish ∷ []) (itself p) in
      let l = among_count (gives_low p) whole rows a in
      let c = rows_counted (is_clone p) whole in
      both_true _ _
      (both_true _ _ (equals (count_by (is_done p) rows) 1 (omega (arith, d1, d2))) (equals (count_rows (is_clone p) whole) 0 (omega (arith, c, l, l1, t.once, t.clones, t.either))))
      (both_true _ _ (done_once r.request rows a (omega (arith, d1, d2))) refl)
  by_sort net now _ a (on r filter f w s) =
      let give : Row = row.OidGive r.request (Filter filter) in
      let issue : Row = row.OidIssue _ (Some r.request) r.binding r.kind r.code r.value in
      let rows : List Row = give ∷ issue ∷ [] in
      let p : ℕ = r.request.0 in
      let t : Tally (rows_of whole) p = tally p in
      let c1 = count_one (is_clone p) give false (issue ∷ []) refl in
      let c2 = count_one (is_clone p) issue true [] (itself p) in
      let o1 = count_one (gives_on p) give true (issue ∷ []) (itself p) in
      let o = among_count (gives_on p) whole rows a in
      let c = rows_counted (is_clone p) whole in
      let here : count_by (is_clone p) rows ≡ 1 = omega (arith, c1, c2) in
      let once : count_by (is_clone p) (rows_of whole) ≡ 1 = omega (arith, o, o1, t.once, t.clones, t.either, among_count (is_clone p) whole rows a, here) in
      let found : find (is_clone p) rows ≡ Some issue = ap (λ b. cond b (Some issue) None) (itself p) in
      let clone : clone_of p (rows_of whole) ≡ clone_in (find (is_clone p) rows) = ap clone_in (among_find (is_clone p) whole rows issue a once here found ∙ sym found) in
      let answer : same_answer whole (done_of whole p) (clone_in (find (is_clone p) rows)) ≡ true =
      answers_alike whole (done_of whole p) (clone_in (find (is_clone p) rows))
      ∙ ap (λ x. answer_same (rows_of whole) x (clone_in (find (is_clone p) rows))) (rows_found (is_done p) whole)
      ∙ ap (λ x. answer_same (rows_of whole) (done_in p (rows_of whole)) x) (sym clone)
      ∙ same p in
      both_true _ _ (all_three _ _ _ (equals (count_by (is_clone p) rows) 1 here) (equals (count_rows (is_clone p) whole) 1 (c ∙ once)) answer) refl

  each_answered : (past : List Row) (net : Net) (turns : List Turn) → rows_of whole ≡ past ++ rows_of turns → IsShaped net → IsKept net → SoundFrom net turns → list_all (λ (t : Turn). list_all (is_answered whole t.rows) t.rows) turns ≡ true
  each_answered past net [] e s k h = refl
  each_answered past net (turn ∷ turns) e s k h =
      both_true _ _
      (by_sort net (told net turn.event turn.reply) turn.rows (record { before = past; after = rows_of turns; are = e }) (sorted_turn net turn k h.0))
      (each_answered (past ++ turn.rows) (after_turn net turn) turns (e ∙ sym (append_assoc past turn.rows (rows_of turns))) (shaped_turn net turn s h.0) (kept_turn net turn s k h.0) h.1)

pub each_completes_once : EachCompletesOnce
each_completes_once head turns h =
    let e = ended_journal head turns h in
    each_answered turns e.tally e.same [] (start head) turns refl (shaped_start head) (kept_start head) h
