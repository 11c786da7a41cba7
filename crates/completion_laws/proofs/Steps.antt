-- What is kept of the ends of requests, after the rows of a turn: a request is asked, answered, given to the
-- miniport or forwarded by a filter.
use Rattle.std.proofs.Common.{◌≡◌, ℕ, ◌+◌, ◌≤◌, ◌<◌, ◌==◌, ◌&&◌, Bool, true, false, cond, List, [], ◌∷◌, ◌++◌, Option, Some, None, option_map, ◌⊎◌, inl, inr, count_by, refl, arith, ap, sym, subst, ◌∙◌}
use Rattle.std.specs.Str.{bytes_eq}
use Rattle.std.proofs.lemmas.Bool.Decides.{nat_tests}
use Rattle.std.proofs.lemmas.Slice.Eq.{bytes_eq-Decides}
use Rattle.ndis_base.specs.declared.ModuleId.{ModuleId}
use Rattle.ndis_base.specs.declared.ModuleId.TheVariants.{Miniport, Filter}
use Rattle.ndis_base.specs.declared.OidKind.{OidKind}
use Rattle.ndis_base.specs.declared.OidNo.{OidNo}
use Rattle.ndis_base.specs.declared.OidStatus.{OidStatus}
use Rattle.ndis_base.specs.declared.OidStatus.TheVariants as oid_status
use Rattle.journal_types.specs.declared.Row.{Row}
use Rattle.journal_types.specs.declared.Row.TheVariants as row
use Rattle.stack_rules.specs.declared.Answered.{Answered}
use Rattle.stack_rules.specs.declared.Request.{Request}
use Rattle.stack_rules.specs.declared.RequestAt.TheVariants as at
use Rattle.stack_rules.specs.Net.{given_to}
use Rattle.rule_basics.proofs.Counts.{count_by-append}
use Rattle.request_laws.proofs.Asked.{Each, Each-implies, Each-append, Each-but, answers_but, some_same, none_some, is_equal}
use Rattle.request_laws.proofs.Answers.{answer_of}
use Rattle.promise_rules.specs.Completions.{is_done, is_clone, gives, clone_in, same_oid_status, same_answer_as}
use Rattle.completion_laws.proofs.Tells.{gives_low, gives_on, clone_of, done_in, answer_same, count_one, count_none, zero_find, find_none, find_new, clone_stays}
use Rattle.completion_laws.proofs.Ends.{Tally, IsGivenAs, IsThere, IsTold, Ends, told_stays, AreOff, off_tally, off_there, off_same}

pub itself : (n : ℕ) → (n == n) ≡ true
itself n = grind (arith, nat_tests)

-- one more request, under a number
issued : (n next : ℕ) (r q : Request) (o : Option Request) → cond (n == next) (Some r) o ≡ Some q → ((n ≡ next) × (r ≡ q)) ⊎ (o ≡ Some q)
issued n next r q o e = cases (n == next) refl e
  where
    cases : (b : Bool) → (n == next) ≡ b → cond b (Some r) o ≡ Some q → ((n ≡ next) × (r ≡ q)) ⊎ (o ≡ Some q)
    cases true t f = inl (is_equal n next t, some_same r q f)
    cases false t f = inr f

-- a number that isn't given yet
fresh : (past : List Row) (n : ℕ) → Tally past n → count_by (gives n) past ≡ 0 → count_by (is_done n) past ≡ 0
fresh past n t h = omega (arith, t.done, h)

-- a binding's request waits at the entry
pub ends_asked : (past : List Row) (found next_found : ℕ → Option Request) (answers : List Answered) (next : ℕ) (r : Request) → Ends past found answers next → r.at ≡ at.Entry → r.parent ≡ None → ((i : ℕ) → next_found i ≡ cond (i == next) (Some r) (found i)) → Ends past next_found answers (next + 1)
ends_asked past found next_found answers next r e entry root looks = record {
  tally = e.tally;
  there = λ n q f. there n q (cases n q f);
  below = λ n q f. below n q (cases n q f);
  new = λ n h. e.new n (omega (arith, h));
  clone = λ n q g f p. clone n q g (cases n q f) p;
  told = e.told;
  same = e.same;
}
  where
    cases : (n : ℕ) (q : Request) → next_found n ≡ Some q → ((n ≡ next) × (r ≡ q)) ⊎ (found n ≡ Some q)
    cases n q f = issued n next r q (found n) (sym (looks n) ∙ f)

    there : (n : ℕ) (q : Request) → ((n ≡ next) × (r ≡ q)) ⊎ (found n ≡ Some q) → IsThere past n q.at
    there n q (inl same) =
        let none : count_by (gives n) past ≡ 0 = e.new n (omega (arith, same.0)) in
        let now : IsThere past n at.Entry = record { done = fresh past n (e.tally n) none; given = none } in
        subst (IsThere past n) (sym entry ∙ ap (λ (x : Request). x.at) same.1) now
    there n q (inr f) = e.there n q f

    below : (n : ℕ) (q : Request) → ((n ≡ next) × (r ≡ q)) ⊎ (found n ≡ Some q) → n < next + 1
    below n q (inl same) = omega (arith, same.0)
    below n q (inr f) = let low = e.below n q f in omega (arith, low)

    clone : (n : ℕ) (q : Request) (g : OidNo) → ((n ≡ next) × (r ≡ q)) ⊎ (found n ≡ Some q) → q.parent ≡ Some g → clone_of g.0 past ≡ Some n
    clone n q g (inl same) p = absurd (none_some g (sym root ∙ ap (λ (x : Request). x.parent) same.1 ∙ p))
    clone n q g (inr f) p = e.clone n q g f p

answer_itself : (status : OidStatus) (value : List ℕ) → (same_oid_status status status && bytes_eq value value) ≡ true
answer_itself status value = ap (λ b. b && bytes_eq value value) (by status) ∙ grind (arith, bytes_eq-Decides value value)
  where
    by : (status : OidStatus) → same_oid_status status status ≡ true
    by oid_status.Success = refl
    by oid_status.NotSupported = refl
    by oid_status.BadLength = refl

other : (p n next : ℕ) → p < next → next ≤ n → (p == n) ≡ false
other p n next h k = grind (arith, nat_tests)

-- a request is done
ends_done : (past rows : List Row) (found next_found : ℕ → Option Request) (answers : List Answered) (next : ℕ) (p : OidNo) (status : OidStatus) (value : List ℕ) (r : Request) → Ends past found answers next → found p.0 ≡ Some r →
    ((n : ℕ) → (p.0 == n) ≡ false → AreOff rows n) → Tally (past ++ rows) p.0 → done_in p.0 (past ++ rows) ≡ Some (row.OidDone p status value) → answer_same (past ++ rows) (done_in p.0 (past ++ rows)) (clone_of p.0 (past ++ rows)) ≡ true →
    ((i : ℕ) (q : Request) → next_found i ≡ Some q → ((p.0 == i) ≡ false) × (found i ≡ Some q)) → Ends (past ++ rows) next_found (answers_but p.0 answers ++ answer_of r.parent p status value) next
ends_done past rows found next_found answers next p status value r e here off tally done same left = record {
  tally = λ n. at_each (Tally (past ++ rows)) n tally (λ t. off_tally past rows n (off n t) (e.tally n));
  there = λ n q f. let l = left n q f in off_there past rows n q.at (off n l.0) (e.there n q l.1);
  below = λ n q f. e.below n q (left n q f).1;
  new = λ n h. let low = e.below p.0 r here in count_none (gives n) past rows (off n (other p.0 n next low h)).gives ∙ e.new n h;
  clone = λ n q g f k. clone_stays g.0 n past rows (e.clone n q g (left n q f).1 k);
  told = Each-append (IsTold (past ++ rows)) (answers_but p.0 answers) (answer_of r.parent p status value)
      (Each-but (IsTold past) (IsTold (past ++ rows)) p.0 (λ a t h. told_stays past rows a h) answers e.told) (answer r.parent refl);
  same = λ n. at_each (λ i. answer_same (past ++ rows) (done_in i (past ++ rows)) (clone_of i (past ++ rows)) ≡ true) n same (λ t. off_same past rows n (off n t) (e.same n));
}
  where
    at_each : (P : ℕ → Type 0) (n : ℕ) → P p.0 → ((p.0 == n) ≡ false → P n) → P n
    at_each P n h f = cases (p.0 == n) refl
      where
        cases : (b : Bool) → (p.0 == n) ≡ b → P n
        cases true t = subst P (is_equal p.0 n t) h
        cases false t = f t

    answer : (o : Option OidNo) → r.parent ≡ o → Each (IsTold (past ++ rows)) (answer_of o p status value)
    answer None k = tt
    answer (Some g) k = (record { clone = clone_stays g.0 p.0 past rows (e.clone p.0 r g here k); answer = ap (same_answer_as status value) done ∙ answer_itself status value }, tt)

-- the original is done with the answer of its clone
pub ends_answered : (past : List Row) (found next_found : ℕ → Option Request) (answers : List Answered) (next : ℕ) (a : Answered) (r : Request) (m : ModuleId) → Ends past found answers next → IsTold past a → found a.parent.0 ≡ Some r → r.at ≡ at.Given m →
    ((i : ℕ) (q : Request) → next_found i ≡ Some q → ((a.parent.0 == i) ≡ false) × (found i ≡ Some q)) → Ends (past ++ row.OidDone a.parent a.status a.value ∷ []) next_found (answers_but a.parent.0 answers ++ answer_of r.parent a.parent a.status a.value) next
ends_answered past found next_found answers next a r m e told here given left =
    let p : OidNo = a.parent in
    let rows : List Row = row.OidDone p a.status a.value ∷ [] in
    let t : Tally past p.0 = e.tally p.0 in
    let there : IsThere past p.0 (at.Given m) = subst (IsThere past p.0) given (e.there p.0 r here) in
    let g = count_none (gives p.0) past rows (refl, tt) in
    let l = count_none (gives_low p.0) past rows (refl, tt) in
    let f = count_none (gives_on p.0) past rows (refl, tt) in
    let c = count_none (is_clone p.0) past rows (refl, tt) in
    let d = count_by-append (is_done p.0) past rows in
    let one = count_one (is_done p.0) (row.OidDone p a.status a.value) true [] (itself p.0) in
    let was = there.done in
    let once = there.given in
    let done : done_in p.0 (past ++ rows) ≡ Some (row.OidDone p a.status a.value) =
    find_new (is_done p.0) past rows (zero_find (is_done p.0) past there.done) ∙ ap (λ b. cond b (Some (row.OidDone p a.status a.value)) None) (itself p.0) in
    let now : IsTold (past ++ rows) a = told_stays past rows a told in
    ends_done past rows found next_found answers next p a.status a.value r e here
    (λ n t. record { gives = (refl, tt); low = (refl, tt); on = (refl, tt); done = (t, tt); clone = (refl, tt) })
    record {
      once = omega (arith, g, t.once);
      done = omega (arith, g, d, one, was, once);
      clones = omega (arith, c, f, t.clones);
      either = omega (arith, g, l, f, t.either);
    }
    done
    (ap (λ x. answer_same (past ++ rows) x (clone_of p.0 (past ++ rows))) done ∙ ap (λ x. answer_same (past ++ rows) (Some (row.OidDone p a.status a.value)) x) now.clone ∙ now.answer)
    left

-- the miniport answers a request that it is given
pub ends_low : (past : List Row) (found next_found : ℕ → Option Request) (answers : List Answered) (next : ℕ) (p : OidNo) (status : OidStatus) (value : List ℕ) (r : Request) → Ends past found answers next → found p.0 ≡ Some r → count_by (gives p.0) past ≡ 0 →
    ((i : ℕ) (q : Request) → next_found i ≡ Some q → ((p.0 == i) ≡ false) × (found i ≡ Some q)) → Ends (past ++ row.OidGive p Miniport ∷ row.OidDone p status value ∷ []) next_found (answers_but p.0 answers ++ answer_of r.parent p status value) next
ends_low past found next_found answers next p status value r e here waits left =
    let give : Row = row.OidGive p Miniport in
    let finish : Row = row.OidDone p status value in
    let rows : List Row = give ∷ finish ∷ [] in
    let t : Tally past p.0 = e.tally p.0 in
    let g = count_by-append (gives p.0) past rows in
    let g1 = count_one (gives p.0) give true (finish ∷ []) (itself p.0) in
    let g2 = count_one (gives p.0) finish false [] refl in
    let l = count_by-append (gives_low p.0) past rows in
    let l1 = count_one (gives_low p.0) give true (finish ∷ []) (itself p.0) in
    let l2 = count_one (gives_low p.0) finish false [] refl in
    let f = count_none (gives_on p.0) past rows (refl, (refl, tt)) in
    let c = count_none (is_clone p.0) past rows (refl, (refl, tt)) in
    let d = count_by-append (is_done p.0) past rows in
    let d1 = count_one (is_done p.0) give false (finish ∷ []) refl in
    let d2 = count_one (is_done p.0) finish true [] (itself p.0) in
    let was : count_by (is_done p.0) past ≡ 0 = fresh past p.0 t waits in
    let done : done_in p.0 (past ++ rows) ≡ Some finish =
    find_new (is_done p.0) past rows (zero_find (is_done p.0) past was) ∙ ap (λ b. cond b (Some finish) None) (itself p.0) in
    let unforwarded : count_by (is_clone p.0) past ≡ 0 = omega (arith, t.clones, t.either, waits) in
    let clone : clone_of p.0 (past ++ rows) ≡ None = ap clone_in (find_none (is_clone p.0) past rows (refl, (refl, tt)) ∙ zero_find (is_clone p.0) past unforwarded) in
    ends_done past rows found next_found answers next p status value r e here
    (λ n t. record { gives = (t, (refl, tt)); low = (t, (refl, tt)); on = (refl, (refl, tt)); done = (refl, (t, tt)); clone = (refl, (refl, tt)) })
    record {
      once = omega (arith, g, g1, g2, waits);
      done = omega (arith, g, g1, g2, d, d1, d2, was, waits);
      clones = omega (arith, c, f, t.clones);
      either = omega (arith, g, g1, g2, l, l1, l2, f, t.either);
    }
    done
    (ap (λ x. answer_same (past ++ rows) x (clone_of p.0 (past ++ rows))) done ∙ ap (λ x. answer_same (past ++ rows) (Some finish) x) clone)
    left

-- a request that is given to a module, and another one
given_here : (p : ℕ) (m : ModuleId) (q : Request) → (q.request.0 == p) ≡ true → (given_to p m q).at ≡ at.Given m
given_here p m q t = ap (λ b. (cond b (record q { at = at.Given m }) q).at) t

given_other : (p : ℕ) (m : ModuleId) (q : Request) → (q.request.0 == p) ≡ false → given_to p m q ≡ q
given_other p m q t = ap (λ b. cond b (record q { at = at.Given m }) q) t

parent_given : (p : ℕ) (m : ModuleId) (q : Request) → (given_to p m q).parent ≡ q.parent
parent_given p m q = elim (q.request.0 == p) as (λ b. (cond b (record q { at = at.Given m }) q).parent ≡ q.parent) [ true ↦ refl | false ↦ refl ]

-- a filter forwards a request that it is given by a clone
pub ends_on : (past : List Row) (found next_found : ℕ → Option Request) (answers : List Answered) (next : ℕ) (p clone : OidNo) (filter : ℕ) (binding : ℕ) (kind : OidKind) (code : ℕ) (value : List ℕ) (r made : Request) → Ends past found answers next → found p.0 ≡ Some r → count_by (gives p.0) past ≡ 0 →
    clone.0 ≡ next → made.parent ≡ Some p → IsGivenAs made.at 0 → ((i : ℕ) (q : Request) → found i ≡ Some q → q.request.0 ≡ i) → ((i : ℕ) → next_found i ≡ cond (i == next) (Some made) (option_map (given_to p.0 (Filter filter)) (found i))) →
    Ends (past ++ row.OidGive p (Filter filter) ∷ row.OidIssue clone (Some p) binding kind code value ∷ []) next_found answers (next + 1)
ends_on past found next_found answers next p clone filter binding kind code value r made e here waits number parent waiting named looks = record {
  tally = λ n. at_each (Tally now) n tally (λ t. off_tally past rows n (off n t) (e.tally n));
  there = λ n q f. there n q (cases n q f);
  below = λ n q f. below n q (cases n q f);
  new = λ n h. count_none (gives n) past rows (off n (other p.0 n next low (omega (arith, h)))).gives ∙ e.new n (omega (arith, h));
  clone = λ n q g f k. cloned n q g (cases n q f) k;
  told = Each-implies (IsTold past) (IsTold now) (λ a h. told_stays past rows a h) answers e.told;
  same = λ n. at_each (λ i. answer_same now (done_in i now) (clone_of i now) ≡ true) n (ap (λ x. answer_same now x (clone_of p.0 now)) undone) (λ t. off_same past rows n (off n t) (e.same n));
}
  where
    give : Row
    give = row.OidGive p (Filter filter)

    issue : Row
    issue = row.OidIssue clone (Some p) binding kind code value

    rows : List Row
    rows = give ∷ issue ∷ []

    now : List Row
    now = past ++ rows

    low : p.0 < next
    low = e.below p.0 r here

    off : (n : ℕ) → (p.0 == n) ≡ false → AreOff rows n
    off n t = record { gives = (t, (refl, tt)); low = (refl, (refl, tt)); on = (t, (refl, tt)); done = (refl, (refl, tt)); clone = (refl, (t, tt)) }

    was : count_by (is_done p.0) past ≡ 0
    was = fresh past p.0 (e.tally p.0) waits

    unforwarded : count_by (is_clone p.0) past ≡ 0
    unforwarded = let t = e.tally p.0 in omega (arith, t.clones, t.either, waits)

    tally : Tally now p.0
    tally =
        let t : Tally past p.0 = e.tally p.0 in
        let g = count_by-append (gives p.0) past rows in
        let g1 = count_one (gives p.0) give true (issue ∷ []) (itself p.0) in
        let g2 = count_one (gives p.0) issue false [] refl in
        let l = count_none (gives_low p.0) past rows (refl, (refl, tt)) in
        let f = count_by-append (gives_on p.0) past rows in
        let f1 = count_one (gives_on p.0) give true (issue ∷ []) (itself p.0) in
        let f2 = count_one (gives_on p.0) issue false [] refl in
        let c = count_by-append (is_clone p.0) past rows in
        let c1 = count_one (is_clone p.0) give false (issue ∷ []) refl in
        let c2 = count_one (is_clone p.0) issue true [] (itself p.0) in
        let d = count_none (is_done p.0) past rows (refl, (refl, tt)) in
        record {
          once = omega (arith, g, g1, g2, waits);
          done = omega (arith, d, was);
          clones = omega (arith, c, c1, c2, f, f1, f2, t.clones);
          either = omega (arith, g, g1, g2, l, f, f1, f2, t.either);
        }

    undone : done_in p.0 now ≡ None
    undone = find_none (is_done p.0) past rows (refl, (refl, tt)) ∙ zero_find (is_done p.0) past was

    at_each : (P : ℕ → Type 0) (n : ℕ) → P p.0 → ((p.0 == n) ≡ false → P n) → P n
    at_each P n h f = cases (p.0 == n) refl
      where
        cases : (b : Bool) → (p.0 == n) ≡ b → P n
        cases true t = subst P (is_equal p.0 n t) h
        cases false t = f t

    -- the clone, or a request that was there
    cases : (n : ℕ) (q : Request) → next_found n ≡ Some q → ((n ≡ next) × (made ≡ q)) ⊎ (option_map (given_to p.0 (Filter filter)) (found n) ≡ Some q)
    cases n q f = issued n next made q (option_map (given_to p.0 (Filter filter)) (found n)) (sym (looks n) ∙ f)

    apart : (n : ℕ) → n ≡ next → (p.0 == n) ≡ false
    apart n h = other p.0 n next low (omega (arith, h))

    there : (n : ℕ) (q : Request) → ((n ≡ next) × (made ≡ q)) ⊎ (option_map (given_to p.0 (Filter filter)) (found n) ≡ Some q) → IsThere now n q.at
    there n q (inl same) =
        let none : count_by (gives n) past ≡ 0 = e.new n (omega (arith, same.0)) in
        let o : AreOff rows n = off n (apart n same.0) in
        let given : count_by (gives n) now ≡ 0 = count_none (gives n) past rows o.gives ∙ none in
        let first : IsThere now n made.at = record {
          done = count_none (is_done n) past rows o.done ∙ fresh past n (e.tally n) none;
          given = subst (IsGivenAs made.at) (sym given) waiting;
        } in
        subst (λ (x : Request). IsThere now n x.at) same.1 first
    there n q (inr f) = by (found n) refl f
      where
        by : (o : Option Request) → found n ≡ o → option_map (given_to p.0 (Filter filter)) o ≡ Some q → IsThere now n q.at
        by None k f = absurd (none_some q f)
        by (Some old) k f = at_number (p.0 == n) refl
          where
            is_now : given_to p.0 (Filter filter) old ≡ q
            is_now = some_same (given_to p.0 (Filter filter) old) q f

            turned : (b : Bool) → (p.0 == n) ≡ b → (old.request.0 == p.0) ≡ b
            turned b t = let name : old.request.0 ≡ n = named n old k in ap (λ i. i == p.0) name ∙ swap n p.0 ∙ t
              where
                swap : (i j : ℕ) → (i == j) ≡ (j == i)
                swap i j = grind (arith, nat_tests)

            at_number : (b : Bool) → (p.0 == n) ≡ b → IsThere now n q.at
            at_number true t =
                let g = count_by-append (gives p.0) past rows in
                let g1 = count_one (gives p.0) give true (issue ∷ []) (itself p.0) in
                let g2 = count_one (gives p.0) issue false [] refl in
                let d = count_none (is_done p.0) past rows (refl, (refl, tt)) in
                let first : IsThere now p.0 (at.Given (Filter filter)) = record { done = d ∙ was; given = omega (arith, g, g1, g2, waits) } in
                subst (λ i. IsThere now i q.at) (is_equal p.0 n t)
                (subst (IsThere now p.0) (sym (given_here p.0 (Filter filter) old (turned true t)) ∙ ap (λ (x : Request). x.at) is_now) first)
            at_number false t =
                let same : old ≡ q = sym (given_other p.0 (Filter filter) old (turned false t)) ∙ is_now in
                subst (λ (x : Request). IsThere now n x.at) same (off_there past rows n old.at (off n t) (e.there n old k))

    below : (n : ℕ) (q : Request) → ((n ≡ next) × (made ≡ q)) ⊎ (option_map (given_to p.0 (Filter filter)) (found n) ≡ Some q) → n < next + 1
    below n q (inl same) = omega (arith, same.0)
    below n q (inr f) = by (found n) refl f
      where
        by : (o : Option Request) → found n ≡ o → option_map (given_to p.0 (Filter filter)) o ≡ Some q → n < next + 1
        by None k f = absurd (none_some q f)
        by (Some old) k f = let lower = e.below n old k in omega (arith, lower)

    cloned : (n : ℕ) (q : Request) (g : OidNo) → ((n ≡ next) × (made ≡ q)) ⊎ (option_map (given_to p.0 (Filter filter)) (found n) ≡ Some q) → q.parent ≡ Some g → clone_of g.0 now ≡ Some n
    cloned n q g (inl same) k =
        let own : p ≡ g = some_oid p g (sym parent ∙ ap (λ (x : Request). x.parent) same.1 ∙ k) in
        let first : clone_of p.0 now ≡ Some clone.0 =
        ap clone_in (find_new (is_clone p.0) past rows (zero_find (is_clone p.0) past unforwarded) ∙ ap (λ b. cond b (Some issue) None) (itself p.0)) in
        let name : clone.0 ≡ n = number ∙ sym same.0 in
        ap (λ (x : OidNo). clone_of x.0 now) (sym own) ∙ first ∙ ap (λ i. Some i) name
      where
        some_oid : (x y : OidNo) → Some x ≡ Some y → x ≡ y
        some_oid x y e = cc
    cloned n q g (inr f) k = by (found n) refl f
      where
        by : (o : Option Request) → found n ≡ o → option_map (given_to p.0 (Filter filter)) o ≡ Some q → clone_of g.0 now ≡ Some n
        by None h f = absurd (none_some q f)
        by (Some old) h f =
            let same : old.parent ≡ Some g = sym (parent_given p.0 (Filter filter) old) ∙ ap (λ (x : Request). x.parent) (some_same (given_to p.0 (Filter filter) old) q f) ∙ k in
            clone_stays g.0 n past rows (e.clone n old g h same)
