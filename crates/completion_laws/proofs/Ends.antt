-- What is kept of the ends of requests.
use Rattle.std.proofs.Common.{◌≡◌, ℕ, ◌+◌, ◌≤◌, ◌<◌, true, List, ◌++◌, Option, Some, count_by, arith, ap, sym, subst, ◌∙◌}
use Rattle.ndis_base.specs.declared.OidNo.{OidNo}
use Rattle.journal_types.specs.declared.Row.{Row}
use Rattle.stack_rules.specs.declared.Answered.{Answered}
use Rattle.stack_rules.specs.declared.Request.{Request}
use Rattle.stack_rules.specs.declared.RequestAt.{RequestAt}
use Rattle.stack_rules.specs.declared.RequestAt.TheVariants as at
use Rattle.request_laws.proofs.Asked.{Each, Each-implies}
use Rattle.promise_rules.specs.Completions.{is_done, is_clone, gives, clone_in, same_answer_as}
use Rattle.completion_laws.proofs.Tells.{gives_low, gives_on, clone_of, done_in, answer_same, NonePass, count_none, find_none, clone_stays, answer_stays, same_stays}

-- A request is given once at most, to the miniport or to a filter; it is done as often at most, and has as many
-- clones as it was given to filters.
pub record Tally (past : List Row) (n : ℕ) : Type 0 where
  pub once : count_by (gives n) past ≤ 1
  pub done : count_by (is_done n) past ≤ count_by (gives n) past
  pub clones : count_by (is_clone n) past ≡ count_by (gives_on n) past
  pub either : count_by (gives n) past ≡ count_by (gives_low n) past + count_by (gives_on n) past

-- how often a request was given that is there
abbrev pub IsGivenAs : RequestAt → ℕ → Type 0
IsGivenAs (at.Given m) given = given ≡ 1
IsGivenAs _ given = given ≡ 0

-- a request that isn't done
pub record IsThere (past : List Row) (n : ℕ) (place : RequestAt) : Type 0 where
  pub done : count_by (is_done n) past ≡ 0
  pub given : IsGivenAs place (count_by (gives n) past)

-- an answer on its way is that of the first clone of its parent
pub record IsTold (past : List Row) (a : Answered) : Type 0 where
  pub clone : clone_of a.parent.0 past ≡ Some a.request.0
  pub answer : same_answer_as a.status a.value (done_in a.request.0 past) ≡ true

pub record Ends (past : List Row) (found : ℕ → Option Request) (answers : List Answered) (next : ℕ) : Type 0 where
  pub tally : (n : ℕ) → Tally past n
  pub there : (n : ℕ) (r : Request) → found n ≡ Some r → IsThere past n r.at
  pub below : (n : ℕ) (r : Request) → found n ≡ Some r → n < next
  pub new : (n : ℕ) → next ≤ n → count_by (gives n) past ≡ 0
  pub clone : (n : ℕ) (r : Request) (g : OidNo) → found n ≡ Some r → r.parent ≡ Some g → clone_of g.0 past ≡ Some n
  pub told : Each (IsTold past) answers
  pub same : (n : ℕ) → answer_same past (done_in n past) (clone_of n past) ≡ true

pub told_stays : (past rows : List Row) (a : Answered) → IsTold past a → IsTold (past ++ rows) a
told_stays past rows a h = record {
  clone = clone_stays a.parent.0 a.request.0 past rows h.clone;
  answer = answer_stays a.request.0 a.status a.value past rows h.answer;
}

-- rows that tell nothing of a request
pub record AreOff (rows : List Row) (n : ℕ) : Type 0 where
  pub gives : NonePass (gives n) rows
  pub low : NonePass (gives_low n) rows
  pub on : NonePass (gives_on n) rows
  pub done : NonePass (is_done n) rows
  pub clone : NonePass (is_clone n) rows

pub off_tally : (past rows : List Row) (n : ℕ) → AreOff rows n → Tally past n → Tally (past ++ rows) n
off_tally past rows n o t =
    let g = count_none (gives n) past rows o.gives in
    let l = count_none (gives_low n) past rows o.low in
    let f = count_none (gives_on n) past rows o.on in
    let d = count_none (is_done n) past rows o.done in
    let c = count_none (is_clone n) past rows o.clone in
    record {
      once = omega (arith, g, t.once);
      done = omega (arith, g, d, t.done);
      clones = omega (arith, c, f, t.clones);
      either = omega (arith, g, l, f, t.either);
    }

pub off_there : (past rows : List Row) (n : ℕ) (place : RequestAt) → AreOff rows n → IsThere past n place → IsThere (past ++ rows) n place
off_there past rows n place o t = record {
  done = count_none (is_done n) past rows o.done ∙ t.done;
  given = subst (IsGivenAs place) (sym (count_none (gives n) past rows o.gives)) t.given;
}

pub off_same : (past rows : List Row) (n : ℕ) → AreOff rows n → answer_same past (done_in n past) (clone_of n past) ≡ true → answer_same (past ++ rows) (done_in n (past ++ rows)) (clone_of n (past ++ rows)) ≡ true
off_same past rows n o h =
    let d : done_in n (past ++ rows) ≡ done_in n past = find_none (is_done n) past rows o.done in
    let c : clone_of n (past ++ rows) ≡ clone_of n past = ap clone_in (find_none (is_clone n) past rows o.clone) in
    ap (λ x. answer_same (past ++ rows) x (clone_of n (past ++ rows))) d
    ∙ ap (λ x. answer_same (past ++ rows) (done_in n past) x) c
    ∙ same_stays past rows (done_in n past) (clone_of n past) h

-- rows that tell nothing of any request
pub ends_off : (past rows : List Row) (found : ℕ → Option Request) (answers : List Answered) (next : ℕ) → ((n : ℕ) → AreOff rows n) → Ends past found answers next → Ends (past ++ rows) found answers next
ends_off past rows found answers next o e = record {
  tally = λ n. off_tally past rows n (o n) (e.tally n);
  there = λ n r f. off_there past rows n r.at (o n) (e.there n r f);
  below = e.below;
  new = λ n h. count_none (gives n) past rows (o n).gives ∙ e.new n h;
  clone = λ n r g f p. clone_stays g.0 n past rows (e.clone n r g f p);
  told = Each-implies (IsTold past) (IsTold (past ++ rows)) (λ a h. told_stays past rows a h) answers e.told;
  same = λ n. off_same past rows n (o n) (e.same n);
}
