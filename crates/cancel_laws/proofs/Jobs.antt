-- A cancel as a list of jobs: each module that turns back a list. What the rows of such jobs do.
use Rattle.std.proofs.Common.{◌≡◌, ℕ, ◌+◌, ◌==◌, ◌⊎◌, inl, inr, Bool, true, false, cond, List, [], ◌∷◌, ◌++◌, Option, Some, None, option_map, refl, arith, ap, sym, subst, ◌∙◌, map, filter, flat_map, length, count_by}
use Rattle.std.proofs.lemmas.Bool.Decides.{nat_tests}
use Rattle.std.proofs.lemmas.List.{length-append, length-map}
use Rattle.std.proofs.lemmas.List.Concat.{flat_map-append}
use Rattle.ndis_base.specs.declared.Direction.{Direction}
use Rattle.ndis_base.specs.declared.Direction.TheVariants as direction
use Rattle.ndis_base.specs.declared.ListNo.{ListNo}
use Rattle.ndis_base.specs.declared.ListStatus.{ListStatus}
use Rattle.ndis_base.specs.declared.ListStatus.TheVariants.{Aborted}
use Rattle.ndis_base.specs.declared.ModuleId.{ModuleId}
use Rattle.journal_types.specs.declared.PassWay.TheVariants as way
use Rattle.journal_types.specs.declared.Row.{Row}
use Rattle.journal_types.specs.declared.Row.TheVariants as row
use Rattle.stack_rules.specs.declared.LiveList.{LiveList}
use Rattle.stack_rules.specs.declared.Stand.TheVariants as stand
use Rattle.stack_rules.specs.Cancels.{cancelled_at, aborted, cancel_rows_at, queues}
use Rattle.stack_rules.specs.Net.{Net, after, after_rows, list_of, lists, had_by}
use Rattle.stack_rules.specs.Places.{position}
use Rattle.stack_rules.specs.Targets.{homeward_by}
use Rattle.rule_basics.specs.Live.{is_live, IsApart}
use Rattle.rule_basics.proofs.Counts.{one_if, count_by-cons}
use Rattle.place_laws.proofs.Looks.{look, IsUpdate, passing, look_back, look_pass}
use Rattle.cancel_laws.specs.Cancelled.{is_turn_back, turns_back, goes_to, as_aborted}
use Rattle.cancel_laws.proofs.Within.{Within, within-cases}
use Rattle.cancel_laws.proofs.Works.{itself}

-- a list, and the module that turns it back
pub record Job : Type 0 where
  pub keeper : ModuleId
  pub list : LiveList

abbrev pub job : ModuleId → LiveList → Job
job m l = record { keeper = m; list = l }

abbrev pub job_rows : Net → Job → List Row
job_rows net j = row.TurnBack j.list.list j.keeper Aborted ∷ row.Pass j.list.list (way.Done Aborted) (goes_to net j.keeper j.list) ∷ []

abbrev pub rows_for : Net → List Job → List Row
rows_for net js = flat_map (job_rows net) js

-- the jobs of a module, and of all modules
abbrev pub jobs_at : Net → ℕ → ModuleId → List Job
jobs_at net id m = map (job m) (cancelled_at net id m)

abbrev pub jobs_of : Net → ℕ → List ModuleId → List Job
jobs_of net id ms = flat_map (jobs_at net id) ms

-- the rows of a cancel are those of its jobs
aborted_is : (net : Net) (m : ModuleId) (l : LiveList) → l.direction ≡ direction.Down → aborted net m l ≡ job_rows net (job m l)
aborted_is net m l e = ap (λ d. row.TurnBack l.list m Aborted ∷ homeward_by net.modules l.list l.owner d (position net.modules.order m) Aborted ∷ []) e

aborted_all : (net : Net) (m : ModuleId) (ls : List LiveList) → ((l : LiveList) → Within ls l → l.direction ≡ direction.Down) → flat_map (aborted net m) ls ≡ rows_for net (map (job m) ls)
aborted_all net m [] d = refl
aborted_all net m (l ∷ ls) d = ap (λ rows. rows ++ flat_map (aborted net m) ls) (aborted_is net m l (d l (inl refl))) ∙ ap (λ rows. job_rows net (job m l) ++ rows) (aborted_all net m ls (λ x w. d x (inr w)))

pub rows_are : (net : Net) (id : ℕ) (ms : List ModuleId) → ((m : ModuleId) (l : LiveList) → Within (cancelled_at net id m) l → l.direction ≡ direction.Down) → flat_map (cancel_rows_at net id) ms ≡ rows_for net (jobs_of net id ms)
rows_are net id [] d = refl
rows_are net id (m ∷ ms) d =
    ap (λ rows. rows ++ flat_map (cancel_rows_at net id) ms) (aborted_all net m (cancelled_at net id m) (d m))
    ∙ ap (λ rows. rows_for net (jobs_at net id m) ++ rows) (rows_are net id ms d)
    ∙ sym (flat_map-append (job_rows net) (jobs_at net id m) (jobs_of net id ms))

-- how many there are
pub length_jobs : (net : Net) (id : ℕ) (ms : List ModuleId) → length (flat_map (cancelled_at net id) ms) ≡ length (jobs_of net id ms)
length_jobs net id [] = refl
length_jobs net id (m ∷ ms) =
    let left = length-append (cancelled_at net id m) (flat_map (cancelled_at net id) ms) in
    let right = length-append (jobs_at net id m) (jobs_of net id ms) in
    let here = length-map (cancelled_at net id m) (job m) in
    let rest = length_jobs net id ms in
    omega (arith, left, right, here, rest)

pub count_rows : (net : Net) (js : List Job) → count_by is_turn_back (rows_for net js) ≡ length js
count_rows net [] = refl
count_rows net (j ∷ js) =
    let back : Row = row.TurnBack j.list.list j.keeper Aborted in
    let pass : Row = row.Pass j.list.list (way.Done Aborted) (goes_to net j.keeper j.list) in
    let first = count_by-cons is_turn_back back (pass ∷ rows_for net js) in
    let second = count_by-cons is_turn_back pass (rows_for net js) in
    let rest = count_rows net js in
    omega (arith, first, second, rest)

-- the job is for the list of this number
abbrev pub is_for : ListNo → Job → Bool
is_for n j = j.list.list.0 == n.0

pub count_back : (net : Net) (n : ListNo) (js : List Job) → count_by (turns_back n) (rows_for net js) ≡ count_by (is_for n) js
count_back net n [] = refl
count_back net n (j ∷ js) =
    let back : Row = row.TurnBack j.list.list j.keeper Aborted in
    let pass : Row = row.Pass j.list.list (way.Done Aborted) (goes_to net j.keeper j.list) in
    let first = count_by-cons (turns_back n) back (pass ∷ rows_for net js) in
    let second = count_by-cons (turns_back n) pass (rows_for net js) in
    let whole = count_by-cons (is_for n) j js in
    let rest = count_back net n js in
    omega (arith, first, second, whole, rest)

-- no two jobs are for lists of one number
abbrev pub NoneIsFor : ℕ → List Job → Type 0
NoneIsFor n js = (j : Job) → Within js j → j.list.list.0 ≡ n → ⊥

abbrev pub AreApart : List Job → Type 0
AreApart [] = Unit {0}
AreApart (j ∷ js) = NoneIsFor j.list.list.0 js × AreApart js

differ : (n m : ℕ) → (n ≡ m → ⊥) → (n == m) ≡ false
differ n m f = by (n == m) refl
  where
    by : (b : Bool) → (n == m) ≡ b → b ≡ false
    by false t = refl
    by true t = let same : n ≡ m = grind (arith, nat_tests) in absurd (f same)

count_none : (n : ListNo) (js : List Job) → NoneIsFor n.0 js → count_by (is_for n) js ≡ 0
count_none n [] f = refl
count_none n (j ∷ js) f =
    let here : is_for n j ≡ false = differ j.list.list.0 n.0 (f j (inl refl)) in
    let one : one_if (is_for n j) ≡ 0 = ap one_if here in
    let whole = count_by-cons (is_for n) j js in
    let rest = count_none n js (λ k w. f k (inr w)) in
    omega (arith, one, whole, rest)

pub count_one : (j : Job) (js : List Job) → AreApart js → Within js j → count_by (is_for j.list.list) js ≡ 1
count_one j [] a w = absurd w
count_one j (k ∷ js) a (inl e) =
    let here : is_for j.list.list k ≡ true = ap (λ (x : Job). x.list.list.0 == j.list.list.0) e ∙ itself j.list.list.0 in
    let one : one_if (is_for j.list.list k) ≡ 1 = ap one_if here in
    let whole = count_by-cons (is_for j.list.list) k js in
    let rest = count_none j.list.list js (λ x w s. a.0 x w (s ∙ ap (λ (y : Job). y.list.list.0) (sym e))) in
    omega (arith, one, whole, rest)
count_one j (k ∷ js) a (inr w) =
    let here : is_for j.list.list k ≡ false = differ k.list.list.0 j.list.list.0 (λ s. a.0 j w (sym s)) in
    let one : one_if (is_for j.list.list k) ≡ 0 = ap one_if here in
    let whole = count_by-cons (is_for j.list.list) k js in
    let rest = count_one j js a.1 w in
    omega (arith, one, whole, rest)

pub apart_append : (xs ys : List Job) → AreApart xs → AreApart ys → ((x : Job) → Within xs x → NoneIsFor x.list.list.0 ys) → AreApart (xs ++ ys)
apart_append [] ys a b f = b
apart_append (x ∷ xs) ys a b f = (λ j w s. either j (within-cases xs ys j w) s, apart_append xs ys a.1 b (λ y w. f y (inr w)))
  where
    either : (j : Job) → Within xs j ⊎ Within ys j → j.list.list.0 ≡ x.list.list.0 → ⊥
    either j (inl w) s = a.0 j w s
    either j (inr w) s = f x (inl refl) j w s

-- the state after the rows of one job
abbrev after_job : Net → Net → Job → Net
after_job net next j = after (after next (row.TurnBack j.list.list j.keeper Aborted)) (row.Pass j.list.list (way.Done Aborted) (goes_to net j.keeper j.list))

done_one : (net next : Net) (j : Job) → look next j.list.list.0 ≡ Some j.list → look (after_job net next j) j.list.list.0 ≡ Some (record (as_aborted net j.keeper j.list) { crossed = None })
done_one net next j f =
    let back : Net = after next (row.TurnBack j.list.list j.keeper Aborted) in
    let to = goes_to net j.keeper j.list in
    (look_pass back j.list.list (way.Done Aborted) to).here
    ∙ ap (option_map (passing (way.Done Aborted) to)) ((look_back next j.list.list j.keeper Aborted).here ∙ ap (option_map (had_by j.keeper)) f)

other_one : (net next : Net) (j : Job) (n : ℕ) → (j.list.list.0 ≡ n → ⊥) → look (after_job net next j) n ≡ look next n
other_one net next j n f =
    let back : Net = after next (row.TurnBack j.list.list j.keeper Aborted) in
    let apart : (j.list.list.0 == n) ≡ false = differ j.list.list.0 n f in
    (look_pass back j.list.list (way.Done Aborted) (goes_to net j.keeper j.list)).others n apart ∙ (look_back next j.list.list j.keeper Aborted).others n apart

-- lists that no job is for stay as they are
pub others_stay : (net next : Net) (n : ℕ) (js : List Job) → NoneIsFor n js → look (after_rows next (rows_for net js)) n ≡ look next n
others_stay net next n [] f = refl
others_stay net next n (j ∷ js) f = others_stay net (after_job net next j) n js (λ k w. f k (inr w)) ∙ other_one net next j n (f j (inl refl))

-- and each other is on its way home
pub each_goes : (net next : Net) (j : Job) (js : List Job) → AreApart js → Within js j → look next j.list.list.0 ≡ Some j.list → look (after_rows next (rows_for net js)) j.list.list.0 ≡ Some (record (as_aborted net j.keeper j.list) { crossed = None })
each_goes net next j [] a w f = absurd w
each_goes net next j (k ∷ js) a (inl e) f =
    let same : after_job net next k ≡ after_job net next j = ap (after_job net next) e in
    others_stay net (after_job net next k) j.list.list.0 js (λ x w s. a.0 x w (s ∙ ap (λ (y : Job). y.list.list.0) (sym e)))
    ∙ ap (λ at. look at j.list.list.0) same ∙ done_one net next j f
each_goes net next j (k ∷ js) a (inr w) f =
    each_goes net (after_job net next k) j js a.1 w (other_one net next k j.list.list.0 (λ s. a.0 j w (sym s)) ∙ f)

-- nothing but things changes
pub only_things : (net next : Net) (js : List Job) → after_rows next (rows_for net js) ≡ record next { things = (after_rows next (rows_for net js)).things }
only_things net next [] = refl
only_things net next (j ∷ js) = only_things net (after_job net next j) js
