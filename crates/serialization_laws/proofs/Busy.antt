-- A module that has a request is given no other one, by the rows alone.
use Rattle.std.proofs.Common.{◌≡◌, ℕ, ◌+◌, ◌≤◌, ◌<◌, ◌==◌, ◌&&◌, ◌||◌, Bool, true, false, cond, List, [], ◌∷◌, ◌++◌, Option, Some, None, option_map, ◌⊎◌, inl, inr, count_by, refl, arith, ap, sym, subst, append_assoc, ◌∙◌}
use Rattle.std.proofs.lemmas.Bool.Decides.{nat_tests}
use Rattle.ndis_base.specs.declared.ModuleId.{ModuleId}
use Rattle.ndis_base.specs.declared.ModuleId.TheVariants.{Miniport, Filter, Binding}
use Rattle.ndis_base.specs.declared.OidNo.{OidNo}
use Rattle.journal_types.specs.declared.Row.{Row}
use Rattle.journal_types.specs.declared.Row.TheVariants as row
use Rattle.journal_types.specs.declared.Turn.{Turn}
use Rattle.stack_rules.specs.declared.Request.{Request}
use Rattle.stack_rules.specs.declared.RequestAt.TheVariants as at
use Rattle.stack_rules.specs.Tests.{same_module}
use Rattle.stack_rules.specs.Net.{Net, start, told, after, after_rows, after_turn, request_of, given_to, place_of_request}
use Rattle.stack_rules.specs.Outcome.{oid_no}
use Rattle.stack_rules.specs.Requests.{is_given_to, is_busy}
use Rattle.stack_rules.specs.Sound.{SoundFrom}
use Rattle.home_laws.specs.Rows.{rows_of}
use Rattle.state_laws.specs.Shape.{IsShaped}
use Rattle.state_laws.proofs.Events.{shaped_start}
use Rattle.request_laws.proofs.Asked.{none_some, some_same, is_equal}
use Rattle.request_laws.proofs.Finds.{found_push, found_given, found_but, number_found}
use Rattle.request_laws.proofs.Orders.{same_is}
use Rattle.request_laws.proofs.Rows.{found_in, IsKept, kept_start}
use Rattle.promise_rules.specs.Completions.{is_done}
use Rattle.completion_laws.proofs.Tells.{AreMute, NonePass, IsDeaf, none_mute, count_none}
use Rattle.completion_laws.proofs.Mutes.{AsksAlike, mute_after}
use Rattle.completion_laws.proofs.Sorts.{IsWaiting, Sorts, mute, asked, done, low, on}
use Rattle.completion_laws.proofs.Events.{kept_turn, shaped_turn, sorted_turn}
use Rattle.serialization_laws.specs.Dones.{IsGivenFirst, EachGiven, gives_to, NoneIsBusy}
use Rattle.serialization_laws.proofs.Overs.{Over, over_sort, over_start, free}
use Rattle.serialization_laws.proofs.Firsts.{Rising, rising_sort, firsts}

itself : (n : ℕ) → (n == n) ≡ true
itself n = grind (arith, nat_tests)

-- a request that was given to a module and isn't done is there
record AreHeld (past : List Row) (found : ℕ → Option Request) (next : ℕ) : Type 0 where
  named : (n : ℕ) (r : Request) → found n ≡ Some r → (1 ≤ n) × (n < next)
  issued : (n : ℕ) (m : ModuleId) → 1 ≤ count_by (gives_to n m) past → (1 ≤ n) × (n < next)
  held : (n : ℕ) (m : ModuleId) (r : Request) → found n ≡ Some r → 1 ≤ count_by (gives_to n m) past → r.at ≡ at.Given m

deaf_to : (n : ℕ) (m : ModuleId) → IsDeaf (gives_to n m)
deaf_to n m (row.OidGive request holder) h = cc
deaf_to n m _ h = refl

earlier : (n : ℕ) (m : ModuleId) (past rows : List Row) → NonePass (gives_to n m) rows → 1 ≤ count_by (gives_to n m) (past ++ rows) → 1 ≤ count_by (gives_to n m) past
earlier n m past rows none h = let same = count_none (gives_to n m) past rows none in omega (arith, same, h)

-- rows that give nothing
held_still : (past rows : List Row) (found then : ℕ → Option Request) (next : ℕ) → ((n : ℕ) (m : ModuleId) → NonePass (gives_to n m) rows) → ((n : ℕ) (r : Request) → then n ≡ Some r → found n ≡ Some r) → AreHeld past found next → AreHeld (past ++ rows) then next
held_still past rows found then next none old h = record {
  named = λ n r f. h.named n r (old n r f);
  issued = λ n m c. h.issued n m (earlier n m past rows (none n m) c);
  held = λ n m r f c. h.held n m r (old n r f) (earlier n m past rows (none n m) c);
}

-- a request comes
held_issued : (past rows : List Row) (found then : ℕ → Option Request) (next : ℕ) (made : Request) → 1 ≤ next → ((n : ℕ) (m : ModuleId) → NonePass (gives_to n m) rows) → ((i : ℕ) → then i ≡ cond (i == next) (Some made) (found i)) → AreHeld past found next → AreHeld (past ++ rows) then (next + 1)
held_issued past rows found then next made some none is h = record {
  named = λ n r f. named n r (n == next) refl (sym (is n) ∙ f);
  issued = λ n m c. let x = h.issued n m (earlier n m past rows (none n m) c) in let less = x.1 in (x.0, omega (arith, less));
  held = λ n m r f c. held n m r (earlier n m past rows (none n m) c) (n == next) refl (sym (is n) ∙ f);
}
  where
    named : (n : ℕ) (r : Request) (b : Bool) → (n == next) ≡ b → cond b (Some made) (found n) ≡ Some r → (1 ≤ n) × (n < next + 1)
    named n r true t f = let same = is_equal n next t in (omega (arith, same, some), omega (arith, same))
    named n r false t f = let x = h.named n r f in let less = x.1 in (x.0, omega (arith, less))

    held : (n : ℕ) (m : ModuleId) (r : Request) → 1 ≤ count_by (gives_to n m) past → (b : Bool) → (n == next) ≡ b → cond b (Some made) (found n) ≡ Some r → r.at ≡ at.Given m
    held n m r c true t f = let same = is_equal n next t in let less = (h.issued n m c).1 in absurd (omega (arith, same, less))
    held n m r c false t f = h.held n m r f c

-- a request is given
held_given : (past : List Row) (found : ℕ → Option Request) (next : ℕ) (p : OidNo) (holder : ModuleId) (r : Request) → found p.0 ≡ Some r → IsWaiting r holder → ((i : ℕ) (q : Request) → found i ≡ Some q → q.request.0 ≡ i) → AreHeld past found next → AreHeld (past ++ row.OidGive p holder ∷ []) (λ i. option_map (given_to p.0 holder) (found i)) next
held_given past found next p holder r here waits named h = record {
  named = λ n q f. let x = old n q (found n) refl f in h.named n x.0 x.1;
  issued = λ n m c. issued n m c (p.0 == n) refl;
  held = λ n m q f c. let x = old n q (found n) refl f in held n m q x.0 x.1 x.2 c (p.0 == n) refl;
}
  where
    give : Row
    give = row.OidGive p holder

    old : (n : ℕ) (q : Request) (o : Option Request) → found n ≡ o → option_map (given_to p.0 holder) o ≡ Some q → (x : Request) × (found n ≡ Some x) × (given_to p.0 holder x ≡ q)
    old n q None e f = absurd (none_some q f)
    old n q (Some x) e f = (x, e, some_same (given_to p.0 holder x) q f)

    other : (n : ℕ) (m : ModuleId) → (p.0 == n) ≡ false → NonePass (gives_to n m) (row.OidGive p holder ∷ [])
    other n m t = (ap (λ b. b && same_module holder m) t, tt)

    issued : (n : ℕ) (m : ModuleId) → 1 ≤ count_by (gives_to n m) (past ++ give ∷ []) → (b : Bool) → (p.0 == n) ≡ b → (1 ≤ n) × (n < next)
    issued n m c true t = subst (λ i. (1 ≤ i) × (i < next)) (is_equal p.0 n t) (h.named p.0 r here)
    issued n m c false t = h.issued n m (earlier n m past (give ∷ []) (other n m t) c)

    ungiven : (m : ModuleId) → 1 ≤ count_by (gives_to p.0 m) past → ⊥
    ungiven m c = clash (h.held p.0 m r here c) waits
      where
        clash : r.at ≡ at.Given m → IsWaiting r holder → ⊥
        clash g (inl w) = differ (sym g ∙ w)
          where
            differ : at.Given m ≡ at.Entry → ⊥
            differ e = cc
        clash g (inr w) = differ (sym g ∙ w)
          where
            differ : at.Given m ≡ at.Waiting holder → ⊥
            differ e = cc

    turned : (a b : ℕ) (c : Bool) → (a == b) ≡ c → (b == a) ≡ c
    turned a b c e = swap a b ∙ e
      where
        swap : (a b : ℕ) → (b == a) ≡ (a == b)
        swap a b = grind (arith, nat_tests)

    held : (n : ℕ) (m : ModuleId) (q x : Request) → found n ≡ Some x → given_to p.0 holder x ≡ q → 1 ≤ count_by (gives_to n m) (past ++ give ∷ []) → (b : Bool) → (p.0 == n) ≡ b → q.at ≡ at.Given m
    held n m q x f g c true t =
        let same : p.0 ≡ n = is_equal p.0 n t in
        let name : (x.request.0 == p.0) ≡ true = ap (λ i. i == p.0) (named n x f) ∙ turned p.0 n true t in
        let there : q.at ≡ at.Given holder = sym (ap (λ (y : Request). y.at) g) ∙ ap (λ b. (cond b (record x { at = at.Given holder }) x).at) name in
        there ∙ ap (λ i. at.Given i) (holder_is (same_module holder m) refl)
      where
        holder_is : (b : Bool) → same_module holder m ≡ b → holder ≡ m
        holder_is true s = same_is holder m s
        holder_is false s =
            let none : gives_to n m give ≡ false = ap (λ b. (p.0 == n) && b) s ∙ off (p.0 == n) in
            let was = earlier n m past (give ∷ []) (none, tt) c in
            absurd (ungiven m (subst (λ i. 1 ≤ count_by (gives_to i m) past) (sym (is_equal p.0 n t)) was))
          where
            off : (b : Bool) → (b && false) ≡ false
            off true = refl
            off false = refl
    held n m q x f g c false t =
        let name : (x.request.0 == p.0) ≡ false = ap (λ i. i == p.0) (named n x f) ∙ turned p.0 n false t in
        let same : x ≡ q = sym (ap (λ b. cond b (record x { at = at.Given holder }) x) name) ∙ g in
        subst (λ (y : Request). y.at ≡ at.Given m) same (h.held n m x f (earlier n m past (give ∷ []) (other n m t) c))

abbrev Held : List Row → Net → Type 0
Held past net = AreHeld past (found_in net) net.next.request

held_found : (past : List Row) (f g : ℕ → Option Request) (next : ℕ) → ((n : ℕ) → g n ≡ f n) → AreHeld past f next → AreHeld past g next
held_found past f g next same h = record { named = λ n r e. h.named n r (sym (same n) ∙ e); issued = h.issued; held = λ n m r e c. h.held n m r (sym (same n) ∙ e) c }

held_sort : (past : List Row) (net now : Net) (rows : List Row) → IsKept net → ((rows : List Row) → AreMute rows → AsksAlike net (after_rows now rows)) → Sorts net now rows → Over past net → Held past net → Held (past ++ rows) (after_rows now rows)
held_sort past net now _ k alike (mute rows q) o h =
    let s = alike rows q in
    subst (λ (rs : List Request). AreHeld (past ++ rows) (λ n. request_of n rs) (after_rows now rows).next.request) (sym s.requests)
    (subst (λ n. AreHeld (past ++ rows) (found_in net) n) (sym s.number)
    (held_still past rows (found_in net) (found_in net) net.next.request (λ n m. none_mute (gives_to n m) (deaf_to n m) rows q) (λ n r f. f) h))
held_sort past net now _ k alike (asked binding kind code value s) o h =
    let rows : List Row = row.OidIssue (oid_no net.next.request) None binding kind code value ∷ [] in
    let made : Request = record { request = oid_no net.next.request; parent = None; binding = binding; kind = kind; code = code; value = value; at = at.Entry } in
    subst (λ (x : Net). Held (past ++ rows) (after_rows x rows)) (sym s)
    (held_issued past rows (found_in net) (found_in (after_rows net rows)) net.next.request made o.some (λ n m. (refl, tt)) (λ i. found_push net.requests made i (free net k)) h)
held_sort past net now _ k alike (done a first s) o h =
    let rows : List Row = row.OidDone a.parent a.status a.value ∷ [] in
    subst (λ (x : Net). Held (past ++ rows) (after_rows x rows)) (sym s)
    (held_still past rows (found_in net) (found_in (after_rows net rows)) net.next.request (λ n m. (refl, tt)) (λ n r f. left a.parent.0 n r (found_in net n) (sym (found_but a.parent.0 net.requests n) ∙ f)) h)
  where
    left : (p n : ℕ) (r : Request) (o : Option Request) → cond (n == p) None o ≡ Some r → o ≡ Some r
    left p n r o f = cases (n == p) f
      where
        cases : (b : Bool) → cond b None o ≡ Some r → o ≡ Some r
        cases true f = absurd (none_some r f)
        cases false f = f
held_sort past net now _ k alike (low r status value f w s) o h =
    let give : Row = row.OidGive r.request Miniport in
    let finish : Row = row.OidDone r.request status value in
    let rows : List Row = give ∷ finish ∷ [] in
    let given : Net = after net give in
    let first : AreHeld (past ++ give ∷ []) (found_in given) net.next.request =
    held_found (past ++ give ∷ []) (λ i. option_map (given_to r.request.0 Miniport) (found_in net i)) (found_in given) net.next.request (λ i. found_given r.request.0 Miniport net.requests i) (held_given past (found_in net) net.next.request r.request Miniport r f w (λ i q g. number_found i net.requests q g) h) in
    subst (λ (x : Net). Held (past ++ rows) (after_rows x rows)) (sym s)
    (subst (λ p. AreHeld p (found_in (after_rows net rows)) net.next.request) (append_assoc past (give ∷ []) (finish ∷ []))
    (held_still (past ++ give ∷ []) (finish ∷ []) (found_in given) (found_in (after_rows net rows)) net.next.request (λ n m. (refl, tt)) (λ n q g. left r.request.0 n q (found_in given n) (sym (found_but r.request.0 given.requests n) ∙ g)) first))
  where
    left : (p n : ℕ) (r : Request) (o : Option Request) → cond (n == p) None o ≡ Some r → o ≡ Some r
    left p n r o f = cases (n == p) f
      where
        cases : (b : Bool) → cond b None o ≡ Some r → o ≡ Some r
        cases true f = absurd (none_some r f)
        cases false f = f
held_sort past net now _ k alike (on r filter f w s) o h =
    let give : Row = row.OidGive r.request (Filter filter) in
    let issue : Row = row.OidIssue (oid_no net.next.request) (Some r.request) r.binding r.kind r.code r.value in
    let rows : List Row = give ∷ issue ∷ [] in
    let given : Net = after net give in
    let made : Request = record { request = oid_no net.next.request; parent = Some r.request; binding = r.binding; kind = r.kind; code = r.code; value = r.value; at = place_of_request given.modules given.requests (Some r.request) } in
    let none : request_of made.request.0 given.requests ≡ None = found_given r.request.0 (Filter filter) net.requests net.next.request ∙ ap (option_map (given_to r.request.0 (Filter filter))) (free net k) in
    let first : AreHeld (past ++ give ∷ []) (found_in given) net.next.request =
    held_found (past ++ give ∷ []) (λ i. option_map (given_to r.request.0 (Filter filter)) (found_in net i)) (found_in given) net.next.request (λ i. found_given r.request.0 (Filter filter) net.requests i) (held_given past (found_in net) net.next.request r.request (Filter filter) r f w (λ i q g. number_found i net.requests q g) h) in
    subst (λ (x : Net). Held (past ++ rows) (after_rows x rows)) (sym s)
    (subst (λ p. AreHeld p (found_in (after_rows net rows)) (net.next.request + 1)) (append_assoc past (give ∷ []) (issue ∷ []))
    (held_issued (past ++ give ∷ []) (issue ∷ []) (found_in given) (found_in (after_rows net rows)) net.next.request made o.some (λ n m. (refl, tt)) (λ i. found_push given.requests made i none) first))

-- a module that has a given request is busy
busy_when : (rs : List Request) (n : ℕ) (r : Request) (m : ModuleId) → request_of n rs ≡ Some r → r.at ≡ at.Given m → is_busy rs m ≡ true
busy_when [] n r m f g = absurd (none_some r f)
busy_when (x ∷ rs) n r m f g = by (λ k. busy_when rs n r m k g) (x.request.0 == n) f
  where
    same_itself : (m : ModuleId) → same_module m m ≡ true
    same_itself Miniport = refl
    same_itself (Filter f) = itself f
    same_itself (Binding b) = itself b

    more : (a b : Bool) → b ≡ true → (a || b) ≡ true
    more true b i = refl
    more false b i = i

    by : (request_of n rs ≡ Some r → is_busy rs m ≡ true) → (b : Bool) → cond b (Some x) (request_of n rs) ≡ Some r → is_busy (x ∷ rs) m ≡ true
    by later true e =
        let here : is_given_to m x.at ≡ true = ap (λ (y : Request). is_given_to m y.at) (some_same x r e) ∙ ap (is_given_to m) g ∙ same_itself m in
        ap (λ b. b || is_busy rs m) here
    by later false e = more (is_given_to m x.at) (is_busy rs m) (later e)

module _ (net : Net) (past : List Row) (k : IsKept net) (o : Over past net) (h : Held past net) where
  free_now : (q : OidNo) (m : ModuleId) → IsGivenFirst net q m → (n : ℕ) → 1 ≤ count_by (gives_to n m) past → 1 ≤ count_by (is_done n) past
  free_now q m first n c = by (found_in net n) refl
    where
      clash : is_busy net.requests m ≡ true → is_busy net.requests m ≡ false → ⊥
      clash t f = off (sym t ∙ f)
        where
          off : true ≡ false → ⊥
          off e = cc

      by : (x : Option Request) → found_in net n ≡ x → 1 ≤ count_by (is_done n) past
      by None e = let b = h.issued n m c in o.over n b.0 b.1 e
      by (Some r) e = absurd (clash (busy_when net.requests n r m e (h.held n m r e c)) first.idle)

-- a row that gives a request is the first one of its turn
abbrev is_give : Row → Bool
is_give (row.OidGive request m) = true
is_give _ = false

deaf_give : IsDeaf is_give
deaf_give (row.OidGive request m) h = cc
deaf_give _ h = refl

abbrev GivesFirst : List Row → Type 0
GivesFirst [] = Unit {0}
GivesFirst (r ∷ rows) = NonePass is_give rows

gives_first : (net now : Net) (rows : List Row) → Sorts net now rows → GivesFirst rows
gives_first net now _ (mute rows h) = by rows h
  where
    by : (rows : List Row) → AreMute rows → GivesFirst rows
    by [] h = tt
    by (r ∷ rows) h = none_mute is_give deaf_give rows h.1
gives_first net now _ (asked binding kind code value s) = tt
gives_first net now _ (done a first s) = tt
gives_first net now _ (low r status value f w s) = (refl, tt)
gives_first net now _ (on r filter f w s) = (refl, tt)

none_here : (before later : List Row) (q : OidNo) (m : ModuleId) → NonePass is_give (before ++ row.OidGive q m ∷ later) → ⊥
none_here [] later q m h = off h.0
  where
    off : true ≡ false → ⊥
    off e = cc
none_here (x ∷ before) later q m h = none_here before later q m h.1

first_is : (before later : List Row) (q : OidNo) (m : ModuleId) (rows : List Row) → rows ≡ before ++ row.OidGive q m ∷ later → GivesFirst rows → before ≡ []
first_is [] later q m rows e h = refl
first_is (x ∷ before) later q m rows e h = absurd (none_here before later q m (subst GivesFirst e h))

given_here : (P : OidNo → ModuleId → Type 0) (later : List Row) (q : OidNo) (m : ModuleId) → EachGiven P (row.OidGive q m ∷ later) → P q m
given_here P later q m h = h.0

-- a row of a turn, or of a later one
split : (xs ys before later : List Row) (r : Row) → xs ++ ys ≡ before ++ r ∷ later → ((rest : List Row) × (xs ≡ before ++ r ∷ rest)) ⊎ ((more : List Row) × (before ≡ xs ++ more) × (ys ≡ more ++ r ∷ later))
split [] ys before later r e = inr (before, refl, e)
split (x ∷ xs) ys [] later r e = inl (xs, ap (λ y. y ∷ xs) (head_is x r (xs ++ ys) later e))
  where
    head_is : (x y : Row) (xs ys : List Row) → (x ∷ xs) ≡ (y ∷ ys) → x ≡ y
    head_is x y xs ys e = cc
split (x ∷ xs) ys (b ∷ before) later r e = by (split xs ys before later r (tail_is x b (xs ++ ys) (before ++ r ∷ later) e))
  where
    head_is : (x y : Row) (xs ys : List Row) → (x ∷ xs) ≡ (y ∷ ys) → x ≡ y
    head_is x y xs ys e = cc

    tail_is : (x y : Row) (xs ys : List Row) → (x ∷ xs) ≡ (y ∷ ys) → xs ≡ ys
    tail_is x y xs ys e = cc

    same : x ≡ b
    same = head_is x b (xs ++ ys) (before ++ r ∷ later) e

    by : ((rest : List Row) × (xs ≡ before ++ r ∷ rest)) ⊎ ((more : List Row) × (before ≡ xs ++ more) × (ys ≡ more ++ r ∷ later)) → ((rest : List Row) × ((x ∷ xs) ≡ (b ∷ before) ++ r ∷ rest)) ⊎ ((more : List Row) × ((b ∷ before) ≡ (x ∷ xs) ++ more) × (ys ≡ more ++ r ∷ later))
    by (inl h) = inl (h.0, ap (λ y. y ∷ xs) same ∙ ap (λ rest. b ∷ rest) h.1)
    by (inr h) = inr (h.0, ap (λ y. y ∷ before) (sym same) ∙ ap (λ rest. x ∷ rest) h.1, h.2)

nil_end : (xs : List Row) → xs ++ [] ≡ xs
nil_end [] = refl
nil_end (x ∷ xs) = ap (λ rest. x ∷ rest) (nil_end xs)

free_rows : (past : List Row) (net : Net) (turns : List Turn) → IsShaped net → IsKept net → Rising net → Over past net → Held past net → SoundFrom net turns →
    (before later : List Row) (q : OidNo) (m : ModuleId) → rows_of turns ≡ before ++ row.OidGive q m ∷ later → (n : ℕ) → 1 ≤ count_by (gives_to n m) (past ++ before) → 1 ≤ count_by (is_done n) (past ++ before)
free_rows past net [] s k rise o h sound before later q m e n c = absurd (none before e)
  where
    none : (before : List Row) → [] ≡ before ++ row.OidGive q m ∷ later → ⊥
    none [] e = cc
    none (x ∷ before) e = cc
free_rows past net (t ∷ ts) s k rise o h sound before later q m e n c =
    by (split t.rows (rows_of ts) before later (row.OidGive q m) e)
    (λ more f d. free_rows (past ++ t.rows) (after_turn net t) ts (shaped_turn net t s sound.0) (kept_turn net t s k sound.0)
    (rising_sort net (told net t.event t.reply) t.rows alike sorts rise) (over_sort past net (told net t.event t.reply) t.rows k alike sorts o) (held_sort past net (told net t.event t.reply) t.rows k alike sorts o h) sound.1 more later q m f n d) c
  where
    alike : (rows : List Row) → AreMute rows → AsksAlike net (after_rows (told net t.event t.reply) rows)
    alike rows x = mute_after net t.event t.reply rows x

    sorts : Sorts net (told net t.event t.reply) t.rows
    sorts = sorted_turn net t k sound.0

    now : (rest : List Row) → t.rows ≡ before ++ row.OidGive q m ∷ rest → 1 ≤ count_by (gives_to n m) (past ++ before) → 1 ≤ count_by (is_done n) (past ++ before)
    now rest f d =
        let none : before ≡ [] = first_is before rest q m t.rows f (gives_first net (told net t.event t.reply) t.rows sorts) in
        let start_is : past ++ before ≡ past = ap (λ rows. past ++ rows) none ∙ nil_end past in
        let all : EachGiven (IsGivenFirst net) t.rows = subst (EachGiven (IsGivenFirst net)) (sym sound.0.rows) (firsts net k rise t.event sound.0.choice) in
        let first : IsGivenFirst net q m = given_here (IsGivenFirst net) rest q m (subst (EachGiven (IsGivenFirst net)) (f ∙ ap (λ rows. rows ++ row.OidGive q m ∷ rest) none) all) in
        subst (λ rows. 1 ≤ count_by (is_done n) rows) (sym start_is) (free_now net past k o h q m first n (subst (λ rows. 1 ≤ count_by (gives_to n m) rows) start_is d))

    by : ((rest : List Row) × (t.rows ≡ before ++ row.OidGive q m ∷ rest)) ⊎ ((more : List Row) × (before ≡ t.rows ++ more) × (rows_of ts ≡ more ++ row.OidGive q m ∷ later)) →
        ((more : List Row) → rows_of ts ≡ more ++ row.OidGive q m ∷ later → 1 ≤ count_by (gives_to n m) ((past ++ t.rows) ++ more) → 1 ≤ count_by (is_done n) ((past ++ t.rows) ++ more)) → 1 ≤ count_by (gives_to n m) (past ++ before) → 1 ≤ count_by (is_done n) (past ++ before)
    by (inl x) later_on d = now x.0 x.1 d
    by (inr x) later_on d =
        let same : past ++ before ≡ (past ++ t.rows) ++ x.0 = ap (λ rows. past ++ rows) x.1 ∙ sym (append_assoc past t.rows x.0) in
        subst (λ rows. 1 ≤ count_by (is_done n) rows) (sym same) (later_on x.0 x.2 (subst (λ rows. 1 ≤ count_by (gives_to n m) rows) same d))

pub none_is_busy : NoneIsBusy
none_is_busy head turns s before later q m e n c =
    free_rows [] (start head) turns (shaped_start head) (kept_start head) tt (over_start head) record {
      named = λ i r f. absurd (none_some r f);
      issued = λ i k d. absurd (omega (arith, d));
      held = λ i k r f d. absurd (none_some r f);
    } s before later q m e n c
