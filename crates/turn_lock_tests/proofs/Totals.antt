-- The count after a history is what its turns added.
use Rattle.std.proofs.Common.{◌≡◌, ◌≢◌, ◌⊎◌, inl, inr, ℕ, zero, suc, ◌+◌, Bool, true, false, eqb, eq-eqb, ne_eqb, if◌then◌else◌, List, [], ◌∷◌, ◌++◌, map, sym, refl, ap, ◌∙◌, subst, ⊎_elim, arith, Result, Ok, Err}
use Rattle.std.specs.Prelude.{is_ok}
use Rattle.std.specs.List.{All, Contains, AllPairs}
use Rattle.std.proofs.lemmas.List.Elements.{All-head, All-tail}
use Rattle.ndis_base.specs.declared.OutOfMemory.{OutOfMemory}
use Rattle.turn_lock.specs.declared.view.Entry.{Entry}
use Rattle.turn_lock.specs.declared.view.Ended.{Ended}
use Rattle.turn_lock.specs.History.{entry, ByStep, Runs, entries_by}
use Rattle.turn_lock.specs.Orderly.{ended_seat}
use Rattle.turn_lock.specs.Account.{Account, Makes, Closes, first_account, after_split, newcomer_account, joined}
use Rattle.turn_lock_tests.specs.declared.counter.Counter.{Counter}
use Rattle.turn_lock_tests.specs.Counting.{Counts, amount, added, AddsCount}

-- a counter's entry stands by its step
abbrev pub StandsByStep : Counter → Entry ℕ ℕ → Counter → Type 0
StandsByStep = ByStep (λ (c : Counter). c.limit) Counts (λ (c : Counter). c.phase)

added-append : (xs ys : List (Entry ℕ ℕ)) → added (xs ++ ys) ≡ added xs + added ys
added-append [] ys = omega arith
added-append (e ∷ es) ys = let ih = added-append es ys in omega (arith, ih)

amount_ok : (more : ℕ) (reply : Result ℕ OutOfMemory) → is_ok reply ≡ true → amount more reply ≡ more
amount_ok more (Ok count) ok = refl
amount_ok more (Err fault) ok = absurd cc

counted : (a z : Counter) (more : ℕ) (reply : Result ℕ OutOfMemory) → Counts a more reply z → z.count ≡ a.count + amount more reply
counted a z more (Ok count) h = h.1 ∙ h.0
counted a z more (Err fault) h = let same : z.count ≡ a.count = ap (λ (c : Counter). c.count) h in omega (arith, same)

runs_count : (a : Counter) (h : List (Entry ℕ ℕ)) (z : Counter) → Runs StandsByStep a h z → z.count ≡ a.count + added h
runs_count a [] z is = let same : a.count ≡ z.count = ap (λ (c : Counter). c.count) is in omega (arith, same)
runs_count a (e ∷ es) z h = let here = counted a h.0 e.call e.reply h.1.stepped in let ih = runs_count h.0 es z h.2 in omega (arith, here, ih)

one_of_two : (m k n : ℕ) → Contains (m ∷ k ∷ []) n → (m ≡ n) ⊎ (k ≡ n)
one_of_two m k n (zero, lt, is) = inl is
one_of_two m k n (suc zero, lt, is) = inr is
one_of_two m k n (suc (suc i), lt, is) = absurd (omega (arith, lt))

-- turns of two numbers add what those of each add
two_add : (m k : ℕ) (h : List (Entry ℕ ℕ)) → m ≢ k → All (λ (e : Entry ℕ ℕ). Contains (m ∷ k ∷ []) e.by) h → added h ≡ added (entries_by m h) + added (entries_by k h)
two_add m k [] apart each = refl
two_add m k (e ∷ es) apart each =
    go (eqb e.by m) (eqb e.by k) (two_add m k es apart (All-tail (λ (e : Entry ℕ ℕ). Contains (m ∷ k ∷ []) e.by) e es each))
    (⊎_elim (λ (is : m ≡ e.by). inl (eq-eqb e.by m (sym is), ne_eqb e.by k (λ same. apart (is ∙ same)))) (λ (is : k ≡ e.by). inr (ne_eqb e.by m (λ same. apart (sym same ∙ sym is)), eq-eqb e.by k (sym is)))
    (one_of_two m k e.by (All-head (λ (e : Entry ℕ ℕ). Contains (m ∷ k ∷ []) e.by) e es each)))
  where
    go : (p q : Bool) → added es ≡ added (entries_by m es) + added (entries_by k es) → ((p ≡ true) × (q ≡ false)) ⊎ ((p ≡ false) × (q ≡ true))
        → amount e.call e.reply + added es ≡ added (if p then e ∷ entries_by m es else entries_by m es) + added (if q then e ∷ entries_by k es else entries_by k es)
    go true true ih which = absurd (⊎_elim (λ h. let bad = h.1 in cc) (λ h. let bad = h.0 in cc) which)
    go true false ih which = omega (arith, ih)
    go false true ih which = omega (arith, ih)
    go false false ih which = absurd (⊎_elim (λ h. let bad = h.0 in cc) (λ h. let bad = h.1 in cc) which)

-- a closed counter, where one seat was joined into the closing one
total : (opening z : Counter) (w : Account ℕ ℕ) (k : ℕ) (calls : List (Entry ℕ ℕ)) → w.ended ≡ ended_seat k calls ∷ [] → Closes StandsByStep opening w z → z.count ≡ opening.count + (added w.own + added calls)
total opening z w k calls ended c =
    let each : All (λ (e : Entry ℕ ℕ). Contains (w.number ∷ k ∷ []) e.by) c.history =
    subst (λ (es : List (Ended ℕ ℕ)). All (λ (e : Entry ℕ ℕ). Contains (w.number ∷ map (λ (f : Ended ℕ ℕ). f.number) es) e.by) c.history) ended c.each in
    let pairs : AllPairs (λ (m n : ℕ). m ≢ n) (w.number ∷ k ∷ []) = subst (λ (es : List (Ended ℕ ℕ)). AllPairs (λ (m n : ℕ). m ≢ n) (w.number ∷ map (λ (f : Ended ℕ ℕ). f.number) es)) ended c.apart in
    let apart : w.number ≢ k = pairs 0 1 0 (omega arith) (omega arith) in
    let P : Ended ℕ ℕ → Type 0 = λ e. entries_by e.number c.history ≡ e.calls in
    let theirs : entries_by k c.history ≡ calls = All-head P (ended_seat k calls) [] (subst (λ (es : List (Ended ℕ ℕ)). All P es) ended c.theirs) in
    let counts = runs_count opening c.history z c.legal in
    let parts = two_add w.number k c.history apart each in
    let mine : added (entries_by w.number c.history) ≡ added w.own = ap added c.mine in
    let others : added (entries_by k c.history) ≡ added calls = ap added theirs in
    omega (arith, counts, parts, mine, others)

pub adds : (opening : Counter) (more : ℕ) (reply : Result ℕ OutOfMemory) (old new : Account ℕ ℕ) → Makes StandsByStep opening more reply old new → AddsCount more (is_ok reply) old new
adds opening more reply old new t = record {
  number = ap (λ (a : Account ℕ ℕ). a.number) t.same;
  parts = ap (λ (a : Account ℕ ℕ). a.parts) t.same;
  ended = ap (λ (a : Account ℕ ℕ). a.ended) t.same;
  adds = λ ok. let is = ap added t.adds in let sums = added-append old.own (entry old.number more reply t.phase ∷ []) in let here = amount_ok more reply ok in omega (arith, is, sums, here);
}

-- two seats, a turn each, and the count at the close
pub both_added : (opening z : Counter) (s0 s1 t1 s2 t2 w : Account ℕ ℕ) (n first second : ℕ) → s0 ≡ first_account 2 → s1 ≡ after_split s0 n → t1 ≡ newcomer_account s0 n
    → AddsCount first true s1 s2 → AddsCount second true t1 t2 → w ≡ joined s2 t2 → Closes StandsByStep opening w z → z.count ≡ opening.count + (first + second)
both_added opening z s0 s1 t1 s2 t2 w n first second new old comer one two both closes =
    let own0 : added s1.own ≡ 0 = ap (λ (a : Account ℕ ℕ). added a.own) old ∙ ap (λ (a : Account ℕ ℕ). added a.own) new in
    let own1 : added t1.own ≡ 0 = ap (λ (a : Account ℕ ℕ). added a.own) comer in
    let none0 : s2.ended ≡ [] = one.ended ∙ (ap (λ (a : Account ℕ ℕ). a.ended) old ∙ ap (λ (a : Account ℕ ℕ). a.ended) new) in
    let none1 : t2.ended ≡ [] = two.ended ∙ ap (λ (a : Account ℕ ℕ). a.ended) comer in
    let ended : w.ended ≡ ended_seat t2.number t2.own ∷ [] = ap (λ (a : Account ℕ ℕ). a.ended) both ∙ (λ i. none0 i ++ ended_seat t2.number t2.own ∷ none1 i) in
    let all = total opening z w t2.number t2.own ended closes in
    let own : added w.own ≡ added s2.own = ap (λ (a : Account ℕ ℕ). added a.own) both in
    let a = one.adds refl in let b = two.adds refl in
    omega (arith, all, own, own0, own1, a, b)
