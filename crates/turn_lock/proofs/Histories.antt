-- A history that grows by an entry at its end, and what its entries by number are.
use Rattle.std.proofs.Common.{◌≡◌, ◌≢◌, ◌⊎◌, inr, ℕ, zero, suc, ◌+◌, ◌/◌, ◌<◌, ◌≤◌, nat_lt, Bool, true, false, eqb, if◌then◌else◌, List, [], ◌∷◌, ◌++◌, length, map, get_or, sym, refl, ap, ◌∙◌, subst, ⊎_elim, arith, append_assoc, append-nil, Result, eq-eqb, ne_eqb}
use Rattle.std.proofs.lemmas.Nat.{div-mul-add}
use Rattle.std.proofs.lemmas.List.Elements.{All-nil, All-cons}
use Rattle.std.proofs.lemmas.Bool.Decides.{nat_tests}
use Rattle.std.specs.List.{All, AllPairs}
use mathlib.Core.Option.{some}
use lib.ListN.{get_elem?}
use Rattle.ndis_base.specs.declared.OutOfMemory.{OutOfMemory}
use Rattle.ndis_base.specs.declared.Phase.{Phase}
use Rattle.ndis_base.specs.declared.Phase.TheVariants.{Halted, Paused, Restarting, Running, Pausing}
use Rattle.turn_lock.specs.declared.view.Entry.{Entry}
use Rattle.turn_lock.specs.declared.view.Ended.{Ended}
use Rattle.turn_lock.specs.History.{StartsWith, phase_number, front_word, longer, shorter, phase_after, entries_by, ByStep, Runs}
use Rattle.turn_lock.specs.Orderly.{times}

pub phase_small : (p : Phase) → phase_number p < 8
phase_small Halted = omega arith
phase_small Paused = omega arith
phase_small Restarting = omega arith
phase_small Running = omega arith
phase_small Pausing = omega arith

pub turns_in : (n : ℕ) (p : Phase) → front_word n p / 8 ≡ n
turns_in n p = div-mul-add n 8 (phase_number p) (phase_small p)

pub starts_self : {A : Type 0} (xs : List A) → StartsWith xs xs
starts_self xs = ([], sym (append-nil xs))

pub starts_more : {A : Type 0} (ys xs zs : List A) → StartsWith ys xs → StartsWith (ys ++ zs) xs
starts_more ys xs zs h = (h.0 ++ zs, ap (λ l. l ++ zs) h.1 ∙ append_assoc xs h.0 zs)

pub starts_trans : {A : Type 0} (zs ys xs : List A) → StartsWith zs ys → StartsWith ys xs → StartsWith zs xs
starts_trans zs ys xs h k = (k.0 ++ h.0, h.1 ∙ (ap (λ l. l ++ h.0) k.1 ∙ append_assoc xs k.0 h.0))

-- of two beginnings of one list the longer begins with the shorter
pub starts_shorter : {A : Type 0} (h xs ys : List A) → StartsWith h xs → StartsWith h ys → length xs ≤ length ys → StartsWith ys xs
starts_shorter h [] ys p q le = (ys, refl)
starts_shorter [] (x ∷ xs) ys p q le = cc
starts_shorter (z ∷ zs) (x ∷ xs) [] p q le = absurd (omega arith)
starts_shorter {A = A} (z ∷ zs) (x ∷ xs) (y ∷ ys) p q le =
    let head : y ≡ x = cc in
    let left : zs ≡ xs ++ p.0 = cc in
    let right : zs ≡ ys ++ q.0 = cc in
    let t = starts_shorter zs xs ys (p.0, left) (q.0, right) (omega arith) in
    (t.0, λ i. head i ∷ t.1 i)

module _ {C R : Type 0} where
  -- both histories of a join begin the longer
  pub longer_begins : (h a b : List (Entry C R)) → StartsWith h (longer a b) → StartsWith h (shorter a b) → StartsWith (longer a b) a × StartsWith (longer a b) b
  longer_begins h a b = go (nat_lt (length a) (length b)) refl
    where
      go : (c : Bool) → nat_lt (length a) (length b) ≡ c → StartsWith h (if c then b else a) → StartsWith h (if c then a else b) → StartsWith (if c then b else a) a × StartsWith (if c then b else a) b
      go true is p q = (starts_shorter h a b q p (grind (arith, nat_tests)), starts_self b)
      go false is p q = (starts_self a, starts_shorter h b a q p (grind (arith, nat_tests)))

  pub phase_snoc : (p : Phase) (h : List (Entry C R)) (e : Entry C R) → phase_after p (h ++ e ∷ []) ≡ e.phase
  phase_snoc p [] e = refl
  phase_snoc p (t ∷ ts) e = phase_snoc t.phase ts e

  pub by_snoc : (by : ℕ) (h : List (Entry C R)) (e : Entry C R) → e.by ≡ by → entries_by by (h ++ e ∷ []) ≡ entries_by by h ++ e ∷ []
  by_snoc by [] e is = ap (λ b. if b then e ∷ [] else []) (eq-eqb e.by by is)
  by_snoc by (t ∷ ts) e is = go (by_snoc by ts e is) (eqb t.by by)
    where
      go : entries_by by (ts ++ e ∷ []) ≡ entries_by by ts ++ e ∷ [] → (b : _) → (if b then t ∷ entries_by by (ts ++ e ∷ []) else entries_by by (ts ++ e ∷ [])) ≡ (if b then t ∷ entries_by by ts else entries_by by ts) ++ e ∷ []
      go ih true = ap (λ l. t ∷ l) ih
      go ih false = ih

  pub by_other : (by : ℕ) (h : List (Entry C R)) (e : Entry C R) → e.by ≢ by → entries_by by (h ++ e ∷ []) ≡ entries_by by h
  by_other by [] e not = ap (λ b. if b then e ∷ [] else []) (ne_eqb e.by by not)
  by_other by (t ∷ ts) e not = go (by_other by ts e not) (eqb t.by by)
    where
      go : entries_by by (ts ++ e ∷ []) ≡ entries_by by ts → (b : _) → (if b then t ∷ entries_by by (ts ++ e ∷ []) else entries_by by (ts ++ e ∷ [])) ≡ (if b then t ∷ entries_by by ts else entries_by by ts)
      go ih true = ap (λ l. t ∷ l) ih
      go ih false = ih

  -- where each number has no entries or fits, the number of each entry fits
  pub each_by : (P : ℕ → Type 0) (h : List (Entry C R)) → ((by : ℕ) → (entries_by by h ≡ []) ⊎ P by) → All (λ (e : Entry C R). P e.by) h
  each_by P [] fits = All-nil (λ (e : Entry C R). P e.by)
  each_by P (t ∷ ts) fits = All-cons (λ (e : Entry C R). P e.by) t ts (head (eqb t.by t.by) (eq-eqb t.by t.by refl) (fits t.by)) (each_by P ts (λ by. tail by (eqb t.by by) (fits by)))
    where
      head : (b : Bool) → b ≡ true → ((if b then t ∷ entries_by t.by ts else entries_by t.by ts) ≡ []) ⊎ P t.by → P t.by
      head true is f = ⊎_elim (λ e. absurd cc) (λ p. p) f
      head false is f = absurd cc

      tail : (by : ℕ) (b : Bool) → ((if b then t ∷ entries_by by ts else entries_by by ts) ≡ []) ⊎ P by → (entries_by by ts ≡ []) ⊎ P by
      tail by true f = ⊎_elim (λ e. absurd cc) (λ p. inr p) f
      tail by false f = f

  pub times-append : (n : ℕ) (es fs : List (Ended C R)) → times n (es ++ fs) ≡ times n es + times n fs
  times-append n [] fs = omega arith
  times-append n (e ∷ es) fs = let ih = times-append n es fs in omega (arith, ih)

  -- a number that no ended seat has stands among them no time
  pub times_none : (n : ℕ) (es : List (Ended C R)) → ((i : ℕ) (e : Ended C R) → get_elem? es i ≡ some e → e.number ≢ n) → times n es ≡ 0
  times_none n [] none = refl
  times_none n (e ∷ es) none = let ih = times_none n es (λ i f h. none (suc i) f h) in let here = none 0 e refl in
      ap (λ b. (if b then 1 else 0) + times n es) (ne_eqb e.number n here) ∙ omega (arith, ih)

  times_some : (n : ℕ) (es : List (Ended C R)) (j d : ℕ) → j < length (map (λ (e : Ended C R). e.number) es) → get_or (map (λ (e : Ended C R). e.number) es) j d ≡ n → 1 ≤ times n es
  times_some n [] j d lt is = absurd (omega arith)
  times_some n (e ∷ es) zero d lt is = let here : (if eqb e.number n then 1 else 0) ≡ 1 = ap (λ b. let k : ℕ = if b then 1 else 0 in k) (eq-eqb e.number n is) in omega (arith, here)
  times_some n (e ∷ es) (suc j) d lt is = let ih = times_some n es j d (omega arith) is in omega (arith, ih)

  numbers_apart : (es : List (Ended C R)) → ((n : ℕ) → times n es ≤ 1) → AllPairs (λ (m n : ℕ). m ≢ n) (map (λ (e : Ended C R). e.number) es)
  numbers_apart [] few i j d lt len = absurd (omega arith)
  numbers_apart (e ∷ es) few i zero d lt len = absurd (omega arith)
  numbers_apart (e ∷ es) few zero (suc j) d lt len = λ same.
      let more = times_some e.number es j d (omega arith) (sym same) in
      let here : (if eqb e.number e.number then 1 else 0) ≡ 1 = ap (λ b. let k : ℕ = if b then 1 else 0 in k) (eq-eqb e.number e.number refl) in
      let all = few e.number in omega (arith, more, here, all)
  numbers_apart (e ∷ es) few (suc i) (suc j) d lt len = numbers_apart es (λ n. let all = few n in omega (arith, all)) i j d (omega arith) (omega arith)

  -- a number of its own and numbers of ended seats, none of them twice
  pub apart_numbers : (k : ℕ) (es : List (Ended C R)) → times k es ≡ 0 → ((n : ℕ) → times n es ≤ 1) → AllPairs (λ (m n : ℕ). m ≢ n) (k ∷ map (λ (e : Ended C R). e.number) es)
  apart_numbers k es none few i zero d lt len = absurd (omega arith)
  apart_numbers k es none few zero (suc j) d lt len = λ same. let more = times_some k es j d (omega arith) (sym same) in omega (arith, more, none)
  apart_numbers k es none few (suc i) (suc j) d lt len = numbers_apart es few i j d (omega arith) (omega arith)

module _ {O C R : Type 0} (Stands : O → Entry C R → O → Type 0) where
  pub runs_snoc : (a : O) (h : List (Entry C R)) (b : O) (e : Entry C R) (z : O) → Runs Stands a h b → Stands b e z → Runs Stands a (h ++ e ∷ []) z
  runs_snoc a [] b e z is did = (z, subst (λ (o : O). Stands o e z) (sym is) did, refl)
  runs_snoc a (t ∷ ts) b e z h did = (h.0, h.1, runs_snoc h.0 ts b e z h.2 did)

module _ {O C R F : Type 0} (fixed : O → F) (steps : O → C → Result R OutOfMemory → O → Type 0) (phase_of : O → Phase) where
  -- no step changes the fixed part
  pub runs_fixed : (a : O) (h : List (Entry C R)) (z : O) → Runs (ByStep fixed steps phase_of) a h z → fixed z ≡ fixed a
  runs_fixed a [] z is = ap fixed (sym is)
  runs_fixed a (t ∷ ts) z h = runs_fixed h.0 ts z h.2 ∙ h.1.same
