-- The register of lists after each row that fits.
use Rattle.std.proofs.Common.{◌≡◌, ℕ, ◌+◌, ◌==◌, ◌<◌, ◌≤◌, Bool, true, false, cond, List, [], ◌∷◌, ◌++◌, Option, Some, None, refl, arith, subst, sym, ◌∙◌, ◌⊎◌, inl, inr}
use Rattle.std.proofs.lemmas.Bool.{cases_lt}
use Rattle.std.proofs.lemmas.Bool.Decides.{nat_tests}
use Rattle.ndis_base.specs.declared.Origin.{Origin}
use Rattle.ndis_base.specs.declared.Origin.TheVariants as origin
use Rattle.journal_types.specs.declared.Row.{Row}
use Rattle.journal_types.specs.declared.Row.TheVariants as row
use Rattle.home_laws.specs.Rows.{Label}
use Rattle.home_laws.specs.Standing.{IsYounger}
use Rattle.home_laws.proofs.Fits.{Register, empty, entered, registered, registered_rows, IsOriginLive, Fits, AllFit, IsSane}

-- the entries after one is changed
pub entered-here : (n : ℕ) (entry : Option Label) (live : ℕ → Option Label) → entered n entry live n ≡ entry
entered-here n entry live = grind (arith, nat_tests)

pub entered-other : (n m : ℕ) (entry : Option Label) (live : ℕ → Option Label) → (m == n) ≡ false → entered n entry live m ≡ live m
entered-other n m entry live h = rw h refl

pub is_same : (m n : ℕ) → (m == n) ≡ true → m ≡ n
is_same m n h = grind (arith, nat_tests)

pub is_other : (m n : ℕ) → m < n → (m == n) ≡ false
is_other m n h = grind (arith, nat_tests)

pub is_above : (m n : ℕ) → n < m → (m == n) ≡ false
is_above m n h = grind (arith, nat_tests)

-- a live list, and a number that isn't live
pub clash : (o : Option Label) (label : Label) → o ≡ Some label → o ≡ None → ⊥
clash o label a b = cc

-- a live list's number lies below the next one
pub live_below : (reg : Register) (n : ℕ) (label : Label) → IsSane reg → reg.live n ≡ Some label → n < reg.next
live_below reg n label s f = of (cases_lt n reg.next)
  where
    of : (n < reg.next) ⊎ (reg.next ≤ n) → n < reg.next
    of (inl h) = h
    of (inr h) = absurd (clash (reg.live n) label f (s.free n h))

pub next_is_free : (reg : Register) → IsSane reg → reg.live reg.next ≡ None
next_is_free reg s = s.free reg.next (omega arith)

young : (reg : Register) (o : Origin) → IsSane reg → IsOriginLive reg o → IsYounger reg.next o
young reg origin.Root s h = tt
young reg (origin.Clone list) s h = live_below reg list.0 h.label s h.found
young reg (origin.Copy list) s h = live_below reg list.0 h.label s h.found

some_same : (a b : Label) → Some a ≡ Some b → a ≡ b
some_same a b h = cc

-- a new list is entered, and a list that is home is struck out
sane_issue : (reg : Register) (n : ℕ) (label : Label) → IsSane reg → n ≡ reg.next → IsOriginLive reg label.origin → IsSane (record { next = reg.next + 1; live = entered n (Some label) reg.live })
sane_issue reg n label s e h = record {
  free = λ m g.
      let other : (m == n) ≡ false = is_above m n (omega (arith, e)) in
      entered-other n m (Some label) reg.live other ∙ s.free m (omega arith);
  younger = λ m found f.
      let cases : (b : Bool) → (m == n) ≡ b → cond b (Some label) (reg.live m) ≡ Some found → IsYounger m found.origin = elim [
        | true ↦ λ t g.
            let same : reg.next ≡ m = sym (is_same m n t ∙ e) in
            subst (λ (l : Label). IsYounger m l.origin) (some_same label found g) (subst (λ k. IsYounger k label.origin) same (young reg label.origin s h))
        | false ↦ λ t g. s.younger m found g
      ] in
      cases (m == n) refl f;
}

none_some : (label : Label) → None ≡ Some label → ⊥
none_some label h = cc

sane_home : (reg : Register) (n : ℕ) → IsSane reg → IsSane (record reg { live = entered n None reg.live })
sane_home reg n s = record {
  free = λ m g. none_either (m == n) (reg.live m) (s.free m g);
  younger = λ m found f.
      let cases : (b : Bool) → cond b None (reg.live m) ≡ Some found → IsYounger m found.origin = elim [
        | true ↦ λ g. absurd (none_some found g)
        | false ↦ λ g. s.younger m found g
      ] in
      cases (m == n) f;
}
  where
    none_either : (b : Bool) (o : Option Label) → o ≡ None → cond b None o ≡ None
    none_either true o h = refl
    none_either false o h = h

pub sane_empty : IsSane empty
sane_empty = record { free = λ n h. refl; younger = λ n label h. absurd (none_some label h) }

pub sane_after : (reg : Register) (r : Row) → IsSane reg → Fits reg r → IsSane (registered reg r)
sane_after reg (row.Issue list owner config direction cancel made frames) s f =
    sane_issue reg list.0 (record { owner = owner; direction = direction; cancel = cancel; origin = made; frames = frames }) s f.0 f.1
sane_after reg (row.Home list owner status) s f = sane_home reg list.0 s
sane_after reg _ s f = s

pub sane_rows : (reg : Register) (rows : List Row) → IsSane reg → AllFit reg rows → IsSane (registered_rows reg rows)
sane_rows reg [] s f = s
sane_rows reg (r ∷ rows) s f = sane_rows (registered reg r) rows (sane_after reg r s f.0) f.1

-- rows one after the other
pub AllFit-append : (reg : Register) (rows others : List Row) → AllFit reg rows → AllFit (registered_rows reg rows) others → AllFit reg (rows ++ others)
AllFit-append reg [] others f g = g
AllFit-append reg (r ∷ rows) others f g = (f.0, AllFit-append (registered reg r) rows others f.1 g)

pub AllFit-front : (reg : Register) (rows others : List Row) → AllFit reg (rows ++ others) → AllFit reg rows
AllFit-front reg [] others f = tt
AllFit-front reg (r ∷ rows) others f = (f.0, AllFit-front (registered reg r) rows others f.1)

pub AllFit-back : (reg : Register) (rows others : List Row) → AllFit reg (rows ++ others) → AllFit (registered_rows reg rows) others
AllFit-back reg [] others f = f
AllFit-back reg (r ∷ rows) others f = AllFit-back (registered reg r) rows others f.1

pub registered_rows-append : (reg : Register) (rows others : List Row) → registered_rows reg (rows ++ others) ≡ registered_rows (registered_rows reg rows) others
registered_rows-append reg [] others = refl
registered_rows-append reg (r ∷ rows) others = registered_rows-append (registered reg r) rows others

-- the next number never falls
pub next_after : (reg : Register) (r : Row) → reg.next ≤ (registered reg r).next
next_after reg (row.Issue list owner config direction cancel made frames) = omega arith
next_after reg (row.Home list owner status) = omega arith
next_after reg _ = omega arith

pub next_rows : (reg : Register) (rows : List Row) → reg.next ≤ (registered_rows reg rows).next
next_rows reg [] = omega arith
next_rows reg (r ∷ rows) = omega (arith, next_after reg r, next_rows (registered reg r) rows)
