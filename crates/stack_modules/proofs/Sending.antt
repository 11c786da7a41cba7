-- The last of some filters that has a pair of handlers.
use Rattle.std.proofs.Common.{◌≡◌, ℕ, ◌-◌, ◌≤◌, Bool, true, false, if◌then◌else◌, List, [], ◌∷◌, ◌++◌, length, take, drop, slice_index_or, reverse, refl, sym, ap, ◌∙◌, arith}
use Rattle.std.proofs.lemmas.List.{reverse-append}
use Rattle.journal_types.specs.declared.Target.{Target}
use Rattle.journal_types.specs.declared.Target.TheVariants.{Module}
use Rattle.ndis_base.specs.declared.ModuleId.TheVariants.{Filter}
use Rattle.stack_rules.specs.Targets.{first_filter}

take_all : (xs : List ℕ) → take (length xs) xs ≡ xs
take_all [] = refl
take_all (x ∷ xs) = ap (λ ys. x ∷ ys) (take_all xs)

first_more : (has : ℕ → Bool) (xs : List ℕ) (f : ℕ) (other : Target) → first_filter has (xs ++ f ∷ []) other ≡ first_filter has xs (if has f then Module (Filter f) else other)
first_more has [] f other = refl
first_more has (x ∷ xs) f other = ap (λ (t : Target). if has x then Module (Filter x) else t) (first_more has xs f other)

last_of : (has : ℕ → Bool) (f : ℕ) (rest : List ℕ) (n : ℕ) (other : Target) → n ≡ length rest
    → first_filter has (reverse (take n rest)) (if has f then Module (Filter f) else other) ≡ first_filter has (reverse (f ∷ rest)) other
last_of has f rest n other e =
    ap (λ k. first_filter has (reverse (take k rest)) (if has f then Module (Filter f) else other)) e
    ∙ ap (λ xs. first_filter has (reverse xs) (if has f then Module (Filter f) else other)) (take_all rest)
    ∙ sym (first_more has (reverse rest) f other)
    ∙ ap (λ xs. first_filter has xs other) (sym (reverse-append (f ∷ []) rest))

pub sends_then : (has : ℕ → Bool) (fs : List ℕ) (other : Target) → 1 ≤ length fs → has (slice_index_or fs 0 0) ≡ true
    → first_filter has (reverse (take (length fs - 1) (drop 1 fs))) (Module (Filter (slice_index_or fs 0 0))) ≡ first_filter has (reverse fs) other
sends_then has [] other some e = absurd (omega (arith, some))
sends_then has (f ∷ rest) other some e =
    ap (λ (b : Bool). first_filter has (reverse (take (length (f ∷ rest) - 1) rest)) (if b then Module (Filter f) else other)) (sym e)
    ∙ last_of has f rest (length (f ∷ rest) - 1) other (omega arith)

pub sends_else : (has : ℕ → Bool) (fs : List ℕ) (other : Target) → 1 ≤ length fs → has (slice_index_or fs 0 0) ≡ false
    → first_filter has (reverse (take (length fs - 1) (drop 1 fs))) other ≡ first_filter has (reverse fs) other
sends_else has [] other some e = absurd (omega (arith, some))
sends_else has (f ∷ rest) other some e =
    ap (λ (b : Bool). first_filter has (reverse (take (length (f ∷ rest) - 1) rest)) (if b then Module (Filter f) else other)) (sym e)
    ∙ last_of has f rest (length (f ∷ rest) - 1) other (omega arith)
