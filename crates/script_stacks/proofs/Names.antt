-- A text that is no value's name names none.
use Rattle.std.proofs.Common.{◌≡◌, ◌≢◌, ℕ, Bool, true, false, cond, List, [], ◌∷◌, bytes_eq, Result, Ok, Err, refl, ap, ◌∙◌}
use Rattle.std.proofs.lemmas.Slice.Eq.{bytes_eq-Decides}
use Rattle.script_types.specs.declared.ScriptCause.{ScriptCause}
use Rattle.script_types.specs.declared.ScriptCause.TheVariants as cause
use Rattle.script_forms.specs.Results.{◌>>=◌}
use Rattle.script_forms.specs.Values.{named}

differ : (b : Bool) (xs ys : List ℕ) → bytes_eq xs ys ≡ b → xs ≢ ys → b ≡ false
differ true xs ys e other = absurd (other ((bytes_eq-Decides xs ys).0 e))
differ false xs ys e other = refl

named-none : {A : Type 0} (name_of : A → List ℕ) (items : List A) (text : List ℕ) → ((a : A) → text ≢ name_of a) → named name_of items text ≡ Err cause.Range
named-none name_of [] text other = refl
named-none name_of (a ∷ items) text other =
    ap (λ b. cond b (Ok a) (named name_of items text)) (differ _ text (name_of a) refl (other a)) ∙ named-none name_of items text other

-- where a text was read, it is no value's name
pub named_not : {A : Type 0} (name_of : A → List ℕ) (items : List A) (told : Result (List ℕ) ScriptCause) (text : List ℕ) → told ≡ Ok text → ((a : A) → text ≢ name_of a)
    → (told >>= named name_of items) ≡ Err cause.Range
named_not name_of items told text is other = ap (λ r. r >>= named name_of items) is ∙ named-none name_of items text other

-- the same with a step behind
pub named_not_then : {A B : Type 0} (name_of : A → List ℕ) (items : List A) (told : Result (List ℕ) ScriptCause) (text : List ℕ) (more : A → Result B ScriptCause) → told ≡ Ok text
    → ((a : A) → text ≢ name_of a) → (told >>= (λ t. named name_of items t >>= more)) ≡ Err cause.Range
named_not_then name_of items told text more is other =
    ap (λ r. r >>= (λ t. named name_of items t >>= more)) is ∙ ap (λ r. r >>= more) (named-none name_of items text other)
