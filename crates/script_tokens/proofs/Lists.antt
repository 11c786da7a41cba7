-- Lists whose items are read one after the other, from their tokens.
use Rattle.std.proofs.Common.{◌≡◌, ℕ, ◌-◌, ◌<◌, ◌≤◌, List, [], ◌∷◌, ◌++◌, length, Result, Ok, Err, Some, None, sym, ap, subst, ◌∙◌, arith, append_assoc, append-nil, length-append}
use Rattle.json.specs.Token.{Token}
use Rattle.json.specs.Json.{after_end_array}
use Rattle.serde_json.specs.Data.{Data, array}
use Rattle.serde_json.specs.View.{items_of}
use Rattle.json_forms.specs.Lists.{then_read, read_all}
use Rattle.json_forms.proofs.Reading.{list_of-items_of}
use Rattle.json_tokens.specs.Tokens.{IsValueAt, AreItemsAt}
use Rattle.json_tokens.proofs.Steps.{array_at, no_more_items, one_more_item}
use Rattle.script_types.specs.declared.ScriptCause.{ScriptCause}
use Rattle.script_forms.specs.Results.{◌>>=◌}
use Rattle.script_forms.specs.Values.{counted, frame_in, frames_in}
use Rattle.script_forms.proofs.Lists.{counted-good}

after_first : {A E : Type 0} (read : List A → Data → Result A E) (before after : List A) (ds : List Data) (d : Data) (a : A)
    → ((b : A) → read_all read (before ++ b ∷ []) ds ≡ Ok after → read_all read (before ++ b ∷ []) (ds ++ d ∷ []) ≡ Ok (after ++ a ∷ []))
    → (r : Result A E) → then_read r (λ b. read_all read (before ++ b ∷ []) ds) ≡ Ok after → then_read r (λ b. read_all read (before ++ b ∷ []) (ds ++ d ∷ [])) ≡ Ok (after ++ a ∷ [])
after_first read before after ds d a more (Ok b) h = more b h
after_first read before after ds d a more (Err fault) h = absurd (cc)

-- one more value is read behind those that were
pub read_all-push : {A E : Type 0} (read : List A → Data → Result A E) (before after : List A) (ds : List Data) (d : Data) (a : A)
    → read_all read before ds ≡ Ok after → read after d ≡ Ok a → read_all read before (ds ++ d ∷ []) ≡ Ok (after ++ a ∷ [])
read_all-push read before after [] d a all one =
    let same : before ≡ after = cc in
    let first : read before d ≡ Ok a = ap (λ b. read b d) same ∙ one in
    ap (λ r. then_read r (λ b. Ok (before ++ b ∷ []))) first ∙ ap (λ b. Ok (b ++ a ∷ [])) same
read_all-push read before after (e ∷ ds) d a all one =
    after_first read before after ds d a (λ b h. read_all-push read (before ++ b ∷ []) after ds d a h one) (read before e) all

-- items were read up to here, and what follows goes on behind them
abbrev pub ReadSoFar : {A E : Type 0} → ℕ → (List A → Data → Result A E) → List Token → List Token → List A → Type 0
ReadSoFar depth read start now xs =
    (done : List Data) × (length done ≡ length xs) × (read_all read [] done ≡ Ok xs)
    × ((ds : List Data) (rest : List Token) → AreItemsAt (depth - 1) now ds rest → AreItemsAt (depth - 1) start (done ++ ds) rest)

module _ {A E : Type 0} (depth : ℕ) (read : List A → Data → Result A E) (start : List Token) where
  pub so_far-none : (xs : List A) → xs ≡ [] → ReadSoFar depth read start start xs
  so_far-none xs empty = ([], sym (ap (λ ys. length ys) empty), sym (ap Ok empty), λ ds rest later. later)

  pub so_far-more : (now next : List Token) (xs ys : List A) (d : Data) (x : A) → ReadSoFar depth read start now xs
      → after_end_array now ≡ None → IsValueAt (depth - 1) now d next → read xs d ≡ Ok x → ys ≡ xs ++ x ∷ [] → ReadSoFar depth read start next ys
  so_far-more now next xs ys d x before going here is pushed =
      let read_more : read_all read [] (before.0 ++ d ∷ []) ≡ Ok ys = read_all-push read [] xs before.0 d x before.2 is ∙ ap Ok (sym pushed) in
      let size = before.1 in
      let sizes : length ys ≡ length (xs ++ x ∷ []) = ap (λ zs. length zs) pushed in
      let both : length (before.0 ++ d ∷ []) ≡ length ys = omega (arith, length-append before.0 (d ∷ []), length-append xs (x ∷ []), size, sizes) in (
        before.0 ++ d ∷ [],
        both,
        read_more,
        λ ds rest later. subst (λ (es : List Data). AreItemsAt (depth - 1) start es rest) (sym (append_assoc before.0 (d ∷ []) ds)) (before.3 (d ∷ ds) rest (one_more_item (depth - 1) now d next ds rest going here later)),
      )

  pub so_far-over : (ts now rest : List Token) (xs : List A) → ReadSoFar depth read start now xs → 0 < depth → ts ≡ Token.begin_array ∷ start → after_end_array now ≡ Some rest
      → (ds : List Data) × IsValueAt depth ts (array (items_of ds)) rest × (length ds ≡ length xs) × (read_all read [] ds ≡ Ok xs)
  so_far-over ts now rest xs before deep begun over =
      let all = before.3 [] rest (no_more_items (depth - 1) now rest over) in
      let items = subst (λ (es : List Data). AreItemsAt (depth - 1) start es rest) (append-nil before.0) all in
      (before.0, array_at depth ts start before.0 rest deep begun items, before.1, before.2)

-- a list of frames, of which each was read
pub frames_in-array : (ds : List Data) (fs : List (List ℕ)) → 1 ≤ length ds → length ds ≤ 8 → read_all (λ before. frame_in) [] ds ≡ Ok fs → frames_in (array (items_of ds)) ≡ Ok fs
frames_in-array ds fs some few is =
    ap (λ (r : Result (List Data) ScriptCause). r >>= (λ es. read_all (λ before. frame_in) [] es)) (ap (counted 1 8) (list_of-items_of ds) ∙ counted-good 1 8 ds some few) ∙ is
