-- The frames of a list, one after the other.
use Rattle.std.proofs.Common.{◌≡◌, ◌≢◌, ℕ, ◌+◌, ◌<◌, ◌≤◌, Bool, true, false, List, [], ◌∷◌, ◌++◌, Option, Some, None, length, take, map, set, slice_index_or, All, refl, sym, ap, ◌∙◌, subst, arith}
use Rattle.std.proofs.lemmas.List.{take_more, take_more_set, take_at, append_cancel_left, length-append, length-map, length-take-le, map-append, get_or-map, get_or-take}
use Rattle.std.proofs.lemmas.Slice.Eq.{bytes_eq-Decides}
use Rattle.std.specs.Cmp.Lexicographic.{pointwise_decides}
use Rattle.program_types.specs.declared.Rule.{Rule}
use Rattle.program_types.specs.Apply.{apply, onto, applied}
use Rattle.frame_rules.specs.declared.applying.Verdict.{Verdict}
use Rattle.frame_rules.specs.declared.applying.Verdict.TheVariants.{Same, Changed, Drop}
use Rattle.frame_rules.specs.Space.{Space}
use Rattle.frame_rules.specs.Tells.{Tells}
use Rattle.stack_rules.specs.Tests.{same_frames}
use Rattle.hand_lemmas.specs.Frames.{AreSized, AreAddressed}
use Rattle.hand_lemmas.proofs.Frames.{applied_sized}
use Rattle.frame_programs.specs.Judged.{both, Judges, IsMadeOf}
use Rattle.frame_programs.specs.Spaces.{written}

-- one more frame behind those that are there
abbrev pub push : Option (List (List ℕ)) → Option (List ℕ) → Option (List (List ℕ))
push None last = None
push (Some fs) None = None
push (Some fs) (Some f) = Some (fs ++ f ∷ [])

onto_push : (a : Option (List ℕ)) (b : Option (List (List ℕ))) (c : Option (List ℕ)) → onto a (push b c) ≡ push (onto a b) c
onto_push None b c = refl
onto_push (Some f) None c = refl
onto_push (Some f) (Some fs) None = refl
onto_push (Some f) (Some fs) (Some g) = refl

onto_none : (a : Option (List ℕ)) → onto a (Some []) ≡ push (Some []) a
onto_none None = refl
onto_none (Some f) = refl

-- a program makes of one more frame what it makes of it alone
pub applied_push : (max : ℕ) (rules : List Rule) (fs : List (List ℕ)) (f : List ℕ) → applied max rules (fs ++ f ∷ []) ≡ push (applied max rules fs) (apply max rules f)
applied_push max rules [] f = onto_none (apply max rules f)
applied_push max rules (x ∷ xs) f = ap (onto (apply max rules x)) (applied_push max rules xs f) ∙ onto_push (apply max rules x) (applied max rules xs) (apply max rules f)

front_same : (xs ys : List (List ℕ)) (a b : List ℕ) → xs ++ a ∷ [] ≡ ys ++ b ∷ [] → xs ≡ ys
front_same xs ys a b e =
    let as_long : length ys ≡ length xs = omega (arith, ap length e, length-append xs (a ∷ []), length-append ys (b ∷ [])) in
    sym (take_at xs (a ∷ []) (length xs) refl) ∙ ap (take (length xs)) e ∙ take_at ys (b ∷ []) (length xs) as_long

last_same : (xs ys : List (List ℕ)) (a b : List ℕ) → xs ≡ ys → xs ++ a ∷ [] ≡ ys ++ b ∷ [] → a ≡ b
last_same xs ys a b same e = let one : a ∷ [] ≡ b ∷ [] = append_cancel_left ys (a ∷ []) (b ∷ []) (ap (λ (fs : List (List ℕ)). fs ++ a ∷ []) (sym same) ∙ e) in cc

-- the verdict on all frames so far, and on one more
pub judged_push : (v w : Verdict) (value : Option (List (List ℕ))) (one : Option (List ℕ)) (fs made : List (List ℕ)) (f wrote : List ℕ) → Judges v value fs made → Tells w one f wrote → Judges (both v w) (push value one) (fs ++ f ∷ []) (made ++ wrote ∷ [])
judged_push Drop w value one fs made f wrote j t = ap (λ x. push x one) j
judged_push Same Drop value one fs made f wrote j t = ap (λ x. push x one) j.0 ∙ ap (push (Some fs)) t
judged_push Same Same value one fs made f wrote j t = (ap (λ x. push x one) j.0 ∙ ap (push (Some fs)) t.0, ap (λ (xs : List (List ℕ)). xs ++ wrote ∷ []) j.1 ∙ ap (λ (x : List ℕ). fs ++ x ∷ []) t.1)
judged_push Same Changed value one fs made f wrote j t = (
  ap (λ x. push x one) j.0 ∙ ap (push (Some fs)) t.0 ∙ ap (λ (xs : List (List ℕ)). Some (xs ++ wrote ∷ [])) (sym j.1),
  λ e. t.1 (last_same made fs wrote f j.1 e),
)
judged_push Changed Drop value one fs made f wrote j t = ap (λ x. push x one) j.0 ∙ ap (push (Some made)) t
judged_push Changed Same value one fs made f wrote j t = (
  ap (λ x. push x one) j.0 ∙ ap (push (Some made)) t.0 ∙ ap (λ (x : List ℕ). Some (made ++ x ∷ [])) (sym t.1),
  λ e. j.1 (front_same made fs wrote f e),
)
judged_push Changed Changed value one fs made f wrote j t = (ap (λ x. push x one) j.0 ∙ ap (push (Some made)) t.0, λ e. j.1 (front_same made fs wrote f e))

-- what stands in one more space
pub written_more : (spaces : List Space) (i : ℕ) (d : Space) → i < length spaces → written spaces (i + 1) ≡ written spaces i ++ (slice_index_or spaces i d).bytes ∷ []
written_more spaces i d within = ap (map (λ (s : Space). s.bytes)) (take_more spaces i d within) ∙ map-append (λ (s : Space). s.bytes) (take i spaces) (slice_index_or spaces i d ∷ [])

written_set : (spaces : List Space) (i : ℕ) (s : Space) → i < length spaces → written (set spaces i s) (i + 1) ≡ written spaces i ++ s.bytes ∷ []
written_set spaces i s within = ap (map (λ (s : Space). s.bytes)) (take_more_set spaces i s within) ∙ map-append (λ (s : Space). s.bytes) (take i spaces) (s ∷ [])

-- so the verdict on the first i frames becomes one on the first i + 1
pub judged_more : (rules : List Rule) (frames : List (List ℕ)) (spaces : List Space) (i : ℕ) (s : Space) (v w r : Verdict) (f : List ℕ) → i < length frames → i < length spaces → f ≡ slice_index_or frames i [] → r ≡ both v w
    → Judges v (applied 1518 rules (take i frames)) (take i frames) (written spaces i) → Tells w (apply 1518 rules f) f s.bytes
    → Judges r (applied 1518 rules (take (i + 1) frames)) (take (i + 1) frames) (written (set spaces i s) (i + 1))
judged_more rules frames spaces i s v w r f within inside is verdict j t =
    let more : take (i + 1) frames ≡ take i frames ++ f ∷ [] = take_more frames i [] within ∙ ap (λ (x : List ℕ). take i frames ++ x ∷ []) (sym is) in
    let wrote = written spaces i ++ s.bytes ∷ [] in
    let all : Judges (both v w) (applied 1518 rules (take i frames ++ f ∷ [])) (take i frames ++ f ∷ []) wrote =
    subst (λ value. Judges (both v w) value (take i frames ++ f ∷ []) wrote) (sym (applied_push 1518 rules (take i frames) f)) (judged_push v w (applied 1518 rules (take i frames)) (apply 1518 rules f) (take i frames) (written spaces i) f s.bytes j t) in
    let grown : Judges (both v w) (applied 1518 rules (take (i + 1) frames)) (take (i + 1) frames) wrote = subst (λ fs. Judges (both v w) (applied 1518 rules fs) fs wrote) (sym more) all in
    subst (λ x. Judges x (applied 1518 rules (take (i + 1) frames)) (take (i + 1) frames) (written (set spaces i s) (i + 1))) (sym verdict)
    (subst (λ xs. Judges (both v w) (applied 1518 rules (take (i + 1) frames)) (take (i + 1) frames) xs) (sym (written_set spaces i s inside)) grown)

-- the test of frames tells which are the same
pub other_frames : (made frames : List (List ℕ)) → made ≢ frames → same_frames made frames ≡ false
other_frames made frames other = by_test (same_frames made frames) (pointwise_decides bytes_eq-Decides made frames).0
  where
    by_test : (b : Bool) → (b ≡ true → made ≡ frames) → b ≡ false
    by_test true same = absurd (other (same refl))
    by_test false same = refl

pub is_made_of : (rules : List Rule) (frames made : List (List ℕ)) → AreAddressed rules → AreSized frames → Judges Changed (applied 1518 rules frames) frames made → IsMadeOf (applied 1518 rules frames) frames made
is_made_of rules frames made six sized changed = record {
  is = changed.0;
  other = other_frames made frames changed.1;
  sized = applied_sized rules frames made six sized changed.0;
}

-- what stands in one of the first so many spaces
pub short_at : (spaces : List Space) (many i : ℕ) (s : Space) → i < many → many ≤ length spaces → s ≡ slice_index_or spaces i s → All (λ (f : List ℕ). length f ≤ 1518) (written spaces many) → length s.bytes ≤ 1518
short_at spaces many i s below within is short =
    let inside : i < length (take many spaces) = omega (arith, length-take-le many spaces within, below) in
    let counted : i < length (written spaces many) = omega (arith, length-map (take many spaces) (λ (s : Space). s.bytes), inside) in
    let here : slice_index_or (written spaces many) i s.bytes ≡ s.bytes = get_or-map (λ (s : Space). s.bytes) (take many spaces) i s s.bytes inside ∙ ap (λ (s : Space). s.bytes) (get_or-take many spaces i s below ∙ sym is) in
    subst (λ (f : List ℕ). length f ≤ 1518) here (short i s.bytes counted)

-- frames that fit a list are short
pub short_frames : (made : List (List ℕ)) → AreSized made → All (λ (f : List ℕ). length f ≤ 1518) made
short_frames made sized = sized.fits.short
