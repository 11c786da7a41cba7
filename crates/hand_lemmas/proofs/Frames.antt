-- A frame program leaves as many frames as there were, each of at least 14 bytes and within the limit.
use Rattle.std.proofs.Common.{◌≡◌, ℕ, ◌+◌, ◌≤◌, ◌&&◌, ◌==◌, Bool, true, false, cond, List, [], ◌∷◌, ◌++◌, Option, Some, None, length, take, drop, nat_le, nat_lt, slice_set, length-set, refl, sym, ap, ◌∙◌, subst, arith, All}
use Rattle.std.proofs.lemmas.Bool.Decides.{nat_tests}
use Rattle.std.proofs.lemmas.Option.{same_Some, option_and_then_some}
use Rattle.std.proofs.lemmas.List.{length-append, length-drop, length-take-le}
use Rattle.std.proofs.lemmas.List.Elements.{All-nil, All-cons, All-head, All-tail, All-weaker}
use Rattle.program_types.specs.declared.Action.{Action}
use Rattle.program_types.specs.declared.Action.TheVariants as action
use Rattle.program_types.specs.declared.Rule.{Rule}
use Rattle.program_types.specs.Apply.{pair_at, tag_protocol, tag, pushed, popped, holds, act, apply_rule, apply, onto, applied}
use Rattle.hand_lemmas.specs.Frames.{IsFrame, AreSized, IsAddressed, AreAddressed}

-- a frame of another length within the bounds
of_length : (max n : ℕ) (made : List ℕ) → length made ≡ n → 14 ≤ n → n ≤ max → IsFrame max made
of_length max n made e low high = record { header = omega (arith, e, low); short = omega (arith, e, high) }

-- what each action leaves
front_length : (n : ℕ) (frame : List ℕ) → n ≤ 12 → 14 ≤ length frame → length (take n frame) ≡ n
front_length n frame low long = length-take-le n frame (omega (arith, low, long))

popped_frame : (max : ℕ) (frame : List ℕ) → IsFrame max frame → nat_le 18 (length frame) ≡ true → IsFrame max (popped frame)
popped_frame max frame f long =
    let low : 18 ≤ length frame = grind (arith, nat_tests) in
    let whole = length-append (take 12 frame) (drop 16 frame) in
    let front = front_length 12 frame (omega arith) f.header in
    let back = length-drop 16 frame in
    record { header = omega (arith, low, whole, front, back); short = omega (arith, low, whole, front, back, f.short) }

pushed_frame : (max t : ℕ) (frame : List ℕ) → IsFrame max frame → nat_lt max (length frame + 4) ≡ false → IsFrame max (pushed t frame)
pushed_frame max t frame f fits =
    let high : length frame + 4 ≤ max = grind (arith, nat_tests) in
    let low = f.header in
    let whole = length-append (take 12 frame) (tag t ++ drop 12 frame) in
    let rest = length-append (tag t) (drop 12 frame) in
    let four : length (tag t) ≡ 4 = refl in
    let front = front_length 12 frame (omega arith) f.header in
    let back = length-drop 12 frame in
    record { header = omega (arith, low, whole, rest, four, front, back); short = omega (arith, low, high, whole, rest, four, front, back) }

first_six : (max : ℕ) (address frame : List ℕ) → IsFrame max frame → length address ≡ 6 → IsFrame max (address ++ drop 6 frame)
first_six max address frame f six =
    let low = f.header in
    let whole = length-append address (drop 6 frame) in
    let back = length-drop 6 frame in
    record { header = omega (arith, low, whole, six, back); short = omega (arith, low, whole, six, back, f.short) }

next_six : (max : ℕ) (address frame : List ℕ) → IsFrame max frame → length address ≡ 6 → IsFrame max (take 6 frame ++ (address ++ drop 12 frame))
next_six max address frame f six =
    let low = f.header in
    let whole = length-append (take 6 frame) (address ++ drop 12 frame) in
    let rest = length-append address (drop 12 frame) in
    let front = front_length 6 frame (omega arith) f.header in
    let back = length-drop 12 frame in
    record { header = omega (arith, low, whole, rest, six, front, back); short = omega (arith, low, whole, rest, six, front, back, f.short) }

one_byte : (max at value : ℕ) (frame : List ℕ) → IsFrame max frame → (b : Bool) → IsFrame max (cond b (slice_set frame at value) frame)
one_byte max at value frame f true = of_length max (length frame) (slice_set frame at value) (length-set frame at value) f.header f.short
one_byte max at value frame f false = f

pop_frame : (max : ℕ) (frame made : List ℕ) → IsFrame max frame → (long tagged : Bool) → nat_le 18 (length frame) ≡ long → cond (long && tagged) (Some (popped frame)) (Some frame) ≡ Some made → IsFrame max made
pop_frame max frame made f true true e is = subst (IsFrame max) (same_Some _ _ is) (popped_frame max frame f e)
pop_frame max frame made f true false e is = subst (IsFrame max) (same_Some _ _ is) f
pop_frame max frame made f false tagged e is = subst (IsFrame max) (same_Some _ _ is) f

push_frame : (max t : ℕ) (frame made : List ℕ) → IsFrame max frame → (full : Bool) → nat_lt max (length frame + 4) ≡ full → cond full None (Some (pushed t frame)) ≡ Some made → IsFrame max made
push_frame max t frame made f true e is = cc
push_frame max t frame made f false e is = subst (IsFrame max) (same_Some _ _ is) (pushed_frame max t frame f e)

act_frame : (max : ℕ) (a : Action) (frame made : List ℕ) → IsAddressed a → IsFrame max frame → act max a frame ≡ Some made → IsFrame max made
act_frame max action.Drop frame made six f is = cc
act_frame max action.Pop frame made six f is = pop_frame max frame made f (nat_le 18 (length frame)) (pair_at frame 12 == tag_protocol) refl is
act_frame max (action.Push t) frame made six f is = push_frame max t frame made f (nat_lt max (length frame + 4)) refl is
act_frame max (action.SetDst address) frame made six f is = subst (IsFrame max) (same_Some _ _ is) (first_six max address frame f six)
act_frame max (action.SetSrc address) frame made six f is = subst (IsFrame max) (same_Some _ _ is) (next_six max address frame f six)
act_frame max (action.SetByte at value) frame made six f is = subst (IsFrame max) (same_Some _ _ is) (one_byte max at value frame f (nat_lt at (length frame)))

rule_frame : (max : ℕ) (r : Rule) (frame made : List ℕ) → IsAddressed r.action → IsFrame max frame → (b : Bool) → cond b (act max r.action frame) (Some frame) ≡ Some made → IsFrame max made
rule_frame max r frame made six f true is = act_frame max r.action frame made six f is
rule_frame max r frame made six f false is = subst (IsFrame max) (same_Some _ _ is) f

-- a program leaves a frame within the bounds
pub apply_frame : (max : ℕ) (rules : List Rule) (frame made : List ℕ) → AreAddressed rules → IsFrame max frame → apply max rules frame ≡ Some made → IsFrame max made
apply_frame max [] frame made six f is = subst (IsFrame max) (same_Some _ _ is) f
apply_frame max (r ∷ rules) frame made six f is =
    option_and_then_some (apply max rules) (apply_rule max r frame) made is
    (λ mid first rest. apply_frame max rules mid made (All-tail (λ r. IsAddressed r.action) r rules six) (rule_frame max r frame mid (All-head (λ r. IsAddressed r.action) r rules six) f (holds r.test frame) first) rest)

-- what a program makes of the first frame and of the others
record IsOnto (first : Option (List ℕ)) (others : Option (List (List ℕ))) (made : List (List ℕ)) : Type 0 where
  frame : List ℕ
  frames : List (List ℕ)
  first_is : first ≡ Some frame
  others_are : others ≡ Some frames
  is : frame ∷ frames ≡ made

onto_is : (first : Option (List ℕ)) (others : Option (List (List ℕ))) (made : List (List ℕ)) → onto first others ≡ Some made → IsOnto first others made
onto_is None others made e = cc
onto_is (Some frame) None made e = cc
onto_is (Some frame) (Some frames) made e = record { frame = frame; frames = frames; first_is = refl; others_are = refl; is = same_Some (frame ∷ frames) made e }

-- so does it with the frames of a list
pub applied_frames : (max : ℕ) (rules : List Rule) (frames made : List (List ℕ)) → AreAddressed rules → All (IsFrame max) frames → applied max rules frames ≡ Some made → All (IsFrame max) made
applied_frames max rules [] made six all is = subst (All (IsFrame max)) (same_Some [] made is) (All-nil (IsFrame max))
applied_frames max rules (f ∷ fs) made six all is =
    let o : IsOnto (apply max rules f) (applied max rules fs) made = onto_is (apply max rules f) (applied max rules fs) made is in
    subst (All (IsFrame max)) o.is (All-cons (IsFrame max) o.frame o.frames
    (apply_frame max rules f o.frame six (All-head (IsFrame max) f fs all) o.first_is)
    (applied_frames max rules fs o.frames six (All-tail (IsFrame max) f fs all) o.others_are))

-- there are as many frames as before
pub applied_count : (max : ℕ) (rules : List Rule) (frames made : List (List ℕ)) → applied max rules frames ≡ Some made → length made ≡ length frames
applied_count max rules [] made is = ap length (sym (same_Some [] made is))
applied_count max rules (f ∷ fs) made is =
    let o : IsOnto (apply max rules f) (applied max rules fs) made = onto_is (apply max rules f) (applied max rules fs) made is in
    ap length (sym o.is) ∙ more f fs o.frame o.frames (applied_count max rules fs o.frames o.others_are)
  where
    more : (f : List ℕ) (fs : List (List ℕ)) (g : List ℕ) (gs : List (List ℕ)) → length gs ≡ length fs → length (g ∷ gs) ≡ length (f ∷ fs)
    more f fs g gs same = omega (arith, same)

-- the frames that a program leaves may be the frames of a list again
pub applied_sized : (rules : List Rule) (frames made : List (List ℕ)) → AreAddressed rules → AreSized frames → applied 1518 rules frames ≡ Some made → AreSized made
applied_sized rules frames made six sized is =
    let each : All (IsFrame 1518) made = applied_frames 1518 rules frames made six sized.each is in
    let count : length made ≡ length frames = applied_count 1518 rules frames made is in
    record {
      fits = record {
        some = omega (arith, count, sized.fits.some);
        few = omega (arith, count, sized.fits.few);
        short = All-weaker (IsFrame 1518) (λ f. length f ≤ 1518) (λ f fits. fits.short) made each;
      };
      each = each;
    }
