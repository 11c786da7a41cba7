-- The first of the parts.
use Rattle.std.proofs.Common.{◌≡◌, ◌<◌, List, [], ◌∷◌, map, length, slice_index_or, slice_set, All, refl, sym, ap, subst, ◌∙◌, arith, ◌==◌, false, ℕ}
use Rattle.std.proofs.lemmas.Bool.Decides.{nat_tests}
use Rattle.std.proofs.lemmas.List.Elements.{All-cons, All-head, All-tail}
use Rattle.journal_types.specs.declared.Turn.{Turn}
use Rattle.script_types.specs.declared.Script.{Script}
use Rattle.script_types.specs.declared.StackSetup.{StackSetup}
use Rattle.book_opening.specs.Opened.{AreIdle, HandedView}
use Rattle.script_runs.specs.Drivers.{LacksDrivers, LeavesDrivers, ComesBack}
use Rattle.ndis_cli.specs.Answers.{LacksFirst, AreBack, OthersAreLeft}

-- there is a first
pub positive : (n : ℕ) → (n == 0) ≡ false → 0 < n
positive n h = grind (arith, nat_tests)

-- what the first lacks is lacking
pub lacks_first : {X : Type 0} (f : X → HandedView) (script : Script) (xs : List X) (x : X) → 0 < length xs → x ≡ slice_index_or xs 0 x → LacksDrivers script.stacks (f x) → LacksFirst script (map f xs)
lacks_first f script [] x some e l = absurd (omega (arith, some))
lacks_first f script (y ∷ xs) x some e l = subst (λ z. LacksDrivers script.stacks (f z)) e l

pub first_lacks : {X : Type 0} (f : X → HandedView) (script : Script) (xs : List X) (x : X) → 0 < length xs → x ≡ slice_index_or xs 0 x → LacksFirst script (map f xs) → LacksDrivers script.stacks (f x)
first_lacks f script [] x some e l = absurd (omega (arith, some))
first_lacks f script (y ∷ xs) x some e l = subst (λ z. LacksDrivers script.stacks (f z)) (sym e) l

-- none at all
pub none_first : {X : Type 0} (f : X → HandedView) (script : Script) (xs : List X) → length xs ≡ 0 → LacksFirst script (map f xs)
none_first f script [] none = tt
none_first f script (x ∷ xs) none = absurd (omega (arith, none))

-- the first was put back as it was
pub first_same : {X : Type 0} (xs : List X) (x x' : X) → 0 < length xs → x ≡ slice_index_or xs 0 x → x' ≡ x → slice_set xs 0 x' ≡ xs
first_same [] x x' some e same = absurd (omega (arith, some))
first_same (y ∷ xs) x x' some e same = ap (λ z. z ∷ xs) (same ∙ e)

-- the first is idle where all are, and all are where an idle one takes its place
pub idle_first : {X : Type 0} (f : X → HandedView) (xs : List X) (x : X) → 0 < length xs → x ≡ slice_index_or xs 0 x → All AreIdle (map f xs) → AreIdle (f x)
idle_first f [] x some e all = absurd (omega (arith, some))
idle_first f (y ∷ xs) x some e all = subst (λ z. AreIdle (f z)) (sym e) (All-head AreIdle (f y) (map f xs) all)

pub idle_set : {X : Type 0} (f : X → HandedView) (xs : List X) (x : X) → AreIdle (f x) → All AreIdle (map f xs) → All AreIdle (map f (slice_set xs 0 x))
idle_set f [] x idle all = all
idle_set f (y ∷ xs) x idle all = All-cons AreIdle (f x) (map f xs) idle (All-tail AreIdle (f y) (map f xs) all)

-- the first came back
pub first_back : {X : Type 0} (f : X → HandedView) (stacks : List StackSetup) (turns : List Turn) (xs : List X) (x x' : X) → 0 < length xs → x ≡ slice_index_or xs 0 x → ComesBack stacks turns (f x) (f x')
    → AreBack stacks turns (map f xs) (map f (slice_set xs 0 x'))
first_back f stacks turns [] x x' some e back = absurd (omega (arith, some))
first_back f stacks turns (y ∷ xs) x x' some e back = record {
  first = f x;
  more = map f xs;
  handed = ap (λ z. f z ∷ map f xs) (sym e);
  now = f x';
  returned = refl;
  back = back;
}

-- only the others are left of the first
pub first_left : {X : Type 0} (f : X → HandedView) (stacks : List StackSetup) (xs : List X) (x x' : X) → 0 < length xs → x ≡ slice_index_or xs 0 x → LeavesDrivers stacks (f x) (f x') → OthersAreLeft stacks (map f xs) (map f (slice_set xs 0 x'))
first_left f stacks [] x x' some e left = absurd (omega (arith, some))
first_left f stacks (y ∷ xs) x x' some e left = record {
  first = f x;
  more = map f xs;
  handed = ap (λ z. f z ∷ map f xs) (sym e);
  now = f x';
  returned = refl;
  left = left;
}
