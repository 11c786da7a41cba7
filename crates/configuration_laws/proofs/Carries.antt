-- How frames are carried up: past filters without the receive pair, and through one that has it.
use Rattle.std.proofs.Common.{◌≡◌, ℕ, ◌+◌, ◌==◌, ◌||◌, Bool, true, false, cond, List, [], ◌∷◌, Option, Some, None, ◌++◌, take, reverse, option_and_then, add-one, refl, arith, ap, sym, subst, ◌∙◌}
use Rattle.std.proofs.lemmas.Bool.Decides.{nat_tests}
use Rattle.ndis_base.specs.declared.ModuleId.TheVariants.{Miniport, Filter, Binding}
use Rattle.program_types.specs.Apply.{applied}
use Rattle.journal_types.specs.declared.Setup.{Setup}
use Rattle.journal_types.specs.declared.Target.{Target}
use Rattle.journal_types.specs.declared.Target.TheVariants.{Module, Bindings}
use Rattle.journal_types.specs.declared.Turn.{Turn}
use Rattle.stack_rules.specs.Net.{Modules, below, handlers_of}
use Rattle.stack_rules.specs.Places.{above}
use Rattle.stack_rules.specs.Rewires.{is_in}
use Rattle.stack_rules.specs.Targets.{has_receive, first_filter}
use Rattle.state_laws.specs.Shape.{IsDistinct}
use Rattle.place_laws.proofs.Spots.{in_reverse}
use Rattle.std.proofs.lemmas.List.{reverse-append}
use Rattle.promise_rules.specs.Carried.{setup_of, received_by, carried_up}
use Rattle.family_laws.specs.Claims.{from_filter, HasSetup, AllSetUp}
use Rattle.configuration_laws.specs.Claims.{carried_back, left_up}

itself : (n : ℕ) → (n == n) ≡ true
itself n = grind (arith, nat_tests)

-- a filter without the pair changes nothing; one with it applies its program
passes_by : (max : ℕ) (turns : List Turn) (ms : Modules) (f : ℕ) (x : List (List ℕ)) → HasSetup turns ms f → has_receive ms f ≡ false → received_by max (setup_of turns f) x ≡ Some x
passes_by max turns ms f x h t =
    let pair : h.entry.setup.handlers.receive ≡ false = sym (ap (λ o. (handlers_of o).receive) h.found) ∙ t in
    ap (λ o. received_by max o x) h.setup ∙ ap (λ b. cond b (applied max h.entry.setup.receive x) (Some x)) pair

pub goes_through : (max : ℕ) (turns : List Turn) (f : ℕ) (s : Setup) (x : List (List ℕ)) → setup_of turns f ≡ Some s → s.handlers.receive ≡ true → received_by max (setup_of turns f) x ≡ applied max s.receive x
goes_through max turns f s x h t = ap (λ o. received_by max o x) h ∙ ap (λ b. cond b (applied max s.receive x) (Some x)) t

-- the target of a list on its way down has the send pair
pub first_has : (has : ℕ → Bool) (fs : List ℕ) (g : ℕ) → first_filter has fs Bindings ≡ Module (Filter g) → (has g ≡ true) × (is_in g fs ≡ true)
first_has has [] g e = cc
first_has has (f ∷ fs) g e =
    let cases : (b : Bool) → has f ≡ b → cond b (Module (Filter f)) (first_filter has fs Bindings) ≡ Module (Filter g) → (has g ≡ true) × ((f == g || is_in g fs) ≡ true) = elim [
      | true ↦ λ t e. let same : f ≡ g = one f g e in (ap has (sym same) ∙ t, ap (λ b. b || is_in g fs) (ap (λ i. i == g) same ∙ itself g))
      | false ↦ λ t e. let rest = first_has has fs g e in (rest.0, or_later (f == g) (is_in g fs) rest.1)
    ] in
    cases (has f) refl e
  where
    one : (f g : ℕ) → Module (Filter f) ≡ Module (Filter g) → f ≡ g
    one f g e = cc

    or_later : (a b : Bool) → b ≡ true → (a || b) ≡ true
    or_later true b h = refl
    or_later false b h = h

-- past the filters without the pair
skips : (max : ℕ) (turns : List Turn) (ms : Modules) (fs : List ℕ) (x : List (List ℕ)) → AllSetUp turns ms fs → carried_back max turns fs x ≡ carried_back max turns (left_up fs (first_filter (has_receive ms) fs Bindings)) x
skips max turns ms [] x h = refl
skips max turns ms (f ∷ fs) x h =
    let rest : carried_back max turns fs x ≡ carried_back max turns (left_up fs (first_filter (has_receive ms) fs Bindings)) x = skips max turns ms fs x h.1 in
    let cases : (b : Bool) → has_receive ms f ≡ b → carried_back max turns (f ∷ fs) x ≡ carried_back max turns (left_up (f ∷ fs) (cond b (Module (Filter f)) (first_filter (has_receive ms) fs Bindings))) x = elim [
      | true ↦ λ t. ap (λ b. carried_back max turns (cond b (f ∷ fs) (from_filter f fs)) x) (sym (itself f))
      | false ↦ λ t.
          ap (option_and_then (carried_back max turns fs)) (passes_by max turns ms f x h.0 t)
          ∙ rest
          ∙ same_left (first_filter (has_receive ms) fs Bindings) refl t
    ] in
    cases (has_receive ms f) refl
  where
    same_left : (to : Target) → first_filter (has_receive ms) fs Bindings ≡ to → has_receive ms f ≡ false → carried_back max turns (left_up fs to) x ≡ carried_back max turns (left_up (f ∷ fs) to) x
    same_left (Module (Filter g)) e t =
        let has : has_receive ms g ≡ true = (first_has (has_receive ms) fs g e).0 in
        ap (λ b. carried_back max turns (cond b (f ∷ fs) (from_filter g fs)) x) (sym (apart (f == g) (λ s. clash (ap (has_receive ms) (is_equal f g s)) has t)))
      where
        is_equal : (n m : ℕ) → (n == m) ≡ true → n ≡ m
        is_equal n m e = grind (arith, nat_tests)

        clash : has_receive ms f ≡ has_receive ms g → has_receive ms g ≡ true → has_receive ms f ≡ false → ⊥
        clash e h t = absurd (cc)

        apart : (b : Bool) → (b ≡ true → ⊥) → b ≡ false
        apart true h = absurd (h refl)
        apart false h = refl
    same_left (Module Miniport) e t = refl
    same_left (Module (Binding b)) e t = refl
    same_left Bindings e t = refl

-- a list of filters that ends another one: a filter of it has the same filters after it in both
from_end : (g : ℕ) (xs ys : List ℕ) → is_in g xs ≡ false → from_filter g (xs ++ ys) ≡ from_filter g ys
from_end g [] ys h = refl
from_end g (x ∷ xs) ys h =
    let cases : (b : Bool) → (x == g) ≡ b → (b || is_in g xs) ≡ false → cond b (x ∷ (xs ++ ys)) (from_filter g (xs ++ ys)) ≡ from_filter g ys = elim [
      | true ↦ λ t i. cc
      | false ↦ λ t i. from_end g xs ys i
    ] in
    cases (x == g) refl h

pub below_end : (g : ℕ) (xs ys : List ℕ) → is_in g xs ≡ false → below g (xs ++ ys) ≡ below g ys
below_end g [] ys h = refl
below_end g (x ∷ xs) ys h =
    let cases : (b : Bool) → (x == g) ≡ b → (b || is_in g xs) ≡ false → cond b (xs ++ ys) (below g (xs ++ ys)) ≡ below g ys = elim [
      | true ↦ λ t i. cc
      | false ↦ λ t i. below_end g xs ys i
    ] in
    cases (x == g) refl h

below_in : (g : ℕ) (xs ys : List ℕ) → is_in g xs ≡ true → below g (xs ++ ys) ≡ below g xs ++ ys
below_in g [] ys h = cc
below_in g (x ∷ xs) ys h =
    let cases : (b : Bool) → (x == g) ≡ b → (b || is_in g xs) ≡ true → cond b (xs ++ ys) (below g (xs ++ ys)) ≡ cond b xs (below g xs) ++ ys = elim [
      | true ↦ λ t i. refl
      | false ↦ λ t i. below_in g xs ys i
    ] in
    cases (x == g) refl h

pub reverse_cons : (g : ℕ) (gs : List ℕ) → reverse (g ∷ gs) ≡ reverse gs ++ g ∷ []
reverse_cons g gs = reverse-append (g ∷ []) gs

-- the filters above one, the nearest first, are those after it from the bottom
pub above_reverse : (f : ℕ) (order : List ℕ) → IsDistinct order → is_in f order ≡ true → reverse (take (above f order) order) ≡ below f (reverse order)
above_reverse f [] d h = cc
above_reverse f (g ∷ gs) d h =
    let cases : (b : Bool) → (g == f) ≡ b → (b || is_in f gs) ≡ true → reverse (take (cond b 0 (above f gs + 1)) (g ∷ gs)) ≡ below f (reverse gs ++ g ∷ []) = elim [
      | true ↦ λ t i.
          let same : g ≡ f = is_equal g f t in
          let out : is_in f (reverse gs) ≡ false = in_reverse f gs ∙ ap (λ x. is_in x gs) (sym same) ∙ d.0 in
          sym (below_end f (reverse gs) (g ∷ []) out ∙ ap (λ b. cond b [] []) t)
      | false ↦ λ t i.
          let inside : is_in f (reverse gs) ≡ true = in_reverse f gs ∙ i in
          ap reverse (take_more (above f gs) g gs)
          ∙ reverse_cons g (take (above f gs) gs)
          ∙ ap (λ xs. xs ++ g ∷ []) (above_reverse f gs d.1 i)
          ∙ sym (below_in f (reverse gs) (g ∷ []) inside)
    ] in
    cases (g == f) refl h ∙ ap (below f) (sym (reverse_cons g gs))
  where
    is_equal : (n m : ℕ) → (n == m) ≡ true → n ≡ m
    is_equal n m e = grind (arith, nat_tests)

    take_more : (n g : ℕ) (gs : List ℕ) → take (n + 1) (g ∷ gs) ≡ g ∷ take n gs
    take_more n g gs = rw add-one refl

-- no filter is twice in the order from the bottom either
distinct_snoc : (xs : List ℕ) (g : ℕ) → IsDistinct xs → is_in g xs ≡ false → IsDistinct (xs ++ g ∷ [])
distinct_snoc [] g d h = (refl, tt)
distinct_snoc (x ∷ xs) g d h =
    let parts : ((x == g) ≡ false) × (is_in g xs ≡ false) = off (x == g) (is_in g xs) h in
    (out x xs d.0 (turned x g parts.0), distinct_snoc xs g d.1 parts.1)
  where
    off : (a b : Bool) → (a || b) ≡ false → (a ≡ false) × (b ≡ false)
    off true b h = cc
    off false b h = (refl, h)

    turned : (a b : ℕ) → (a == b) ≡ false → (b == a) ≡ false
    turned a b h = grind (arith, nat_tests)

    out : (x : ℕ) (xs : List ℕ) → is_in x xs ≡ false → (g == x) ≡ false → is_in x (xs ++ g ∷ []) ≡ false
    out x [] i t = ap (λ b. b || false) t
    out x (y ∷ ys) i t = let p : ((y == x) ≡ false) × (is_in x ys ≡ false) = off (y == x) (is_in x ys) i in ap (λ b. b || is_in x (ys ++ g ∷ [])) p.0 ∙ out x ys p.1 t

pub distinct_reverse : (xs : List ℕ) → IsDistinct xs → IsDistinct (reverse xs)
distinct_reverse [] d = tt
distinct_reverse (x ∷ xs) d = subst IsDistinct (sym (reverse_cons x xs)) (distinct_snoc (reverse xs) x (distinct_reverse xs d.1) (in_reverse x xs ∙ d.0))

-- what stands after a filter is an end of the whole
pub from_below_same : (f g : ℕ) (order : List ℕ) → IsDistinct order → is_in g (below f order) ≡ true → from_filter g (below f order) ≡ from_filter g order
from_below_same f g [] d h = cc
from_below_same f g (x ∷ xs) d h =
    let cases : (b : Bool) → (x == f) ≡ b → is_in g (cond b xs (below f xs)) ≡ true → from_filter g (cond b xs (below f xs)) ≡ from_filter g (x ∷ xs) = elim [
      | true ↦ λ t i. later i
      | false ↦ λ t i. from_below_same f g xs d.1 i ∙ later (in_below f g xs i)
    ] in
    cases (x == f) refl h
  where
    is_equal : (n m : ℕ) → (n == m) ≡ true → n ≡ m
    is_equal n m e = grind (arith, nat_tests)

    differ : (b : Bool) → (b ≡ true → ⊥) → b ≡ false
    differ true h = absurd (h refl)
    differ false h = refl

    clash : is_in g xs ≡ true → is_in x xs ≡ false → x ≡ g → ⊥
    clash a b e = let c : is_in x xs ≡ true = ap (λ i. is_in i xs) e ∙ a in cc

    later : is_in g xs ≡ true → from_filter g xs ≡ from_filter g (x ∷ xs)
    later i = ap (λ b. cond b (x ∷ xs) (from_filter g xs)) (sym (differ (x == g) (λ s. clash i d.0 (is_equal x g s))))

    in_below : (f g : ℕ) (xs : List ℕ) → is_in g (below f xs) ≡ true → is_in g xs ≡ true
    in_below f g [] h = h
    in_below f g (y ∷ ys) h =
        let cases : (b : Bool) → is_in g (cond b ys (below f ys)) ≡ true → ((y == g) || is_in g ys) ≡ true = elim [
          | true ↦ λ i. more (y == g) (is_in g ys) i
          | false ↦ λ i. more (y == g) (is_in g ys) (in_below f g ys i)
        ] in
        cases (y == f) h
      where
        more : (a b : Bool) → b ≡ true → (a || b) ≡ true
        more true b i = refl
        more false b i = i

-- a list that goes on through these filters, which end the order
pub goes_onward : (max : ℕ) (turns : List Turn) (ms : Modules) (order fs : List ℕ) (x : List (List ℕ)) → AllSetUp turns ms fs → ((g : ℕ) → is_in g fs ≡ true → from_filter g fs ≡ from_filter g order) →
    carried_back max turns fs x ≡ carried_back max turns (left_up order (first_filter (has_receive ms) fs Bindings)) x
goes_onward max turns ms order fs x h ends = skips max turns ms fs x h ∙ by (first_filter (has_receive ms) fs Bindings) refl
  where
    by : (to : Target) → first_filter (has_receive ms) fs Bindings ≡ to → carried_back max turns (left_up fs to) x ≡ carried_back max turns (left_up order to) x
    by (Module (Filter g)) e = ap (λ gs. carried_back max turns gs x) (ends g (first_has (has_receive ms) fs g e).1)
    by (Module Miniport) e = refl
    by (Module (Binding b)) e = refl
    by Bindings e = refl

-- carried up through an order, and back from its bottom
then_some : (o : Option (List (List ℕ))) → option_and_then (λ y. Some y) o ≡ o
then_some None = refl
then_some (Some y) = refl

back_append : (max : ℕ) (turns : List Turn) (xs ys : List ℕ) (x : List (List ℕ)) → carried_back max turns (xs ++ ys) x ≡ option_and_then (carried_back max turns ys) (carried_back max turns xs x)
back_append max turns [] ys x = refl
back_append max turns (f ∷ xs) ys x = by (received_by max (setup_of turns f) x) (λ y. back_append max turns xs ys y)
  where
    by : (o : Option (List (List ℕ))) → ((y : List (List ℕ)) → carried_back max turns (xs ++ ys) y ≡ option_and_then (carried_back max turns ys) (carried_back max turns xs y)) →
        option_and_then (carried_back max turns (xs ++ ys)) o ≡ option_and_then (carried_back max turns ys) (option_and_then (carried_back max turns xs) o)
    by None h = refl
    by (Some y) h = h y

pub back_is : (max : ℕ) (turns : List Turn) (fs : List ℕ) (x : List (List ℕ)) → carried_up max turns fs x ≡ carried_back max turns (reverse fs) x
back_is max turns [] x = refl
back_is max turns (f ∷ fs) x =
    ap (option_and_then (received_by max (setup_of turns f))) (back_is max turns fs x)
    ∙ by (carried_back max turns (reverse fs) x)
    ∙ sym (back_append max turns (reverse fs) (f ∷ []) x)
    ∙ ap (λ gs. carried_back max turns gs x) (sym (reverse_cons f fs))
  where
    by : (o : Option (List (List ℕ))) → option_and_then (received_by max (setup_of turns f)) o ≡ option_and_then (carried_back max turns (f ∷ [])) o
    by None = refl
    by (Some y) = sym (then_some (received_by max (setup_of turns f) y))

-- only the filters with the pair count
pub only_pairs : (max : ℕ) (turns : List Turn) (ms : Modules) (f : ℕ) (fs : List ℕ) (x : List (List ℕ)) → HasSetup turns ms f → has_receive ms f ≡ false → carried_back max turns (f ∷ fs) x ≡ carried_back max turns fs x
only_pairs max turns ms f fs x h t = ap (option_and_then (carried_back max turns fs)) (passes_by max turns ms f x h t)

-- a filter, and those below it
pub from_below : (f : ℕ) (fs : List ℕ) → is_in f fs ≡ true → from_filter f fs ≡ f ∷ below f fs
from_below f [] h = cc
from_below f (g ∷ gs) h =
    let cases : (b : Bool) → (g == f) ≡ b → (b || is_in f gs) ≡ true → cond b (g ∷ gs) (from_filter f gs) ≡ f ∷ cond b gs (below f gs) = elim [
      | true ↦ λ t i. ap (λ k. k ∷ gs) (is_equal g f t)
      | false ↦ λ t i. from_below f gs i
    ] in
    cases (g == f) refl h
  where
    is_equal : (n m : ℕ) → (n == m) ≡ true → n ≡ m
    is_equal n m e = grind (arith, nat_tests)

-- through a filter that has the pair, and on to those below it
pub goes_below : (max : ℕ) (turns : List Turn) (order : List ℕ) (f : ℕ) (s : Setup) (x made : List (List ℕ)) → is_in f order ≡ true → setup_of turns f ≡ Some s → s.handlers.receive ≡ true → applied max s.receive x ≡ Some made →
    carried_back max turns (from_filter f order) x ≡ carried_back max turns (below f order) made
goes_below max turns order f s x made i told pair e =
    ap (λ fs. carried_back max turns fs x) (from_below f order i)
    ∙ ap (option_and_then (carried_back max turns (below f order))) (goes_through max turns f s x told pair ∙ e)
