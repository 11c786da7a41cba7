-- Which modules a status has passed on its way up: those below the target that it goes to.
use Rattle.std.proofs.Common.{◌≡◌, ℕ, zero, suc, ◌+◌, ◌-◌, ◌<◌, ◌≤◌, ◌==◌, ◌||◌, ◌&&◌, nat_lt, Bool, true, false, cond, List, [], ◌∷◌, ◌++◌, length, take, reverse, refl, arith, ap, sym, subst, ◌∙◌}
use Rattle.std.proofs.lemmas.Bool.Decides.{nat_tests}
use Rattle.std.proofs.lemmas.List.{reverse-append}
use Rattle.ndis_base.specs.declared.ModuleId.{ModuleId}
use Rattle.ndis_base.specs.declared.ModuleId.TheVariants.{Miniport, Filter, Binding}
use Rattle.journal_types.specs.declared.Target.{Target}
use Rattle.journal_types.specs.declared.Target.TheVariants.{Module, Bindings}
use Rattle.stack_rules.specs.Tests.{same_module}
use Rattle.stack_rules.specs.Conditions.{has_binding}
use Rattle.stack_rules.specs.Net.{Net}
use Rattle.stack_rules.specs.Places.{above, position, position_of_target}
use Rattle.stack_rules.specs.Rewires.{is_in}
use Rattle.stack_rules.specs.Targets.{has_status, first_filter, filters_above, next_status}
use Rattle.rule_basics.proofs.Counts.{one_if}
use Rattle.state_laws.specs.Shape.{IsDistinct}
use Rattle.pause_laws.proofs.Places.{found_or}
use Rattle.place_laws.proofs.Spots.{in_take, in_reverse, in_above}
use Rattle.work_laws.proofs.Ways.{status_near}
use Rattle.seen_laws.specs.Seen.{is_reached, once_if_reached}
use Rattle.seen_laws.proofs.Statuses.{is_equal, itself}

or_more : (a b : Bool) → b ≡ true → (a || b) ≡ true
or_more true b h = refl
or_more false b h = h

-- the first that is found from below
snoc_first : (has : ℕ → Bool) (x : ℕ) (fs : List ℕ) (other : Target) → first_filter has (fs ++ x ∷ []) other ≡ first_filter has fs (cond (has x) (Module (Filter x)) other)
snoc_first has x [] other = refl
snoc_first has x (g ∷ fs) other = ap (cond (has g) (Module (Filter g))) (snoc_first has x fs other)

last_first : (has : ℕ → Bool) (x : ℕ) (fs : List ℕ) (other : Target) → first_filter has (reverse (x ∷ fs)) other ≡ first_filter has (reverse fs) (cond (has x) (Module (Filter x)) other)
last_first has x fs other = ap (λ gs. first_filter has gs other) (reverse-append (x ∷ []) fs) ∙ snoc_first has x (reverse fs) other

-- the target is a filter of some filters
record IsAmong (fs : List ℕ) (to : Target) : Type 0 where
  filter : ℕ
  is : to ≡ Module (Filter filter)
  there : is_in filter fs ≡ true

-- and stands there as low as another one, or lower
record IsAsLow (fs : List ℕ) (g : ℕ) (to : Target) : Type 0 where
  among : IsAmong fs to
  low : above g fs ≤ above among.filter fs

-- from below, the first filter that has the handler is as low as each that has it
as_low : (has : ℕ → Bool) (k : ℕ) (fs : List ℕ) (other : Target) (g : ℕ) → IsDistinct fs → is_in g fs ≡ true → has g ≡ true → above g fs < k → IsAsLow fs g (first_filter has (reverse (take k fs)) other)
as_low has zero fs other g d i h a = absurd (omega (arith, a))
as_low has (suc k) [] other g d i h a = cc
as_low has (suc k) (x ∷ fs) other g d i h a =
    let next : Target = cond (has x) (Module (Filter x)) other in
    let cases : (b : Bool) → (x == g) ≡ b → (b || is_in g fs) ≡ true → cond b 0 (above g fs + 1) < suc k → IsAsLow (x ∷ fs) g (first_filter has (reverse (take k fs)) next) = elim [
      | true ↦ λ t i a. here (ap has (is_equal x g t) ∙ h) t
      | false ↦ λ t i a. later t (as_low has k fs next g d.1 i h (omega (arith, a)))
    ] in
    subst (IsAsLow (x ∷ fs) g) (sym (last_first has x (take k fs) other)) (cases (x == g) refl i a)
  where
    here : has x ≡ true → (x == g) ≡ true → IsAsLow (x ∷ fs) g (first_filter has (reverse (take k fs)) (cond (has x) (Module (Filter x)) other))
    here e t = record {
      among =
          found_or (IsAmong (x ∷ fs)) has (reverse (take k fs)) (cond (has x) (Module (Filter x)) other)
          (λ f b y. record { filter = f; is = refl; there = or_more (x == f) (is_in f fs) (in_take f k fs (sym (in_reverse f (take k fs)) ∙ y)) })
          (record { filter = x; is = ap (λ b. cond b (Module (Filter x)) other) e; there = ap (λ b. b || is_in x fs) (itself x) });
      low = let first : above g (x ∷ fs) ≡ 0 = ap (λ b. cond b 0 (above g fs + 1)) t in omega (arith, first);
    }

    differ : (f : ℕ) → is_in f fs ≡ true → (b : Bool) → (x == f) ≡ b → b ≡ false
    differ f i true t = let there : is_in x fs ≡ true = ap (λ n. is_in n fs) (is_equal x f t) ∙ i in cc (there, d.0)
    differ f i false t = refl

    later : (x == g) ≡ false → {to : Target} → IsAsLow fs g to → IsAsLow (x ∷ fs) g to
    later t {to} l =
        let f : ℕ = l.among.filter in
        record {
          among = record { filter = f; is = l.among.is; there = or_more (x == f) (is_in f fs) l.among.there };
          low =
              let one : above g (x ∷ fs) ≡ above g fs + 1 = ap (λ b. cond b 0 (above g fs + 1)) t in
              let two : above f (x ∷ fs) ≡ above f fs + 1 = ap (λ b. cond b 0 (above f fs + 1)) (differ f l.among.there (x == f) refl) in
              let rest = l.low in
              omega (arith, one, two, rest);
        }

-- at a position stands one filter
one_above : (f g : ℕ) (fs : List ℕ) → is_in f fs ≡ true → is_in g fs ≡ true → above f fs ≡ above g fs → f ≡ g
one_above f g [] i j e = cc
one_above f g (x ∷ fs) i j e = by (λ i j e. one_above f g fs i j e) (x == f) (x == g) refl refl i j e
  where
    by : (is_in f fs ≡ true → is_in g fs ≡ true → above f fs ≡ above g fs → f ≡ g) → (a b : Bool) → (x == f) ≡ a → (x == g) ≡ b → (a || is_in f fs) ≡ true → (b || is_in g fs) ≡ true → cond a 0 (above f fs + 1) ≡ cond b 0 (above g fs + 1) → f ≡ g
    by rest true true s t i j e = sym (is_equal x f s) ∙ is_equal x g t
    by rest true false s t i j e = absurd (omega (arith, e))
    by rest false true s t i j e = absurd (omega (arith, e))
    by rest false false s t i j e = rest i j (omega (arith, e))

-- a target that a status may go to
abbrev pub GoesOn : Net → Target → Type 0
GoesOn net Bindings = Unit {0}
GoesOn net (Module (Filter f)) = is_reached net (Filter f) ≡ true
GoesOn net (Module _) = ⊥

pub goes_on : (net : Net) (i : ℕ) → GoesOn net (next_status net.modules i)
goes_on net i =
    let fs : List ℕ = filters_above net.modules i in
    found_or (GoesOn net) (has_status net.modules) (reverse fs) Bindings
    (λ f h x. both (is_in f net.modules.order) (has_status net.modules f) (in_take f (i - 1) net.modules.order (sym (in_reverse f fs) ∙ x)) h) tt
  where
    both : (a b : Bool) → a ≡ true → b ≡ true → (a && b) ≡ true
    both true b s t = t
    both false b s t = s

-- how often a module has seen a status by now, which goes to this target
abbrev pub so_far : Net → Target → ModuleId → ℕ
so_far net to m = one_if (is_reached net m && nat_lt (position_of_target net.modules.order to) (position net.modules.order m))

-- a status goes no further than to the lowest module that it reaches
reached_low : (net : Net) → IsDistinct net.modules.order → (i g : ℕ) → is_reached net (Filter g) ≡ true → above g net.modules.order < i - 1 → position net.modules.order (Filter g) ≤ position_of_target net.modules.order (next_status net.modules i)
reached_low net d i g r a =
    let order : List ℕ = net.modules.order in
    let two = apart (is_in g order) (has_status net.modules g) r in
    let l : IsAsLow order g (next_status net.modules i) = as_low (has_status net.modules) (i - 1) order Bindings g d two.0 two.1 a in
    let at : position_of_target order (next_status net.modules i) ≡ above l.among.filter order + 1 = ap (position_of_target order) l.among.is in
    let low = l.low in
    omega (arith, at, low)
  where
    apart : (a b : Bool) → (a && b) ≡ true → (a ≡ true) × (b ≡ true)
    apart true b h = (refl, h)
    apart false b h = cc

reached_in : (net : Net) (g : ℕ) → is_reached net (Filter g) ≡ true → is_in g net.modules.order ≡ true
reached_in net g r = by (is_in g net.modules.order) r
  where
    by : (a : Bool) → (a && has_status net.modules g) ≡ true → a ≡ true
    by true h = refl
    by false h = h

less : (a b : ℕ) → a < b → nat_lt a b ≡ true
less a b l = grind (arith, nat_tests)

not_less : (a b : ℕ) → b ≤ a → nat_lt a b ≡ false
not_less a b l = grind (arith, nat_tests)

-- where it is so and where it isn't
so : (reached : Bool) (a b : ℕ) → reached ≡ true → a < b → one_if (reached && nat_lt a b) ≡ 1
so reached a b r l = ap (λ x. one_if (x && nat_lt a b)) r ∙ ap one_if (less a b l)

not_so : (reached : Bool) (a b : ℕ) → (reached ≡ true → b ≤ a) → one_if (reached && nat_lt a b) ≡ 0
not_so true a b l = ap one_if (not_less a b (l refl))
not_so false a b l = refl

unreached : (reached : Bool) (a b : ℕ) → reached ≡ false → one_if (reached && nat_lt a b) ≡ 0
unreached reached a b r = ap (λ x. one_if (x && nat_lt a b)) r

-- a status that is told has been seen by nobody
pub none_yet : (net : Net) → IsDistinct net.modules.order → (m : ModuleId) → so_far net (next_status net.modules (position net.modules.order Miniport)) m ≡ 0
none_yet net d Miniport = refl
none_yet net d (Binding b) = not_so (has_binding net.head b) _ 0 (λ r. omega arith)
none_yet net d (Filter g) =
    let i : ℕ = position net.modules.order Miniport in
    not_so (is_reached net (Filter g)) (position_of_target net.modules.order (next_status net.modules i)) (position net.modules.order (Filter g))
    (λ r. reached_low net d i g r (let high = in_above g net.modules.order (reached_in net g r) in omega (arith, high)))

-- where the target is a filter, it sees the status, which goes on from there
module _ (net : Net) (d : IsDistinct net.modules.order) (f : ℕ) (r : is_reached net (Filter f) ≡ true) where
  -- the filter's position, and that of the next target
  abbrev here : ℕ
  here = position net.modules.order (Filter f)

  abbrev there : ℕ
  there = position_of_target net.modules.order (next_status net.modules here)

  near : there ≤ above f net.modules.order
  near = let most = status_near net.modules here in omega (arith, most)

  abbrev OneMore : ModuleId → Type 0
  OneMore m = so_far net (next_status net.modules here) m ≡ so_far net (Module (Filter f)) m + one_if (same_module (Filter f) m)

  -- the filter itself
  sees_now : (g : ℕ) → is_reached net (Filter g) ≡ true → (f == g) ≡ true → OneMore (Filter g)
  sees_now g q t =
      let same : above f net.modules.order ≡ above g net.modules.order = ap (λ n. above n net.modules.order) (is_equal f g t) in
      let now = so (is_reached net (Filter g)) there (position net.modules.order (Filter g)) q (omega (arith, near, same)) in
      let before = not_so (is_reached net (Filter g)) here (position net.modules.order (Filter g)) (λ x. omega (arith, same)) in
      let one : one_if (f == g) ≡ 1 = ap one_if t in
      omega (arith, now, before, one)

  -- another one that the status reaches: it is below and has seen it, or above
  passed_by : (g : ℕ) → is_reached net (Filter g) ≡ true → (f == g) ≡ false → OneMore (Filter g)
  passed_by g q t =
      let none : one_if (f == g) ≡ 0 = ap one_if t in
      let cases : (b : Bool) → nat_lt (above f net.modules.order) (above g net.modules.order) ≡ b → OneMore (Filter g) = elim [
        | true ↦ λ l.
            let below : above f net.modules.order < above g net.modules.order = grind (arith, nat_tests) in
            let now = so (is_reached net (Filter g)) there (position net.modules.order (Filter g)) q (omega (arith, near, below)) in
            let before = so (is_reached net (Filter g)) here (position net.modules.order (Filter g)) q (omega (arith, below)) in
            omega (arith, now, before, none)
        | false ↦ λ l.
            let least : above g net.modules.order ≤ above f net.modules.order = grind (arith, nat_tests) in
            let above_it : above g net.modules.order < above f net.modules.order = strict least in
            let low = reached_low net d here g q (omega (arith, above_it)) in
            let now = not_so (is_reached net (Filter g)) there (position net.modules.order (Filter g)) (λ x. low) in
            let before = not_so (is_reached net (Filter g)) here (position net.modules.order (Filter g)) (λ x. omega (arith, above_it)) in
            omega (arith, now, before, none)
      ] in
      cases (nat_lt (above f net.modules.order) (above g net.modules.order)) refl
    where
      apart : f ≡ g → ⊥
      apart e = let same : (f == g) ≡ true = ap (λ n. f == n) (sym e) ∙ itself f in cc (same, t)

      strict : above g net.modules.order ≤ above f net.modules.order → above g net.modules.order < above f net.modules.order
      strict l = by (above g net.modules.order == above f net.modules.order) refl
        where
          by : (b : Bool) → (above g net.modules.order == above f net.modules.order) ≡ b → above g net.modules.order < above f net.modules.order
          by true e = absurd (apart (one_above f g net.modules.order (reached_in net f r) (reached_in net g q) (sym (is_equal _ _ e))))
          by false e = grind (arith, nat_tests)

  -- one that the status doesn't reach
  never : (g : ℕ) → is_reached net (Filter g) ≡ false → OneMore (Filter g)
  never g q =
      let now = unreached (is_reached net (Filter g)) there (position net.modules.order (Filter g)) q in
      let before = unreached (is_reached net (Filter g)) here (position net.modules.order (Filter g)) q in
      let none : one_if (f == g) ≡ 0 = ap one_if (differ (f == g) refl) in
      omega (arith, now, before, none)
    where
      differ : (b : Bool) → (f == g) ≡ b → b ≡ false
      differ true t = sym r ∙ ap (λ n. is_reached net (Filter n)) (is_equal f g t) ∙ q
      differ false t = refl

  pub one_more : (m : ModuleId) → OneMore m
  one_more Miniport = refl
  one_more (Binding b) =
      let now = not_so (has_binding net.head b) there 0 (λ x. omega arith) in
      let before = not_so (has_binding net.head b) here 0 (λ x. omega arith) in
      omega (arith, now, before)
  one_more (Filter g) =
      let cases : (a : Bool) → is_reached net (Filter g) ≡ a → (b : Bool) → (f == g) ≡ b → OneMore (Filter g) = elim [
        | true ↦ λ q b t. of_reached q b t
        | false ↦ λ q b t. never g q
      ] in
      cases (is_reached net (Filter g)) refl (f == g) refl
    where
      of_reached : is_reached net (Filter g) ≡ true → (b : Bool) → (f == g) ≡ b → OneMore (Filter g)
      of_reached q true t = sees_now g q t
      of_reached q false t = passed_by g q t

-- one of some bindings
abbrev pub is_within : ℕ → ModuleId → Bool
is_within many (Binding b) = nat_lt b many
is_within many _ = false

-- where the target is the bindings, all see the status, and then each module that it reaches has seen it
pub all_by_then : (net : Net) (many : ℕ) → many ≡ length net.head.bindings → (m : ModuleId) → so_far net Bindings m + one_if (is_within many m) ≡ once_if_reached net m
all_by_then net many e Miniport = refl
all_by_then net many e (Binding b) =
    let before = not_so (has_binding net.head b) 0 0 (λ r. omega arith) in
    let now : one_if (nat_lt b many) ≡ one_if (has_binding net.head b) = ap (λ n. one_if (nat_lt b n)) e in
    omega (arith, before, now)
all_by_then net many e (Filter g) = by (is_reached net (Filter g))
  where
    by : (a : Bool) → one_if (a && nat_lt 0 (position net.modules.order (Filter g))) + 0 ≡ cond a 1 0
    by true = let low = less 0 (position net.modules.order (Filter g)) (omega arith) in rw low refl
    by false = refl
