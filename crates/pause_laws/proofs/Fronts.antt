-- The front moves only past what holds nothing.
use Rattle.std.proofs.Common.{◌≡◌, ℕ, ◌+◌, ◌<◌, ◌≤◌, ◌==◌, ◌||◌, Bool, true, false, List, [], ◌∷◌, ◌⊎◌, inl, inr, length, count_by, refl, arith, ap, sym, subst, ◌∙◌}
use Rattle.std.proofs.lemmas.Bool.Decides.{nat_tests}
use Rattle.ndis_base.specs.declared.ModuleId.TheVariants.{Filter}
use Rattle.journal_types.specs.declared.PassWay.TheVariants as way
use Rattle.stack_rules.specs.declared.Stand.{Stand}
use Rattle.stack_rules.specs.declared.Stand.TheVariants as stand
use Rattle.stack_rules.specs.declared.LiveList.{LiveList}
use Rattle.stack_rules.specs.Tests.{is_down}
use Rattle.stack_rules.specs.Net.{Net, Modules, lists}
use Rattle.stack_rules.specs.Places.{position, position_of_target, position_in, is_at_most, is_counted_at, outstanding}
use Rattle.stack_rules.specs.Targets.{has_receive}
use Rattle.stack_rules.specs.Rewires.{is_in}
use Rattle.rule_basics.specs.Live.{Each}
use Rattle.rule_basics.proofs.Counts.{one_if, count_by-cons}
use Rattle.rule_basics.proofs.Each.{Each-implies}
use Rattle.state_laws.proofs.Changes.{IsMove}
use Rattle.pause_laws.specs.Clear.{IsNearest, StandsFrom, IsClear, AreClear}
use Rattle.state_laws.proofs.Tops.{position_most}

-- what is above the front counts no list
none_stands : (ms : Modules) (front i : ℕ) (l : LiveList) (s : Stand) → i < front → front ≤ position ms.order l.owner → (is_down l.direction ≡ true → position ms.order l.owner ≤ position ms.order l.last) → StandsFrom ms front l s → is_at_most i (position_in ms.order l.last s) ≡ false
none_stands ms front i l stand.Unplaced a o d s = refl
none_stands ms front i l (stand.Kept m) a o d s = let at : front ≤ position ms.order m = s.1 in grind (arith, nat_tests)
none_stands ms front i l (stand.Passed way.Down to) a o d s = let at : position ms.order l.owner ≤ position_of_target ms.order to = s.1 in grind (arith, nat_tests)
none_stands ms front i l (stand.Passed (way.Done status) to) a o d s = let at : position ms.order l.owner ≤ position ms.order l.last = d s.0 in grind (arith, nat_tests)
none_stands ms front i l (stand.Passed way.Up to) a o d s = let at : front ≤ position ms.order l.last = s.1.0 in grind (arith, nat_tests)
none_stands ms front i l (stand.Passed (way.Back status) to) a o d s = let at : front ≤ position_of_target ms.order to = s.1 in grind (arith, nat_tests)

not_counted : (ms : Modules) (front i : ℕ) (l : LiveList) → i < front → IsClear ms front l → is_counted_at ms.order i l ≡ false
not_counted ms front i l a c =
    let owner : (position ms.order l.owner == i) ≡ false = other (position ms.order l.owner) front i a c.owner in
    rw (owner, none_stands ms front i l l.stand a c.owner c.down c.stands) refl
  where
    other : (o front i : ℕ) → i < front → front ≤ o → (o == i) ≡ false
    other o front i a b = grind (arith, nat_tests)

pub none_counted : (ms : Modules) (front i : ℕ) (ls : List LiveList) → i < front → Each (IsClear ms front) ls → count_by (is_counted_at ms.order i) ls ≡ 0
none_counted ms front i [] a c = refl
none_counted ms front i (l ∷ ls) a c =
    let here : one_if (is_counted_at ms.order i l) ≡ 0 = ap one_if (not_counted ms front i l a c.0) in
    omega (arith, count_by-cons (is_counted_at ms.order i) l ls, here, none_counted ms front i ls a c.1)

-- where nothing is outstanding at the front each list is behind it
stands_behind : (ms : Modules) (front : ℕ) (l : LiveList) (s : Stand) → is_at_most front (position_in ms.order l.last s) ≡ false → StandsFrom ms front l s → StandsFrom ms (front + 1) l s
stands_behind ms front l stand.Unplaced n s = tt
stands_behind ms front l (stand.Kept m) n s = (s.0, grind (arith, nat_tests))
stands_behind ms front l (stand.Passed way.Down to) n s = s
stands_behind ms front l (stand.Passed (way.Done status) to) n s = s
stands_behind ms front l (stand.Passed way.Up to) n s = (s.0, (grind (arith, nat_tests), s.1.1))
stands_behind ms front l (stand.Passed (way.Back status) to) n s = (s.0, grind (arith, nat_tests))

one_behind : (ms : Modules) (front : ℕ) (l : LiveList) → is_counted_at ms.order front l ≡ false → IsClear ms front l → IsClear ms (front + 1) l
one_behind ms front l n c =
    let both = neither (position ms.order l.owner == front) (is_at_most front (position_in ms.order l.last l.stand)) n in
    record { owner = apart (position ms.order l.owner) front both.0 c.owner; down = c.down; stands = stands_behind ms front l l.stand both.1 c.stands }
  where
    neither : (a b : Bool) → (a || b) ≡ false → (a ≡ false) × (b ≡ false)
    neither true b h = cc
    neither false b h = (refl, h)

    apart : (o front : ℕ) → (o == front) ≡ false → front ≤ o → front + 1 ≤ o
    apart o front h a = grind (arith, nat_tests)

all_behind : (ms : Modules) (front : ℕ) (ls : List LiveList) → count_by (is_counted_at ms.order front) ls ≡ 0 → Each (IsClear ms front) ls → Each (IsClear ms (front + 1)) ls
all_behind ms front [] n c = tt
all_behind ms front (l ∷ ls) n c =
    let whole = count_by-cons (is_counted_at ms.order front) l ls in
    let none : one_if (is_counted_at ms.order front l) ≡ 0 = omega (arith, whole, n) in
    (one_behind ms front l (not_one (is_counted_at ms.order front l) none) c.0, all_behind ms front ls (omega (arith, whole, n)) c.1)
  where
    not_one : (b : Bool) → one_if b ≡ 0 → b ≡ false
    not_one true h = absurd (omega (arith, h))
    not_one false h = refl

-- a front that is higher, in the same order of filters with the same handlers
nearest_same : (ms other : Modules) (from to : ℕ) → other.order ≡ ms.order → ((f : ℕ) → has_receive other f ≡ has_receive ms f) → IsNearest ms from to → IsNearest other from to
nearest_same ms other from to e r h f a i b =
    let at : position other.order (Filter f) ≡ position ms.order (Filter f) = ap (λ o. position o (Filter f)) e in
    omega (arith, at, h f (sym (r f) ∙ a) (sym (ap (is_in f) e) ∙ i) (omega (arith, at, b)))

stands_same : (ms other : Modules) (front to : ℕ) (l : LiveList) (s : Stand) → other.order ≡ ms.order → ((f : ℕ) → has_receive other f ≡ has_receive ms f) → to ≤ front → StandsFrom ms front l s → StandsFrom other to l s
stands_same ms other front to l stand.Unplaced e r a s = tt
stands_same ms other front to l (stand.Kept m) e r a s = (s.0, omega (arith, s.1, a, ap (λ o. position o m) e))
stands_same ms other front to l (stand.Passed way.Down t) e r a s = (s.0, omega (arith, s.1, ap (λ o. position o l.owner) e, ap (λ o. position_of_target o t) e))
stands_same ms other front to l (stand.Passed (way.Done status) t) e r a s = (s.0, omega (arith, s.1, ap (λ o. position o l.owner) e, ap (λ o. position_of_target o t) e))
stands_same ms other front to l (stand.Passed way.Up t) e r a s =
    let from : position other.order l.last ≡ position ms.order l.last = ap (λ o. position o l.last) e in
    let goes : position_of_target other.order t ≡ position_of_target ms.order t = ap (λ o. position_of_target o t) e in
    (s.0, (omega (arith, s.1.0, a, from), subst (λ p. IsNearest other p (position_of_target other.order t)) (sym from) (subst (IsNearest other (position ms.order l.last)) (sym goes) (nearest_same ms other (position ms.order l.last) (position_of_target ms.order t) e r s.1.1))))
stands_same ms other front to l (stand.Passed (way.Back status) t) e r a s = (s.0, omega (arith, s.1, a, ap (λ o. position_of_target o t) e))

clear_same : (ms other : Modules) (front to : ℕ) (l : LiveList) → other.order ≡ ms.order → ((f : ℕ) → has_receive other f ≡ has_receive ms f) → to ≤ front → IsClear ms front l → IsClear other to l
clear_same ms other front to l e r a c = record {
  owner = omega (arith, c.owner, a, ap (λ o. position o l.owner) e);
  down = λ d. omega (arith, c.down d, ap (λ o. position o l.owner) e, ap (λ o. position o l.last) e);
  stands = stands_same ms other front to l l.stand e r a c.stands;
}

-- a step of a pause or a restart
pub move_clear : (net next : Net) (front to : ℕ) → IsMove net next front to → AreClear net.modules front (lists net.things) net.next.list → AreClear next.modules to (lists net.things) net.next.list
move_clear net next front to m k = record { apart = k.apart; below = k.below; each = by m.steps }
  where
    by : ((to ≤ front) ⊎ ((to ≡ front + 1) × (outstanding net front ≡ 0))) → Each (IsClear next.modules to) (lists net.things)
    by (inl a) = Each-implies (IsClear net.modules front) (IsClear next.modules to) (λ l c. clear_same net.modules next.modules front to l m.order m.receives a c) (lists net.things) k.each
    by (inr b) = Each-implies (IsClear net.modules (front + 1)) (IsClear next.modules to) (λ l c. clear_same net.modules next.modules (front + 1) to l m.order m.receives (omega (arith, b.0)) c) (lists net.things) (all_behind net.modules front (lists net.things) b.1 k.each)

-- where all positions are Paused no list is live
pub none_live : (ms : Modules) (front : ℕ) (ls : List LiveList) → front ≡ length ms.order + 2 → Each (IsClear ms front) ls → ls ≡ []
none_live ms front [] e c = refl
none_live ms front (l ∷ ls) e c = absurd (omega (arith, c.0.owner, position_most ms.order l.owner, e))
