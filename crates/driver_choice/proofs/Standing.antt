-- The drivers that a head takes stand at the places that are promised.
use Rattle.std.proofs.Common.{◌≡◌, ℕ, suc, ◌+◌, ◌<◌, ◌==◌, ◌&&◌, ◌||◌, not, Bool, true, false, cond, List, [], ◌∷◌, ◌++◌, Option, Some, None, map, slice_get, option_and_then, refl, ap, ap₂, sym, subst, ◌∙◌, arith}
use Rattle.std.specs.List.{list_any}
use Rattle.std.proofs.lemmas.Bool.Decides.{nat_tests}
use Rattle.ndis_base.specs.declared.MiniportKind.{MiniportKind}
use Rattle.ndis_base.specs.declared.ProtocolKind.{ProtocolKind}
use Rattle.journal_types.specs.declared.StackHead.{StackHead}
use Rattle.driver_views.specs.States.{MiniportState, ProtocolState}
use Rattle.promise_rules.specs.Drivers.{miniport_from, protocol_from, protocol_places, with_place}
use Rattle.driver_choice.specs.Parts.{PartsView}
use Rattle.driver_choice.specs.Chosen.{is_miniport, is_protocol, behind, first_of, with_first, protocols_for, Takes}
use Rattle.driver_choice.specs.Places.{AreAt, StandAt}

some_same : {A : Type 0} (x y : A) → Some x ≡ Some y → x ≡ y
some_same x y e = cc

-- a place itself
no_further : (p : ℕ) → p ≡ p + 0
no_further p = omega arith

next_above : (p : ℕ) → p < p + 1
next_above p = omega arith

from_none : (i : ℕ) → 0 + i ≡ i
from_none i = omega arith

-- what a head takes first, where there is something in front
record IsBehind {X : Type 0} (x : X) (o : Option (X × List X)) (first : X) (left : List X) : Type 0 where
  rest : List X
  is : o ≡ Some (first, rest)
  left_is : left ≡ x ∷ rest

is_behind : {X : Type 0} (x : X) (o : Option (X × List X)) (first : X) (left : List X) → behind x o ≡ Some (first, left) → IsBehind x o first left
is_behind x None first left e = absurd (cc)
is_behind x (Some pair) first left e =
    let same : (pair.0, x ∷ pair.1) ≡ (first, left) = some_same _ _ e in
    record { rest = pair.1; is = ap (λ y. Some (y, pair.1)) (ap (λ q. q.0) same); left_is = sym (ap (λ q. q.1) same) }

-- the miniport
record MiniportAt (p : ℕ) (kind : MiniportKind) (ms : List MiniportState) (m : MiniportState) : Type 0 where
  i : ℕ
  is : miniport_from p kind (map (λ s. s.kind) ms) ≡ Some (p + i)
  here : slice_get ms i ≡ Some m

miniport_at : (p : ℕ) (kind : MiniportKind) (ms : List MiniportState) (m : MiniportState) (left : List MiniportState) → first_of (is_miniport kind) ms ≡ Some (m, left) → MiniportAt p kind ms m
miniport_at p kind [] m left e = absurd (cc)
miniport_at p kind (s ∷ ss) m left e = by_kind (is_miniport kind s) refl e (miniport_at (p + 1) kind ss m)
  where
    by_kind : (b : Bool) → is_miniport kind s ≡ b → cond b (Some (s, ss)) (behind s (first_of (is_miniport kind) ss)) ≡ Some (m, left) → ((rest : List MiniportState) → first_of (is_miniport kind) ss ≡ Some (m, rest) → MiniportAt (p + 1) kind ss m) → MiniportAt p kind (s ∷ ss) m
    by_kind true is e later =
        let place : miniport_from p kind (map (λ s. s.kind) (s ∷ ss)) ≡ Some p = ap (λ b. cond b (Some p) (miniport_from (p + 1) kind (map (λ s. s.kind) ss))) is in
        let same : s ≡ m = ap (λ q. q.0) (some_same (s, ss) (m, left) e) in
        record { i = 0; is = place ∙ ap (λ n. Some n) (no_further p); here = ap (λ (x : MiniportState). Some x) same }
    by_kind false is e later =
        let b = is_behind s (first_of (is_miniport kind) ss) m left e in
        let more : MiniportAt (p + 1) kind ss m = later b.rest b.is in
        let place : miniport_from p kind (map (λ s. s.kind) (s ∷ ss)) ≡ Some (p + 1 + more.i) = ap (λ b. cond b (Some p) (miniport_from (p + 1) kind (map (λ s. s.kind) ss))) is ∙ more.is in
        let number : p + 1 + more.i ≡ p + suc more.i = omega arith in
        record { i = suc more.i; is = place ∙ ap (λ n. Some n) number; here = more.here }

-- the protocols that no binding has yet
abbrev is_used : ℕ → List ℕ → Bool
is_used p used = list_any (λ q. q == p) used

abbrev rest_of : ℕ → List ℕ → List ProtocolState → List ProtocolState
rest_of p used [] = []
rest_of p used (s ∷ ss) = cond (is_used p used) (rest_of (p + 1) used ss) (s ∷ rest_of (p + 1) used ss)

used_push : (p x : ℕ) (used : List ℕ) → is_used p (used ++ x ∷ []) ≡ (is_used p used || (x == p))
used_push p x [] = by_test (x == p)
  where
    by_test : (b : Bool) → (b || false) ≡ (false || b)
    by_test true = refl
    by_test false = refl
used_push p x (q ∷ used) = by_test (q == p) (used_push p x used)
  where
    by_test : (b : Bool) → is_used p (used ++ x ∷ []) ≡ (is_used p used || (x == p)) → (b || is_used p (used ++ x ∷ [])) ≡ ((b || is_used p used) || (x == p))
    by_test true e = refl
    by_test false e = e

other_number : (x p : ℕ) → x < p → (x == p) ≡ false
other_number x p less = grind (arith, nat_tests)

higher_number : (x p : ℕ) → p < x → (x == p) ≡ false
higher_number x p less = grind (arith, nat_tests)

same_number : (p : ℕ) → (p == p) ≡ true
same_number p = grind (arith, nat_tests)

or_false : (b c : Bool) → c ≡ false → (b || c) ≡ b
or_false true c e = refl
or_false false c e = e

-- a place in front changes nothing
past : (p x : ℕ) (used : List ℕ) (ss : List ProtocolState) → x < p → rest_of p (used ++ x ∷ []) ss ≡ rest_of p used ss
past p x used [] less = refl
past p x used (s ∷ ss) less =
    let same : is_used p (used ++ x ∷ []) ≡ is_used p used = used_push p x used ∙ or_false (is_used p used) (x == p) (other_number x p less) in
    let more : rest_of (p + 1) (used ++ x ∷ []) ss ≡ rest_of (p + 1) used ss = past (p + 1) x used ss (omega (arith, less)) in
    ap₂ (λ b rest. cond b rest (s ∷ rest)) same more

kinds : List ProtocolState → List ProtocolKind
kinds ss = map (λ s. s.kind) ss

record ProtocolAt (p : ℕ) (used : List ℕ) (kind : ProtocolKind) (ss : List ProtocolState) (s : ProtocolState) (left : List ProtocolState) : Type 0 where
  i : ℕ
  is : protocol_from p used kind (map (λ s. s.kind) ss) ≡ Some (p + i)
  here : slice_get ss i ≡ Some s
  left_is : left ≡ rest_of p (used ++ (p + i) ∷ []) ss

-- one place further
further : (p : ℕ) (used : List ℕ) (kind : ProtocolKind) (x : ProtocolState) (ss : List ProtocolState) (s : ProtocolState) (left rest : List ProtocolState) → (same : Bool) → is_protocol kind x ≡ same → (u : Bool) → is_used p used ≡ u → (same && not u) ≡ false → left ≡ cond u rest (x ∷ rest) → ProtocolAt (p + 1) used kind ss s rest → ProtocolAt p used kind (x ∷ ss) s left
further p used kind x ss s left rest same k u e passed l more =
    let number : p + 1 + more.i ≡ p + suc more.i = omega arith in
    let place : protocol_from p used kind (map (λ s. s.kind) (x ∷ ss)) ≡ Some (p + 1 + more.i) =
    ap₂ (λ b c. cond (b && not c) (Some p) (protocol_from (p + 1) used kind (map (λ s. s.kind) ss))) k e
    ∙ ap (λ b. cond b (Some p) (protocol_from (p + 1) used kind (map (λ s. s.kind) ss))) passed
    ∙ more.is in
    let now : is_used p (used ++ (p + suc more.i) ∷ []) ≡ u = used_push p (p + suc more.i) used ∙ or_false (is_used p used) (p + suc more.i == p) (higher_number (p + suc more.i) p (omega arith)) ∙ e in
    let after : rest ≡ rest_of (p + 1) (used ++ (p + suc more.i) ∷ []) ss = more.left_is ∙ ap (λ n. rest_of (p + 1) (used ++ n ∷ []) ss) number in
    record {
      i = suc more.i;
      is = place ∙ ap (λ n. Some n) number;
      here = more.here;
      left_is = l ∙ ap₂ (λ b r. cond b r (x ∷ r)) (sym now) after;
    }

and_not : (b : Bool) → (b && not true) ≡ false
and_not true = refl
and_not false = refl

protocol_at : (p : ℕ) (used : List ℕ) (kind : ProtocolKind) (ss : List ProtocolState) (s : ProtocolState) (left : List ProtocolState) → first_of (is_protocol kind) (rest_of p used ss) ≡ Some (s, left) → ProtocolAt p used kind ss s left
protocol_at p used kind [] s left e = absurd (cc)
protocol_at p used kind (x ∷ ss) s left e = by_used (is_used p used) refl e (protocol_at (p + 1) used kind ss s)
  where
    by_kind : (b : Bool) → is_protocol kind x ≡ b → is_used p used ≡ false → cond b (Some (x, rest_of (p + 1) used ss)) (behind x (first_of (is_protocol kind) (rest_of (p + 1) used ss))) ≡ Some (s, left) → ((rest : List ProtocolState) → first_of (is_protocol kind) (rest_of (p + 1) used ss) ≡ Some (s, rest) → ProtocolAt (p + 1) used kind ss s rest) → ProtocolAt p used kind (x ∷ ss) s left
    by_kind true k u e later =
        let both : (x, rest_of (p + 1) used ss) ≡ (s, left) = some_same _ _ e in
        let same : x ≡ s = ap (λ q. q.0) both in
        let rest : rest_of (p + 1) used ss ≡ left = ap (λ q. q.1) both in
        let now : is_used p (used ++ p ∷ []) ≡ true = used_push p p used ∙ ap₂ (λ b c. b || c) u (same_number p) in
        let after : rest_of p (used ++ p ∷ []) (x ∷ ss) ≡ rest_of (p + 1) used ss =
        ap (λ b. cond b (rest_of (p + 1) (used ++ p ∷ []) ss) (x ∷ rest_of (p + 1) (used ++ p ∷ []) ss)) now ∙ past (p + 1) p used ss (next_above p) in
        record {
          i = 0;
          is = ap₂ (λ b c. cond (b && not c) (Some p) (protocol_from (p + 1) used kind (map (λ s. s.kind) ss))) k u ∙ ap (λ n. Some n) (no_further p);
          here = ap (λ (x : ProtocolState). Some x) same;
          left_is = sym rest ∙ sym after ∙ ap (λ n. rest_of p (used ++ n ∷ []) (x ∷ ss)) (no_further p);
        }
    by_kind false k u e later =
        let b = is_behind x (first_of (is_protocol kind) (rest_of (p + 1) used ss)) s left e in
        further p used kind x ss s left b.rest false k false u refl b.left_is (later b.rest b.is)

    by_used : (u : Bool) → is_used p used ≡ u → first_of (is_protocol kind) (cond u (rest_of (p + 1) used ss) (x ∷ rest_of (p + 1) used ss)) ≡ Some (s, left) → ((rest : List ProtocolState) → first_of (is_protocol kind) (rest_of (p + 1) used ss) ≡ Some (s, rest) → ProtocolAt (p + 1) used kind ss s rest) → ProtocolAt p used kind (x ∷ ss) s left
    by_used true u e later = further p used kind x ss s left left (is_protocol kind x) refl true u (and_not (is_protocol kind x)) refl (later left e)
    by_used false u e later = by_kind (is_protocol kind x) refl u e later

-- the protocols of all bindings
all_at : (ps : List ProtocolState) (bs : List (ProtocolKind × ℕ)) (used : List ℕ) (chosen left : List ProtocolState) → protocols_for bs (rest_of 0 used ps) ≡ Some (chosen, left) → AreAt (protocol_places used bs (map (λ s. s.kind) ps)) ps chosen
all_at ps [] used chosen left e = subst (AreAt [] ps) (ap (λ q. q.0) (some_same ([], rest_of 0 used ps) (chosen, left) e)) tt
all_at ps (b ∷ bs) used chosen left e = by_first (first_of (is_protocol b.0) (rest_of 0 used ps)) refl e (λ i. all_at ps bs (used ++ i ∷ []))
  where
    by_later : (s : ProtocolState) (rest : List ProtocolState) (o : Option (List ProtocolState × List ProtocolState)) → protocols_for bs rest ≡ o → first_of (is_protocol b.0) (rest_of 0 used ps) ≡ Some (s, rest) → with_first s o ≡ Some (chosen, left) → ((i : ℕ) (more left : List ProtocolState) → protocols_for bs (rest_of 0 (used ++ i ∷ []) ps) ≡ Some (more, left) → AreAt (protocol_places (used ++ i ∷ []) bs (map (λ s. s.kind) ps)) ps more) → AreAt (protocol_places used (b ∷ bs) (map (λ s. s.kind) ps)) ps chosen
    by_later s rest None is first e all = absurd (cc)
    by_later s rest (Some later) is first e all =
        let at : ProtocolAt 0 used b.0 ps s rest = protocol_at 0 used b.0 ps s rest first in
        let place : protocol_from 0 used b.0 (map (λ s. s.kind) ps) ≡ Some at.i = at.is ∙ ap (λ n. Some n) (from_none at.i) in
        let rest_is : rest ≡ rest_of 0 (used ++ at.i ∷ []) ps = at.left_is ∙ ap (λ n. rest_of 0 (used ++ n ∷ []) ps) (from_none at.i) in
        let more : AreAt (protocol_places (used ++ at.i ∷ []) bs (map (λ s. s.kind) ps)) ps later.0 = all at.i later.0 later.1 (ap (protocols_for bs) (sym rest_is) ∙ is) in
        let placed : protocol_places (with_place used (protocol_from 0 used b.0 (map (λ s. s.kind) ps))) bs (map (λ s. s.kind) ps) ≡ protocol_places (used ++ at.i ∷ []) bs (map (λ s. s.kind) ps) = ap (λ o. protocol_places (with_place used o) bs (map (λ s. s.kind) ps)) place in
        let whole : s ∷ later.0 ≡ chosen = ap (λ q. q.0) (some_same (s ∷ later.0, later.1) (chosen, left) e) in
        let stands : AreAt (protocol_places used (b ∷ bs) (map (λ s. s.kind) ps)) ps (s ∷ later.0) = (record { at = at.i; is = place; here = at.here }, subst (λ places. AreAt places ps later.0) (sym placed) more) in
        subst (AreAt (protocol_places used (b ∷ bs) (map (λ s. s.kind) ps)) ps) whole stands

    by_first : (o : Option (ProtocolState × List ProtocolState)) → first_of (is_protocol b.0) (rest_of 0 used ps) ≡ o → option_and_then (λ first. with_first first.0 (protocols_for bs first.1)) o ≡ Some (chosen, left) → ((i : ℕ) (more left : List ProtocolState) → protocols_for bs (rest_of 0 (used ++ i ∷ []) ps) ≡ Some (more, left) → AreAt (protocol_places (used ++ i ∷ []) bs (map (λ s. s.kind) ps)) ps more) → AreAt (protocol_places used (b ∷ bs) (map (λ s. s.kind) ps)) ps chosen
    by_first None is e all = absurd (cc)
    by_first (Some first) is e all = by_later first.0 first.1 (protocols_for bs first.1) refl is e all

all_left : (p : ℕ) (ps : List ProtocolState) → rest_of p [] ps ≡ ps
all_left p [] = refl
all_left p (s ∷ ss) = ap (λ rest. s ∷ rest) (all_left (p + 1) ss)

pub takes_stand : (head : StackHead) (parts others : PartsView) (miniport : MiniportState) (protocols : List ProtocolState) → Takes head parts miniport protocols others → StandAt head parts miniport protocols
takes_stand head parts others miniport protocols t =
    let at : MiniportAt 0 head.kind parts.miniports miniport = miniport_at 0 head.kind parts.miniports miniport others.miniports t.first in
    record {
      miniport_at = record { at = at.i; is = at.is ∙ ap (λ n. Some n) (from_none at.i); here = at.here };
      protocols_at = all_at parts.protocols head.bindings [] protocols others.protocols (ap (protocols_for head.bindings) (all_left 0 parts.protocols) ∙ t.each);
    }
