-- A filter whose programs drop one EtherType does just that.
use Rattle.std.proofs.Common.{◌≡◌, ℕ, ◌==◌, ◌&&◌, ◌||◌, Bool, true, false, List, [], ◌∷◌, Option, Some, None, if◌then◌else◌, option_and_then, refl, ap, ◌∙◌, arith}
use Rattle.std.proofs.lemmas.Bool.Decides.{nat_tests}
use Rattle.ndis_base.specs.declared.Direction.{Direction}
use Rattle.ndis_base.specs.declared.Direction.TheVariants as direction
use Rattle.ndis_base.specs.declared.ListStatus.TheVariants.{Dropped}
use Rattle.program_types.specs.declared.Test.{Test}
use Rattle.program_types.specs.declared.Test.TheVariants as test
use Rattle.program_types.specs.declared.Action.{Action}
use Rattle.program_types.specs.declared.Action.TheVariants as action
use Rattle.program_types.specs.declared.Rule.{Rule}
use Rattle.program_types.specs.Apply.{pair_at, apply, onto, applied}
use Rattle.journal_types.specs.declared.Setup.{Setup}
use Rattle.stack_rules.specs.Handled.{program}
use Rattle.buffer_pools.specs.Views.{ListView}
use Rattle.driver_views.specs.States.{FilterState}
use Rattle.driver_tray.specs.Tray.{TrayView, turned_back, passed_on}
use Rattle.driver_calls.specs.Filters.{made_by, Handles, HandlesLent}
use Rattle.driver_calls.specs.Filters.Handles.{drops, passes}
use Rattle.driver_calls.specs.Filters.HandlesLent.{leaves, drops as drops_lent}
use Rattle.driver_calls.specs.declared.fates.LentFate.{LentFate}
use Rattle.driver_calls.specs.declared.fates.LentFate.TheVariants as fate
use Rattle.frame_filters.proofs.Passing.{same_itself}
use Rattle.classify_filters.specs.Blocking.{is_drop, is_only_drop, is_blocking, carries, blocked, lent}

-- the rule
abbrev pub drop_rule : ℕ → Rule
drop_rule n = record { test = test.EtherType n; action = action.Drop }

-- a program that says just that is this rule
same_rule : (n : ℕ) (t : Test) (a : Action) → is_drop n t a ≡ true → (t ≡ test.EtherType n) × (a ≡ action.Drop)
same_rule n (test.EtherType m) action.Drop h =
    let same : m ≡ n = grind (arith, nat_tests, h) in
    (ap (λ (k : ℕ). test.EtherType k) same, refl)
same_rule n (test.EtherType m) action.Pop h = absurd (cc h)
same_rule n (test.EtherType m) (action.Push c) h = absurd (cc h)
same_rule n (test.EtherType m) (action.SetDst x) h = absurd (cc h)
same_rule n (test.EtherType m) (action.SetSrc x) h = absurd (cc h)
same_rule n (test.EtherType m) (action.SetByte x y) h = absurd (cc h)
same_rule n test.Any a h = absurd (cc h)
same_rule n test.Tagged a h = absurd (cc h)
same_rule n test.Untagged a h = absurd (cc h)
same_rule n (test.Dst x) a h = absurd (cc h)
same_rule n (test.Src x) a h = absurd (cc h)
same_rule n (test.Vlan v) a h = absurd (cc h)
same_rule n (test.Longer b) a h = absurd (cc h)
same_rule n (test.Byte x y) a h = absurd (cc h)

abbrev rule_of : Test → Action → Rule
rule_of t a = record { test = t; action = a }

rule_is : (n : ℕ) (t : Test) (a : Action) → t ≡ test.EtherType n → a ≡ action.Drop → rule_of t a ≡ drop_rule n
rule_is n t a h k = ap (λ (u : Test). rule_of u a) h ∙ ap (rule_of (test.EtherType n)) k

only_rule : (n : ℕ) (rules : List Rule) → is_only_drop n rules ≡ true → rules ≡ drop_rule n ∷ []
only_rule n [] h = absurd (cc h)
only_rule n (rule ∷ []) h = let both = same_rule n rule.test rule.action h in ap (λ (r : Rule). r ∷ []) (rule_is n rule.test rule.action both.0 both.1)
only_rule n (rule ∷ next ∷ rules) h = absurd (cc h)

first_holds : (a b : Bool) → (a && b) ≡ true → a ≡ true
first_holds true b h = refl
first_holds false b h = h

last_holds : (a b : Bool) → (a && b) ≡ true → b ≡ true
last_holds true b h = h
last_holds false b h = absurd (cc h)

program_is : (n : ℕ) (s : Setup) (d : Direction) → is_blocking n s ≡ true → program s d ≡ drop_rule n ∷ []
program_is n s direction.Down h = only_rule n s.send (first_holds (is_only_drop n s.send) (is_only_drop n s.receive) h)
program_is n s direction.Up h = only_rule n s.receive (last_holds (is_only_drop n s.send) (is_only_drop n s.receive) h)
program_is n s direction.Lent h = only_rule n s.receive (last_holds (is_only_drop n s.send) (is_only_drop n s.receive) h)

-- what the rule makes of the frames of a list
applied_drop : (max n : ℕ) (frames : List (List ℕ)) → applied max (drop_rule n ∷ []) frames ≡ (if carries n frames then None else Some frames)
applied_drop max n [] = refl
applied_drop max n (f ∷ fs) = ap (onto (apply max (drop_rule n ∷ []) f)) (applied_drop max n fs) ∙ step (pair_at f 12 == n) (carries n fs) f fs (apply max (drop_rule n ∷ []) f) (one (pair_at f 12 == n) f)
  where
    one : (b : Bool) (f : List ℕ) → option_and_then (apply max []) (if b then None else Some f) ≡ (if b then None else Some f)
    one true f = refl
    one false f = refl

    step : (b c : Bool) (f : List ℕ) (fs : List (List ℕ)) (made : Option (List ℕ)) → made ≡ (if b then None else Some f) → onto made (if c then None else Some fs) ≡ (if (b || c) then None else Some (f ∷ fs))
    step true c f fs made h = rw h refl
    step false true f fs made h = rw h refl
    step false false f fs made h = rw h refl

-- so the list is turned back, or goes on
pub blocks : (n : ℕ) (s : FilterState) (p : Setup) (l : ListView) (t t' : TrayView) → is_blocking n p ≡ true → t' ≡ blocked n l t → Handles s p l t s.kept t'
blocks n s p l t t' h w = by (carries n l.frames) made w
  where
    made : made_by p l t ≡ (if carries n l.frames then None else Some l.frames)
    made = rw (program_is n p l.label.direction h) (applied_drop 1518 n l.frames)

    by : (b : Bool) → made_by p l t ≡ (if b then None else Some l.frames) → t' ≡ (if b then turned_back t l Dropped else passed_on t l) → Handles s p l t s.kept t'
    by true m w = drops m refl w
    by false m w = passes l.frames m (same_itself l.frames) refl w

-- and a lent list is dropped, or left
pub lends : (n : ℕ) (p : Setup) (l : ListView) (t : TrayView) (became : LentFate) → is_blocking n p ≡ true → became ≡ lent n l.frames → HandlesLent p l t t became
lends n p l t became h w = rw w (by (carries n l.frames) made)
  where
    made : made_by p l t ≡ (if carries n l.frames then None else Some l.frames)
    made = rw (program_is n p l.label.direction h) (applied_drop 1518 n l.frames)

    by : (b : Bool) → made_by p l t ≡ (if b then None else Some l.frames) → HandlesLent p l t t (if b then fate.Dropped else fate.Left)
    by true m = drops_lent m refl
    by false m = leaves l.frames m (same_itself l.frames) refl
