-- Functions of modules that differ at one module.
use Rattle.std.proofs.Common.{◌≡◌, Bool, true, false, cond, refl, sym, ap, subst, eq-eqb, eqb-true}
use Rattle.std.proofs.lemmas.Bool.{cond-true, cond-false}
use Rattle.ndis_base.specs.declared.ModuleId.{ModuleId}
use Rattle.ndis_base.specs.declared.ModuleId.TheVariants.{Miniport, Filter, Binding}
use Rattle.stack_rules.specs.Tests.{same_module}
use Rattle.hand_lemmas.specs.Hands.{put_at}

pub same_self : (m : ModuleId) → same_module m m ≡ true
same_self Miniport = refl
same_self (Filter f) = eq-eqb f f refl
same_self (Binding b) = eq-eqb b b refl

pub same_is : (m k : ModuleId) → same_module m k ≡ true → m ≡ k
same_is Miniport Miniport e = refl
same_is (Filter f) (Filter g) e = ap Filter (eqb-true f g e)
same_is (Binding b) (Binding c) e = ap Binding (eqb-true b c e)
same_is Miniport (Filter g) e = cc
same_is Miniport (Binding c) e = cc
same_is (Filter f) Miniport e = cc
same_is (Filter f) (Binding c) e = cc
same_is (Binding b) Miniport e = cc
same_is (Binding b) (Filter g) e = cc

pub put_here : {X : Type 0} (m : ModuleId) (x : X) (f : ModuleId → X) → put_at m x f m ≡ x
put_here m x f = cond-true (same_module m m) x (f m) (same_self m)

pub put_there : {X : Type 0} (m : ModuleId) (x : X) (f : ModuleId → X) (k : ModuleId) → same_module k m ≡ false → put_at m x f k ≡ f k
put_there m x f k other = cond-false (same_module k m) x (f k) other

-- what holds at the module with its new value, and at the others with the old one, holds everywhere
pub at_each : {X : Type 0} (P : ModuleId → X → Type 0) (m : ModuleId) (x : X) (f : ModuleId → X)
    → P m x → ((k : ModuleId) → same_module k m ≡ false → P k (f k)) → (k : ModuleId) → P k (put_at m x f k)
at_each {X} P m x f here there k = by_case P m x f here there k (same_module k m) refl
  where
    by_case : {X : Type 0} (P : ModuleId → X → Type 0) (m : ModuleId) (x : X) (f : ModuleId → X)
        → P m x → ((k : ModuleId) → same_module k m ≡ false → P k (f k)) → (k : ModuleId) (b : Bool) → same_module k m ≡ b → P k (cond b x (f k))
    by_case P m x f here there k true e = subst (λ j. P j x) (sym (same_is k m e)) here
    by_case P m x f here there k false e = there k e
