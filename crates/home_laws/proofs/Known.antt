-- The register has each live list as it is, and rows that name such a list fit.
use Rattle.std.proofs.Common.{◌≡◌, ℕ, ◌+◌, ◌==◌, ◌<◌, Bool, true, false, cond, List, [], ◌∷◌, Some, None, find, filter, refl, arith, subst, sym, ap, ◌∙◌}
use Rattle.std.proofs.lemmas.Bool.Decides.{nat_tests}
use Rattle.ndis_base.specs.declared.Direction.{Direction}
use Rattle.ndis_base.specs.declared.Direction.TheVariants as direction
use Rattle.ndis_base.specs.declared.ListNo.{ListNo}
use Rattle.ndis_base.specs.declared.ListStatus.{ListStatus}
use Rattle.ndis_base.specs.declared.ModuleId.{ModuleId}
use Rattle.journal_types.specs.declared.Row.{Row}
use Rattle.stack_rules.specs.declared.LiveList.{LiveList}
use Rattle.stack_rules.specs.declared.Thing.{Thing}
use Rattle.stack_rules.specs.declared.Thing.TheVariants as thing
use Rattle.stack_rules.specs.Net.{Net, Modules, lists, list_of}
use Rattle.stack_rules.specs.Outcome.{list_no}
use Rattle.stack_rules.specs.Sends.{first_of}
use Rattle.stack_rules.specs.Targets.{onward, homeward, homeward_by, turned_back}
use Rattle.rule_basics.specs.Live.{IsApart, is_live, Each}
use Rattle.rule_basics.proofs.Each.{Each-implies}
use Rattle.home_laws.specs.Rows.{Label}
use Rattle.home_laws.proofs.Fits.{Register, entered, IsLive, AnyLabel, AllFit, IsSane}
use Rattle.home_laws.specs.Standing.{label_of}
use Rattle.home_laws.proofs.Registers.{entered-here, entered-other, live_below}
use Rattle.home_laws.proofs.Agreed.{Agrees, label_in}

-- a goal about a choice, by its cases
pub by_test : {A : Type 0} (P : A → Type 0) (b : Bool) (x y : A) → (b ≡ true → P x) → (b ≡ false → P y) → P (cond b x y)
by_test P true x y f g = f refl
by_test P false x y f g = g refl

-- the register has the list as it is
abbrev pub Knows : Register → LiveList → Type 0
Knows reg l = reg.live l.list.0 ≡ Some (label_of l)

Each-both : (P Q R : LiveList → Type 0) → ((l : LiveList) → P l → Q l → R l) → (ls : List LiveList) → Each P ls → Each Q ls → Each R ls
Each-both P Q R f [] p q = tt
Each-both P Q R f (l ∷ ls) p q = (f l p.0 q.0, Each-both P Q R f ls p.1 q.1)

other_numbers : (n : ℕ) (ls : List LiveList) → is_live n ls ≡ false → Each (λ l. (n == l.list.0) ≡ false) ls
other_numbers n [] h = tt
other_numbers n (l ∷ ls) h = (grind (arith, nat_tests), other_numbers n ls (grind (arith, nat_tests)))

-- each list is found by its number
each_found : (ls : List LiveList) → IsApart ls → Each (λ l. list_of l.list.0 ls ≡ Some l) ls
each_found [] h = tt
each_found (x ∷ ls) h = (self x.list.0, Each-both _ _ _ later ls (other_numbers x.list.0 ls h.0) (each_found ls h.1))
  where
    self : (n : ℕ) → cond (n == n) (Some x) (list_of n ls) ≡ Some x
    self n = grind (arith, nat_tests)

    later : (l : LiveList) → (x.list.0 == l.list.0) ≡ false → list_of l.list.0 ls ≡ Some l → cond (x.list.0 == l.list.0) (Some x) (list_of l.list.0 ls) ≡ Some l
    later l a f = rw a f

pub knows_all : (net : Net) (reg : Register) → Agrees net reg → Each (Knows reg) (lists net.things)
knows_all net reg h =
    Each-implies _ _ (λ l f. sym (h.live l.list.0) ∙ ap label_in f) (lists net.things) (each_found (lists net.things) h.numbered.apart)

-- what holds of each list holds of those that pass a test, and of one that is found
pub Each-filter : (P : LiveList → Type 0) (test : LiveList → Bool) (ls : List LiveList) → Each P ls → Each P (filter test ls)
Each-filter P test [] h = tt
Each-filter P test (l ∷ ls) h =
    by_test (Each P) (test l) (l ∷ filter test ls) (filter test ls) (λ _. (h.0, Each-filter P test ls h.1)) (λ _. Each-filter P test ls h.1)

some_same : {A : Type 0} (x l : A) → Some x ≡ Some l → x ≡ l
some_same x l f = cc

none_some : {A : Type 0} (l : A) → None ≡ Some l → ⊥
none_some l f = cc

pub Each-find : (P : LiveList → Type 0) (test : LiveList → Bool) (ls : List LiveList) (l : LiveList) → Each P ls → find test ls ≡ Some l → P l
Each-find P test [] l h f = absurd (none_some l f)
Each-find P test (x ∷ ls) l h f = cases (test x) (Each-find P test ls l h.1) f
  where
    cases : (b : Bool) → (find test ls ≡ Some l → P l) → cond b (Some x) (find test ls) ≡ Some l → P l
    cases true rest f = subst P (some_same x l f) h.0
    cases false rest f = rest f

pub Each-first_of : (P : LiveList → Type 0) (ls : List LiveList) (l : LiveList) → Each P ls → first_of ls ≡ Some l → P l
Each-first_of P [] l h f = absurd (none_some l f)
Each-first_of P (x ∷ ls) l h f = subst P (some_same x l f) h.0

-- of a thing that is found
abbrev pub OfThing : (LiveList → Type 0) → Thing → Type 0
OfThing P (thing.List l) = P l
OfThing P _ = Unit {0}

pub thing_found : (P : LiveList → Type 0) (test : Thing → Bool) (ts : List Thing) (t : Thing) → Each P (lists ts) → find test ts ≡ Some t → OfThing P t
thing_found P test [] t h f = absurd (none_some t f)
thing_found P test (x ∷ ts) t h f = cases (test x) (thing_found P test ts t (rest x h)) f
  where
    rest : (x : Thing) → Each P (lists (x ∷ ts)) → Each P (lists ts)
    rest (thing.List l) h = h.1
    rest (thing.Status s) h = h
    rest (thing.Answer a) h = h

    first : (x : Thing) → Each P (lists (x ∷ ts)) → OfThing P x
    first (thing.List l) h = h.0
    first (thing.Status s) h = tt
    first (thing.Answer a) h = tt

    cases : (b : Bool) → (find test ts ≡ Some t → OfThing P t) → cond b (Some x) (find test ts) ≡ Some t → OfThing P t
    cases true later f = subst (OfThing P) (some_same x t f) (first x h)
    cases false later f = later f

-- rows that name a list that is live
pub live_as : (reg : Register) (l : LiveList) → Knows reg l → IsLive reg l.list AnyLabel
live_as reg l k = record { label = label_of l; found = k; passes = tt }

pub owned_as : (reg : Register) (l : LiveList) → Knows reg l → IsLive reg l.list (λ label. label.owner ≡ l.owner)
owned_as reg l k = record { label = label_of l; found = k; passes = refl }

pub framed_as : (reg : Register) (l : LiveList) → Knows reg l → IsLive reg l.list (λ label. label.frames ≡ l.frames)
framed_as reg l k = record { label = label_of l; found = k; passes = refl }

pub onward_fits : (reg : Register) (ms : Modules) (list : ListNo) (d : Direction) (i : ℕ) (rest : List Row) → IsLive reg list AnyLabel → AllFit reg rest → AllFit reg (onward ms list d i ∷ rest)
onward_fits reg ms list direction.Down i rest h f = (h, f)
onward_fits reg ms list direction.Up i rest h f = (h, f)
onward_fits reg ms list direction.Lent i rest h f = (h, f)

homeward_by_fits : (reg : Register) (ms : Modules) (list : ListNo) (owner : ModuleId) (d : Direction) (i : ℕ) (status : ListStatus) (rest : List Row) → IsLive reg list AnyLabel → AllFit reg rest →
    AllFit reg (homeward_by ms list owner d i status ∷ rest)
homeward_by_fits reg ms list owner direction.Down i status rest h f = (h, f)
homeward_by_fits reg ms list owner direction.Up i status rest h f = (h, f)
homeward_by_fits reg ms list owner direction.Lent i status rest h f = (h, f)

pub homeward_fits : (reg : Register) (ms : Modules) (l : LiveList) (i : ℕ) (status : ListStatus) (rest : List Row) → Knows reg l → AllFit reg rest → AllFit reg (homeward ms l i status ∷ rest)
homeward_fits reg ms l i status rest k f = homeward_by_fits reg ms l.list l.owner l.direction i status rest (live_as reg l k) f

pub turned_back_fits : (reg : Register) (ms : Modules) (l : LiveList) (m : ModuleId) (status : ListStatus) → Knows reg l → AllFit reg (turned_back ms l m status)
turned_back_fits reg ms l m status k = (live_as reg l k, homeward_fits reg ms l _ status [] k tt)

-- the register after a list is issued
abbrev pub with_new : Register → ℕ → Label → Register
with_new reg n label = record { next = reg.next + 1; live = entered n (Some label) reg.live }

pub new_live : (reg : Register) (n : ℕ) (label : Label) → IsLive (with_new reg n label) (list_no n) AnyLabel
new_live reg n label = record { label = label; found = entered-here n (Some label) reg.live; passes = tt }

pub still_known : (reg : Register) (n : ℕ) (label : Label) (l : LiveList) → IsSane reg → n ≡ reg.next → Knows reg l → Knows (with_new reg n label) l
still_known reg n label l s e k =
    let low : l.list.0 < reg.next = live_below reg l.list.0 (label_of l) s k in
    entered-other n l.list.0 (Some label) reg.live (below l.list.0 n reg.next e low) ∙ k
  where
    below : (m n next : ℕ) → n ≡ next → m < next → (m == n) ≡ false
    below m n next e h = grind (arith, nat_tests)
