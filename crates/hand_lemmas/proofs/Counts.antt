-- Each pool has as many live lists as its module owns.
use Rattle.std.proofs.Common.{◌≡◌, ℕ, ◌+◌, Bool, true, false, List, [], ◌∷◌, ◌++◌, Some, count_by, refl, sym, ap, ◌∙◌, arith}
use Rattle.ndis_base.specs.declared.ModuleId.{ModuleId}
use Rattle.buffer_pools.specs.Views.{ListView, PoolView, Issues, Frees, live_count}
use Rattle.stack_rules.specs.declared.LiveList.{LiveList}
use Rattle.stack_rules.specs.declared.Thing.{Thing}
use Rattle.stack_rules.specs.declared.Thing.TheVariants as thing
use Rattle.stack_rules.specs.Tests.{same_module}
use Rattle.stack_rules.specs.Net.{lists, list_of, without, after_change}
use Rattle.rule_basics.specs.Live.{IsApart, others}
use Rattle.rule_basics.proofs.Lists.{lists-append, lists-without, lists-changed}
use Rattle.rule_basics.proofs.Counts.{one_if, count_by-cons, count_by-append, count_by-others, count_by-retouched}
use Rattle.hand_lemmas.specs.Hands.{put_at}
use Rattle.hand_lemmas.proofs.Modules.{same_self, same_is, at_each}

-- the list is of the pool of this module
abbrev pub is_owned : ModuleId → LiveList → Bool
is_owned m l = same_module l.owner m

-- each pool has as many live lists as its module owns
abbrev pub Counted : List Thing → (ModuleId → PoolView) → Type 0
Counted ts pools = (m : ModuleId) → live_count (pools m) ≡ count_by (is_owned m) (lists ts)

pub counted_same : (ts us : List Thing) (pools : ModuleId → PoolView) → lists us ≡ lists ts → Counted ts pools → Counted us pools
counted_same ts us pools same c = λ m. c m ∙ ap (count_by (is_owned m)) (sym same)

count_pushed : (p : LiveList → Bool) (ts : List Thing) (y : LiveList) → count_by p (lists (ts ++ thing.List y ∷ [])) ≡ count_by p (lists ts) + one_if (p y)
count_pushed p ts y =
    let split = count_by-append p (lists ts) (y ∷ []) in
    let one = count_by-cons p y [] in
    let e : count_by p (lists (ts ++ thing.List y ∷ [])) ≡ count_by p (lists ts ++ y ∷ []) = ap (count_by p) (lists-append ts (thing.List y ∷ [])) in
    omega (arith, split, one, e)

count_taken : (p : LiveList → Bool) (n : ℕ) (ts : List Thing) (x : LiveList) → IsApart (lists ts) → list_of n (lists ts) ≡ Some x
    → count_by p (lists ts) ≡ one_if (p x) + count_by p (lists (without n ts))
count_taken p n ts x apart live =
    let split = count_by-others p n (lists ts) x apart live in
    let e : count_by p (lists (without n ts)) ≡ count_by p (others n (lists ts)) = ap (count_by p) (lists-without n ts) in
    omega (arith, split, e)

-- a list moves to the end
pub counted_moved : (n : ℕ) (ts : List Thing) (x y : LiveList) (pools : ModuleId → PoolView) → IsApart (lists ts) → list_of n (lists ts) ≡ Some x → y.owner ≡ x.owner
    → Counted ts pools → Counted (without n ts ++ thing.List y ∷ []) pools
counted_moved n ts x y pools apart live owner c = λ m.
    let before = count_taken (is_owned m) n ts x apart live in
    let after = count_pushed (is_owned m) (without n ts) y in
    let same : one_if (is_owned m y) ≡ one_if (is_owned m x) = ap (λ k. one_if (same_module k m)) owner in
    let told = c m in
    omega (arith, before, after, same, told)

pub counted_changed : (n : ℕ) (f : LiveList → LiveList) → ((l : LiveList) → (f l).owner ≡ l.owner) → (ts : List Thing) (pools : ModuleId → PoolView) → Counted ts pools → Counted (after_change n f ts) pools
counted_changed n f same ts pools c = λ m.
    c m
    ∙ sym (count_by-retouched (is_owned m) n f (λ l. ap (λ k. same_module k m) (same l)) (lists ts))
    ∙ ap (count_by (is_owned m)) (sym (lists-changed n f ts))

-- a module that isn't the owner has none more
not_owned : (k m : ModuleId) (y : LiveList) → y.owner ≡ m → same_module k m ≡ false → is_owned k y ≡ false
not_owned k m y owner other = by_case k m y other (same_module m k) refl (ap (λ j. same_module j k) owner)
  where
    clash : (b : Bool) → b ≡ true → b ≡ false → ⊥
    clash b e f = cc

    by_case : (k m : ModuleId) (y : LiveList) → same_module k m ≡ false → (b : Bool) → same_module m k ≡ b → is_owned k y ≡ same_module m k → is_owned k y ≡ false
    by_case k m y other false e f = f ∙ e
    by_case k m y other true e f = absurd (clash (same_module k m) (ap (λ j. same_module k j) (same_is m k e) ∙ same_self k) other)

-- a list is home
pub counted_home : (n : ℕ) (ts : List Thing) (x : LiveList) (l : ListView) (m : ModuleId) (p : PoolView) (pools : ModuleId → PoolView) → IsApart (lists ts) → list_of n (lists ts) ≡ Some x → x.owner ≡ m
    → Frees (pools m) l p → Counted ts pools → Counted (without n ts) (put_at m p pools)
counted_home n ts x l m p pools apart live owner frees c =
    at_each (λ k q. live_count q ≡ count_by (is_owned k) (lists (without n ts))) m p pools
    (let before = count_taken (is_owned m) n ts x apart live in
    let mine : one_if (is_owned m x) ≡ 1 = ap one_if (ap (λ k. same_module k m) owner ∙ same_self m) in
    let told = c m in
    let fewer = frees.count in
    omega (arith, before, mine, told, fewer))
    (λ k other.
    let before = count_taken (is_owned k) n ts x apart live in
    let none : one_if (is_owned k x) ≡ 0 = ap one_if (not_owned k m x owner other) in
    let told = c k in
    omega (arith, before, none, told))

-- a list is issued
pub counted_issued : (ts : List Thing) (y : LiveList) (l : ListView) (m : ModuleId) (p : PoolView) (pools : ModuleId → PoolView) → y.owner ≡ m → Issues (pools m) l p
    → Counted ts pools → Counted (ts ++ thing.List y ∷ []) (put_at m p pools)
counted_issued ts y l m p pools owner issues c =
    at_each (λ k q. live_count q ≡ count_by (is_owned k) (lists (ts ++ thing.List y ∷ []))) m p pools
    (let after = count_pushed (is_owned m) ts y in
    let mine : one_if (is_owned m y) ≡ 1 = ap one_if (ap (λ k. same_module k m) owner ∙ same_self m) in
    let told = c m in
    let more = issues.count in
    omega (arith, after, mine, told, more))
    (λ k other.
    let after = count_pushed (is_owned k) ts y in
    let none : one_if (is_owned k y) ≡ 0 = ap one_if (not_owned k m y owner other) in
    let told = c k in
    omega (arith, after, none, told))
