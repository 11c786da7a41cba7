-- The lists that an event works: they are live, and have no clone.
use Rattle.std.proofs.Common.{◌≡◌, ℕ, ◌==◌, ◌||◌, not, Bool, true, false, cond, List, [], ◌∷◌, Option, Some, refl, arith, ap, sym, ◌∙◌}
use Rattle.std.specs.List.{list_any}
use Rattle.std.proofs.lemmas.Bool.Decides.{nat_tests}
use Rattle.ndis_base.specs.declared.ModuleId.{ModuleId}
use Rattle.ndis_base.specs.declared.ModuleId.TheVariants.{Miniport, Filter}
use Rattle.ndis_base.specs.declared.Origin.{Origin}
use Rattle.ndis_base.specs.declared.Origin.TheVariants as origin
use Rattle.stack_rules.specs.declared.LiveList.{LiveList}
use Rattle.stack_rules.specs.declared.Stand.TheVariants as stand
use Rattle.stack_rules.specs.Tests.{is_virtual}
use Rattle.stack_rules.specs.Net.{Net, lists, list_of}
use Rattle.stack_rules.specs.Places.{is_kept_by, kept_lists, ready_lists, is_waiting, is_clone_of, has_clone, is_crossed}
use Rattle.rule_basics.specs.Live.{is_live, IsApart, Each}
use Rattle.rule_basics.proofs.Lives.{find_is}
use Rattle.rule_basics.proofs.Each.{Each-implies}
use Rattle.state_laws.specs.Shape.{IsDistinct}
use Rattle.pause_laws.proofs.Works.{each_filter}
use Rattle.pause_laws.proofs.Keepers.{kept_is}
use Rattle.place_laws.proofs.Good.{cloned_from, IsUncloned, some_same, unkept}
use Rattle.place_laws.proofs.Looks.{look}
use Rattle.place_laws.proofs.Rows.{IsGood, Goes}
use Rattle.place_laws.proofs.Routes.{IsFree}

-- the lists and statuses of a state inside a turn are in place, by the modules at the turn's begin
abbrev pub Good : Net → Net → Type 0
Good net next = IsGood net.modules.order (is_virtual net.head.kind) next

abbrev pub Going : Net → Net → Type 0
Going net next = Goes net.modules.order (is_virtual net.head.kind) net next

-- what is known where a turn begins
pub record Facts (net : Net) : Type 0 where
  pub distinct : IsDistinct net.modules.order
  pub apart : IsApart (lists net.things)
  pub good : Good net net

pub all_found : (ls : List LiveList) → IsApart ls → Each (λ l. list_of l.list.0 ls ≡ Some l) ls
all_found [] a = tt
all_found (x ∷ ls) a =
    let here : (x.list.0 == x.list.0) ≡ true = grind (arith, nat_tests) in
    (rw here refl, Each-implies (λ l. list_of l.list.0 ls ≡ Some l) (λ l. list_of l.list.0 (x ∷ ls) ≡ Some l) (λ l f. later x.list.0 l.list.0 ls (Some x) (Some l) a.0 (find_is l.list.0 ls l f).1 f) ls (all_found ls a.1))
  where
    later : (n m : ℕ) (ls : List LiveList) (a b : Option LiveList) → is_live n ls ≡ false → is_live m ls ≡ true → list_of m ls ≡ b → cond (n == m) a (list_of m ls) ≡ b
    later n m ls a b h l f =
        let cases : (c : Bool) → (n == m) ≡ c → cond c a (list_of m ls) ≡ b = elim [
          | true ↦ λ t. let same : n ≡ m = grind (arith, nat_tests) in absurd (cc (ap (λ x. is_live x ls) same))
          | false ↦ λ t. f
        ] in
        cases (n == m) refl

-- a live list that a module keeps
pub record IsKeptLive (net : Net) (m : ModuleId) (l : LiveList) : Type 0 where
  pub found : look net l.list.0 ≡ Some l
  pub stand : l.stand ≡ stand.Kept m

pub kept_live : (net : Net) (m : ModuleId) → IsApart (lists net.things) → Each (IsKeptLive net m) (kept_lists net m)
kept_live net m a =
    Each-implies (λ l. (look net l.list.0 ≡ Some l) × (is_kept_by m l.stand ≡ true)) (IsKeptLive net m) (λ l h. record { found = h.0; stand = kept_is m l.stand h.1 }) (kept_lists net m)
    (each_filter (λ l. look net l.list.0 ≡ Some l) (λ l. is_kept_by m l.stand) (lists net.things) (all_found (lists net.things) a))

any_found : (test : LiveList → Bool) (ls : List LiveList) (n : ℕ) (l : LiveList) → list_of n ls ≡ Some l → test l ≡ true → list_any test ls ≡ true
any_found test [] n l f t = cc
any_found test (x ∷ ls) n l f t =
    let cases : (b : Bool) → cond b (Some x) (list_of n ls) ≡ Some l → (test x || list_any test ls) ≡ true = elim [
      | true ↦ λ f. let here : test x ≡ true = ap test (some_same x l f) ∙ t in rw here refl
      | false ↦ λ f. more (test x) (list_any test ls) (any_found test ls n l f t)
    ] in
    cases (x.list.0 == n) f
  where
    more : (a b : Bool) → b ≡ true → (a || b) ≡ true
    more true b h = refl
    more false b h = h

clone_is : (n : ℕ) (o : Origin) → cloned_from o ≡ Some n → is_clone_of n o ≡ true
clone_is n origin.Root h = cc
clone_is n (origin.Copy o) h = cc
clone_is n (origin.Clone o) h = let same : o.0 ≡ n = some_same o.0 n h in grind (arith, nat_tests)

-- a ready list has no clone
uncloned_of : (net : Net) (n : ℕ) → has_clone net n ≡ false → IsUncloned (look net) n
uncloned_of net n h k c f o =
    let any : has_clone net n ≡ true = any_found (λ l. is_clone_of n l.origin) (lists net.things) k c f (clone_is n c.origin o) in
    cc

-- a list that a module keeps, and that has no clone
pub record IsReady (net : Net) (m : ModuleId) (l : LiveList) : Type 0 where
  pub free : IsFree net l
  pub stand : l.stand ≡ stand.Kept m

pub ready_all : (net : Net) (m : ModuleId) → IsApart (lists net.things) → Each (IsReady net m) (ready_lists net m)
ready_all net m a =
    Each-implies (λ l. IsKeptLive net m l × (not (is_waiting net l) ≡ true)) (IsReady net m)
    (λ l h. record { free = record { found = h.0.found; free = uncloned_of net l.list.0 (neither (is_crossed l.crossed) (has_clone net l.list.0) h.1) }; stand = h.0.stand }) (ready_lists net m)
    (each_filter (IsKeptLive net m) (λ l. not (is_waiting net l)) (kept_lists net m) (kept_live net m a))
  where
    neither : (a b : Bool) → not (a || b) ≡ true → b ≡ false
    neither true b h = cc
    neither false true h = cc
    neither false false h = refl

-- the miniport's lists have no clone
pub kept_free : (net : Net) → Facts net → (m : ModuleId) → ((f : ℕ) → m ≡ Filter f → ⊥) → (l : LiveList) → IsKeptLive net m l → IsFree net l
kept_free net facts m other l h = record {
  found = h.found;
  free = unkept net.modules.order (is_virtual net.head.kind) net.next.list (look net) facts.good.good l.list.0 l h.found (λ f e. other f (same_keeper m (Filter f) (sym h.stand ∙ e)));
}
  where
    same_keeper : (a b : ModuleId) → stand.Kept a ≡ stand.Kept b → a ≡ b
    same_keeper a b e = cc

pub miniport_free : (net : Net) → Facts net → (l : LiveList) → IsKeptLive net Miniport l → IsFree net l
miniport_free net facts l h = kept_free net facts Miniport (λ f e. cc) l h
