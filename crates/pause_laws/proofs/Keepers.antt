-- The lists that a module keeps.
use Rattle.std.proofs.Common.{◌≡◌, ℕ, ◌≤◌, not, Bool, true, List, filter, refl, arith, ap, subst}
use Rattle.std.proofs.lemmas.Bool.Decides.{nat_tests}
use Rattle.ndis_base.specs.declared.ModuleId.{ModuleId}
use Rattle.ndis_base.specs.declared.ModuleId.TheVariants.{Miniport, Filter, Binding}
use Rattle.stack_rules.specs.declared.Stand.{Stand}
use Rattle.stack_rules.specs.declared.Stand.TheVariants as stand
use Rattle.stack_rules.specs.declared.LiveList.{LiveList}
use Rattle.stack_rules.specs.Tests.{is_down, same_module}
use Rattle.stack_rules.specs.Net.{Net, lists}
use Rattle.stack_rules.specs.Places.{position, is_kept_by, kept_lists, ready_lists, is_waiting}
use Rattle.rule_basics.specs.Live.{Each}
use Rattle.rule_basics.proofs.Each.{Each-implies}
use Rattle.pause_laws.specs.Clear.{StandsFrom}
use Rattle.pause_laws.proofs.Hands.{Clear}
use Rattle.pause_laws.proofs.Works.{IsWorked, all_worked, each_filter}

same_is : (k m : ModuleId) → same_module k m ≡ true → k ≡ m
same_is Miniport Miniport h = refl
same_is (Filter f) (Filter g) h = ap Filter (grind (arith, nat_tests))
same_is (Binding b) (Binding c) h = ap Binding (grind (arith, nat_tests))
same_is _ _ h = cc

pub kept_is : (m : ModuleId) (s : Stand) → is_kept_by m s ≡ true → s ≡ stand.Kept m
kept_is m stand.Unplaced h = cc
kept_is m (stand.Kept k) h = ap (λ x. stand.Kept x) (same_is k m h)
kept_is m (stand.Passed way to) h = cc

-- a live list that a module keeps: the module had it last, and is at the front or below it
pub record IsKeptAt (net : Net) (front : ℕ) (m : ModuleId) (l : LiveList) : Type 0 where
  pub worked : IsWorked net front l
  pub last : l.last ≡ m
  pub at : front ≤ position net.modules.order m
  pub below : is_down l.direction ≡ true → position net.modules.order l.owner ≤ position net.modules.order m

pub kept_at : (net : Net) (front : ℕ) (m : ModuleId) (l : LiveList) → IsWorked net front l → is_kept_by m l.stand ≡ true → IsKeptAt net front m l
kept_at net front m l w h =
    let stands : StandsFrom net.modules front l (stand.Kept m) = subst (StandsFrom net.modules front l) (kept_is m l.stand h) w.clear.stands in
    record { worked = w; last = stands.0; at = stands.1; below = λ d. subst (λ k. position net.modules.order l.owner ≤ position net.modules.order k) stands.0 (w.clear.down d) }

pub kept_all : (net : Net) (front : ℕ) (m : ModuleId) → Clear net.modules front net → Each (IsKeptAt net front m) (kept_lists net m)
kept_all net front m k =
    Each-implies (λ l. IsWorked net front l × (is_kept_by m l.stand ≡ true)) (IsKeptAt net front m) (λ l h. kept_at net front m l h.0 h.1) (kept_lists net m)
    (each_filter (IsWorked net front) (λ l. is_kept_by m l.stand) (lists net.things) (all_worked net front k))

pub each_of : (P : LiveList → Type 0) (test : LiveList → Bool) (ls : List LiveList) → Each P ls → Each P (filter test ls)
each_of P test ls h = Each-implies (λ l. P l × (test l ≡ true)) P (λ l p. p.0) (filter test ls) (each_filter P test ls h)

pub ready_all : (net : Net) (front : ℕ) (m : ModuleId) → Clear net.modules front net → Each (IsKeptAt net front m) (ready_lists net m)
ready_all net front m k = each_of (IsKeptAt net front m) (λ l. not (is_waiting net l)) (kept_lists net m) (kept_all net front m k)
