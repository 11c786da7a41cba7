-- The owner of a list is a module of the configuration, of those that may own it.
use Rattle.std.proofs.Common.{◌≡◌, ◌<◌, ◌≤◌, Bool, true, false, List, [], Some, length, refl, arith, ap, sym, ◌∙◌}
use Rattle.ndis_base.specs.declared.ModuleId.{ModuleId}
use Rattle.ndis_base.specs.declared.ModuleId.TheVariants.{Miniport, Filter, Binding}
use Rattle.ndis_base.specs.declared.Phase.{Phase}
use Rattle.ndis_base.specs.declared.Phase.TheVariants as phase
use Rattle.journal_types.specs.declared.StackHead.{StackHead}
use Rattle.journal_types.specs.declared.Turn.{Turn}
use Rattle.stack_rules.specs.declared.LiveList.{LiveList}
use Rattle.stack_rules.specs.Tests.{is_down}
use Rattle.stack_rules.specs.Net.{Net, Modules, lists, list_of, seen}
use Rattle.stack_rules.specs.Places.{position}
use Rattle.stack_rules.specs.Sound.{Sound}
use Rattle.rule_basics.proofs.Each.{Each-found, Each-implies}
use Rattle.pause_laws.specs.Clear.{IsHeld}
use Rattle.pause_laws.proofs.Turns.{held_journal}
use Rattle.place_laws.specs.Kept.{IsPlaced}
use Rattle.place_laws.specs.Listed.{IsListed}
use Rattle.place_laws.proofs.Keepers.{all_found}
use Rattle.place_laws.proofs.Looks.{look}
use Rattle.place_laws.proofs.Turns.{lists_stand}
use Rattle.outstanding_laws.proofs.Turns.{none_halted, right_journal}
use Rattle.homeward_laws.specs.Homeward.{MayOwn, IsOwned, EachIsOwned}

-- the owner of a list that goes down is above the miniport, that of any other one below the bindings
may_own : (ms : Modules) (down : Bool) (owner : ModuleId) → (down ≡ true → position ms.order owner < position ms.order Miniport) → (down ≡ false → 1 ≤ position ms.order owner) → MayOwn down owner
may_own ms down (Filter f) low high = tt
may_own ms true (Binding b) low high = refl
may_own ms false (Binding b) low high = absurd (omega (arith, high refl))
may_own ms true Miniport low high = absurd (omega (arith, low refl))
may_own ms false Miniport low high = refl

module _ (head : StackHead) (turns : List Turn) (s : Sound head turns) (bound : 1 ≤ length head.bindings) where
  abbrev net : Net
  net = seen head turns

  held : IsHeld net
  held = held_journal head turns s

  placed_may : (l : LiveList) → IsPlaced net l → MayOwn (is_down l.direction) l.owner
  placed_may l p = may_own net.modules (is_down l.direction) l.owner p.down p.up

  clash : (l : LiveList) → lists net.things ≡ [] → look net l.list.0 ≡ Some l → ⊥
  clash l none f = cc (sym (ap (list_of l.list.0) none) ∙ f)

  listed_placed : (l : LiveList) → look net l.list.0 ≡ Some l → IsListed net → IsPlaced net l
  listed_placed l f k = Each-found (IsPlaced net) l.list.0 (lists net.things) l k.placed f

  -- each list stands where it may, in a stack that is Halted too, since there are none
  pub placed : (l : LiveList) → look net l.list.0 ≡ Some l → IsPlaced net l
  placed l f = by net.phase refl
    where
      by : (p : Phase) → net.phase ≡ p → IsPlaced net l
      by phase.Halted e = absurd (clash l (none_halted net held e) f)
      by phase.Paused e = listed_placed l f (lists_stand head turns s bound (λ h. cc))
      by phase.Restarting e = listed_placed l f (lists_stand head turns s bound (λ h. cc))
      by phase.Running e = listed_placed l f (lists_stand head turns s bound (λ h. cc))
      by phase.Pausing e = listed_placed l f (lists_stand head turns s bound (λ h. cc))

pub each_is_owned : EachIsOwned
each_is_owned head turns s bound =
    let net : Net = seen head turns in
    Each-implies (λ l. look net l.list.0 ≡ Some l) (IsOwned net) (λ l f. record { there = (right_journal head bound turns s l.list.0 l f).1; may = placed_may head turns s bound l (placed head turns s bound l f) }) (lists net.things) (all_found (lists net.things) (held_journal head turns s).clear.apart)
