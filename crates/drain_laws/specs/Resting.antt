-- Where the live lists are between the turns: each is on its way, or a module keeps it that has a reason to.
use Rattle.std.specs.Prelude.{◌≡◌, ◌⊎◌, Bool, true, List}
use Rattle.ndis_base.specs.declared.ModuleId.{ModuleId}
use Rattle.ndis_base.specs.declared.ModuleId.TheVariants.{Miniport, Filter, Binding}
use Rattle.journal_types.specs.declared.StackHead.{StackHead}
use Rattle.journal_types.specs.declared.Turn.{Turn}
use Rattle.stack_rules.specs.declared.LiveList.{LiveList}
use Rattle.stack_rules.specs.declared.Stand.{Stand}
use Rattle.stack_rules.specs.declared.Stand.TheVariants as stand
use Rattle.stack_rules.specs.Tests.{is_retain}
use Rattle.stack_rules.specs.Heads.{binding_numbers, kind_of_binding}
use Rattle.stack_rules.specs.Net.{Net, lists, seen}
use Rattle.stack_rules.specs.Places.{has_clone}
use Rattle.stack_rules.specs.Cancels.{is_hold_filter}
use Rattle.stack_rules.specs.Rewires.{is_in}
use Rattle.stack_rules.specs.Sound.{Sound}
use Rattle.rule_basics.specs.Live.{Each}

-- a filter keeps a list as a hold filter, or because a clone of the list is live; a binding of a retain protocol
-- keeps what it is given; the miniport keeps its ring
abbrev pub MayKeep : Net → Bool → ModuleId → Type 0
MayKeep net cloned Miniport = Unit {0}
MayKeep net cloned (Filter f) = (is_hold_filter net.modules f ≡ true) ⊎ (cloned ≡ true)
MayKeep net cloned (Binding b) = (is_in b (binding_numbers net.head) ≡ true) × (is_retain (kind_of_binding net.head b) ≡ true)

abbrev pub Rests : Net → Bool → Stand → Type 0
Rests net cloned stand.Unplaced = ⊥
Rests net cloned (stand.Kept m) = MayKeep net cloned m
Rests net cloned (stand.Passed way to) = Unit {0}

abbrev pub IsResting : Net → LiveList → Type 0
IsResting net l = Rests net (has_clone net l.list.0) l.stand

-- After every sound journal each live list is on its way or kept so.
abbrev pub ListsRest : Type 0
ListsRest = (head : StackHead) (turns : List Turn) → Sound head turns → Each (IsResting (seen head turns)) (lists (seen head turns).things)
