-- Where the lists, statuses and filters of a stack stand after each sound journal.
use Rattle.std.specs.Prelude.{◌≤◌, ◌≢◌, List, length}
use Rattle.ndis_base.specs.declared.Phase.TheVariants.{Halted}
use Rattle.journal_types.specs.declared.StackHead.{StackHead}
use Rattle.journal_types.specs.declared.Turn.{Turn}
use Rattle.stack_rules.specs.Net.{Net, lists, seen}
use Rattle.stack_rules.specs.Sound.{Sound}
use Rattle.rule_basics.specs.Live.{Each}
use Rattle.rule_basics.specs.Numbers.{IsNumbered}
use Rattle.place_laws.specs.Kept.{EachStatus, GoesUp, HasOriginal, IsOrdered, IsPlaced}

-- Each list, status and filter stands where it may.
pub record IsListed (net : Net) : Type 0 where
  pub bound : 1 ≤ length net.modules.bindings
  pub ordered : IsOrdered net.modules
  pub numbered : IsNumbered net
  pub placed : Each (IsPlaced net) (lists net.things)
  pub originals : Each (HasOriginal net) (lists net.things)
  pub statuses : EachStatus (λ s. GoesUp s.to) net.things

-- After each sound journal of a stack that has a binding and isn't Halted.
abbrev pub EachIsListed : Type 0
EachIsListed = (head : StackHead) (turns : List Turn) → Sound head turns → 1 ≤ length head.bindings → (seen head turns).phase ≢ Halted → IsListed (seen head turns)
