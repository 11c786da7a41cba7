-- How many filters stand in the order, and how many are attached.
use Rattle.std.specs.Prelude.{◌≡◌, ◌≢◌, ◌≤◌, List, [], length}
use Rattle.ndis_base.specs.declared.Phase.TheVariants.{Halted}
use Rattle.journal_types.specs.declared.StackHead.{StackHead}
use Rattle.journal_types.specs.declared.Turn.{Turn}
use Rattle.stack_rules.specs.Net.{Net, seen}
use Rattle.stack_rules.specs.Outcome.{max_filters}
use Rattle.stack_rules.specs.Sound.{Sound}

-- the order has at most as many filters as a stack may have
abbrev pub EachOrderFits : Type 0
EachOrderFits = (head : StackHead) (turns : List Turn) → Sound head turns → length (seen head turns).modules.order ≤ max_filters head

-- As many filters are attached as stand in the order; to a Halted stack none is.
pub record AreAsMany (net : Net) : Type 0 where
  pub halted : net.phase ≡ Halted → net.modules.filters ≡ []
  pub attached : net.phase ≢ Halted → length net.modules.filters ≡ length net.modules.order

abbrev pub EachIsAsMany : Type 0
EachIsAsMany = (head : StackHead) (turns : List Turn) → Sound head turns → AreAsMany (seen head turns)
