-- A stack between two turns.
use Rattle.std.specs.Prelude.{◌≡◌, ◌≤◌, List, length}
use Rattle.journal_types.specs.declared.StackHead.{StackHead}
use Rattle.journal_types.specs.declared.Turn.{Turn}
use Rattle.stack_rules.specs.Net.{Net, seen}
use Rattle.stack_rules.specs.Sound.{Sound}

-- the state is that of a sound journal, of a stack that has a binding
pub record IsBetween (head : StackHead) (turns : List Turn) (net : Net) : Type 0 where
  pub is : net ≡ seen head turns
  pub sound : Sound head turns
  pub bound : 1 ≤ length head.bindings
