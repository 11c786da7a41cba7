-- What holds of a stack that is walked.
use Rattle.std.specs.Prelude.{◌≡◌, List, Option, IfSome}
use Rattle.journal_types.specs.declared.StackHead.{StackHead}
use Rattle.journal_types.specs.declared.Turn.{Turn}
use Rattle.stack_rules.specs.Net.{Net, start, seen}
use Rattle.plain_walk.specs.Walked.{ByRules}

-- The journal is written by the rules, and the state, where there is one, is the state after it.
pub record IsWalked (head : StackHead) (turns : List Turn) (net : Option Net) : Type 0 where
  pub by_rules : ByRules (start head) turns
  pub now : IfSome net (λ n. n ≡ seen head turns)
