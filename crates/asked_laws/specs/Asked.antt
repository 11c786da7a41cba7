-- Whose requests a stack has (WDK, "Protocol Driver OID Requests").
use Rattle.std.specs.Prelude.{ℕ, ◌<◌, List, length}
use Rattle.journal_types.specs.declared.StackHead.{StackHead}
use Rattle.journal_types.specs.declared.Turn.{Turn}
use Rattle.stack_rules.specs.declared.Request.{Request}
use Rattle.stack_rules.specs.Net.{seen}
use Rattle.stack_rules.specs.Sound.{Sound}
use Rattle.rule_basics.specs.Live.{EachRequest}

-- the request is of one of so many bindings
abbrev pub IsOurs : ℕ → Request → Type 0
IsOurs many r = r.binding < many

-- After every sound journal each live request, a clone too, is of one of the stack's bindings.
abbrev pub EachIsOfABinding : Type 0
EachIsOfABinding = (head : StackHead) (turns : List Turn) → Sound head turns → EachRequest (IsOurs (length head.bindings)) (seen head turns).requests
