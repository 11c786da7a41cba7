-- Where the OID requests of a stack and their answers stand after every sound journal.
use Rattle.journal_types.specs.declared.StackHead.{StackHead}
use Rattle.journal_types.specs.declared.Turn.{Turn}
use Rattle.std.specs.Prelude.{List}
use Rattle.stack_rules.specs.Net.{Net, seen}
use Rattle.stack_rules.specs.Sound.{Sound}
use Rattle.place_laws.specs.Kept.{IsGiven, IsAsked, EachAnswer}
use Rattle.rule_basics.specs.Live.{EachRequest, EachApart}

-- Each request has a number of its own; a clone waits below its parent, and an answer goes to a filter that has
-- the parent.
pub record IsRequested (net : Net) : Type 0 where
  pub answers : EachAnswer (λ a. IsGiven net a.parent.0) net.things
  pub apart : EachApart net.requests
  pub asked : EachRequest (IsAsked net) net.requests

abbrev pub EachIsRequested : Type 0
EachIsRequested = (head : StackHead) (turns : List Turn) → Sound head turns → IsRequested (seen head turns)
