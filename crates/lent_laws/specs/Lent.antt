-- A list that is lent is home in the turn in which it was issued (WDK, "Receiving Data", the flag
-- NDIS_RECEIVE_FLAGS_RESOURCES).
use Rattle.std.specs.Prelude.{◌≡◌, Bool, true, false, List}
use Rattle.ndis_base.specs.declared.Direction.{Direction}
use Rattle.ndis_base.specs.declared.Direction.TheVariants as direction
use Rattle.journal_types.specs.declared.StackHead.{StackHead}
use Rattle.journal_types.specs.declared.Turn.{Turn}
use Rattle.stack_rules.specs.declared.LiveList.{LiveList}
use Rattle.stack_rules.specs.Net.{seen, lists}
use Rattle.stack_rules.specs.Sound.{Sound}
use Rattle.rule_basics.specs.Live.{Each}

abbrev pub is_lent : Direction → Bool
is_lent direction.Lent = true
is_lent _ = false

-- the list isn't lent
abbrev pub IsOwned : LiveList → Type 0
IsOwned l = is_lent l.direction ≡ false

-- After every sound journal no live list is lent.
abbrev pub NoneIsLent : Type 0
NoneIsLent = (head : StackHead) (turns : List Turn) → Sound head turns → Each IsOwned (lists (seen head turns).things)
