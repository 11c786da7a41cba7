-- Where a sound journal leaves everything.
use Rattle.std.specs.Prelude.{◌≡◌, ◌≤◌, List, length}
use Rattle.ndis_base.specs.declared.Phase.TheVariants.{Halted}
use Rattle.journal_types.specs.declared.StackHead.{StackHead}
use Rattle.journal_types.specs.declared.Turn.{Turn}
use Rattle.stack_rules.specs.Net.{seen}
use Rattle.stack_rules.specs.Sound.{Sound}
use Rattle.place_laws.specs.Kept.{IsInPlace}

-- After every sound journal of a stack with a binding everything stands in its place, but while it is Halted.
abbrev pub EachInPlace : Type 0
EachInPlace = (head : StackHead) (turns : List Turn) → Sound head turns → 1 ≤ length head.bindings → ((seen head turns).phase ≡ Halted → ⊥) → IsInPlace (seen head turns)
