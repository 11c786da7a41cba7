-- Where the statuses on their way go (WDK, "Filter Module Status Indications": a filter module with a status handler
-- sees each status that comes up to it, and all others are passed by).
use Rattle.std.specs.Prelude.{◌≡◌, ℕ, true, List}
use Rattle.ndis_base.specs.declared.ModuleId.TheVariants.{Miniport, Filter, Binding}
use Rattle.journal_types.specs.declared.StackHead.{StackHead}
use Rattle.journal_types.specs.declared.Target.{Target}
use Rattle.journal_types.specs.declared.Target.TheVariants.{Module, Bindings}
use Rattle.journal_types.specs.declared.Turn.{Turn}
use Rattle.stack_rules.specs.Net.{Modules, seen}
use Rattle.stack_rules.specs.Rewires.{is_in}
use Rattle.stack_rules.specs.Sound.{Sound}
use Rattle.stack_rules.specs.Targets.{has_status}
use Rattle.place_laws.specs.Kept.{EachStatus}

-- a filter of the configuration that has the status handler
pub record HasHandler (ms : Modules) (f : ℕ) : Type 0 where
  pub inside : is_in f ms.order ≡ true
  pub has : has_status ms f ≡ true

-- such a filter, or all bindings
abbrev pub GoesToHandler : Modules → Target → Type 0
GoesToHandler ms Bindings = Unit {0}
GoesToHandler ms (Module (Filter f)) = HasHandler ms f
GoesToHandler ms (Module Miniport) = ⊥
GoesToHandler ms (Module (Binding b)) = ⊥

-- After each sound journal each status on its way goes there.
abbrev pub EachGoesToHandler : Type 0
EachGoesToHandler = (head : StackHead) (turns : List Turn) → Sound head turns → EachStatus (λ s. GoesToHandler (seen head turns).modules s.to) (seen head turns).things
