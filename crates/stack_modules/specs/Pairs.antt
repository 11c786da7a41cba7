-- Which filters have a pair of handlers.
use Rattle.std.specs.Prelude.{ℕ, Bool}
use Rattle.stack_rules.specs.Net.{Modules}
use Rattle.stack_rules.specs.Targets.{has_send, has_receive, has_status}
use Rattle.stack_modules.specs.declared.pairs.Pair.{Pair}
use Rattle.stack_modules.specs.declared.pairs.Pair.TheVariants as pair

abbrev pub has : Pair → Modules → ℕ → Bool
has pair.Send ms = has_send ms
has pair.Receive ms = has_receive ms
has pair.Status ms = has_status ms
