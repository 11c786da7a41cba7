use Rattle.std.proofs.Common.{◌≡◌, map, take}
use Rattle.serde_json.specs.View.{view}
use Rattle.script_writing.specs.Written.{stack_data}
use Rattle.script_writing.proofs.stacks.stack_values.Given as goal

abbrev pub invariant-loop-stack : goal.invariant-loop-stack
invariant-loop-stack l = map view l.values.items ≡ map stack_data (take l.stack-index l.stacks)
