use Rattle.std.proofs.Common.{◌≡◌, map, take}
use Rattle.serde_json.specs.View.{view}
use Rattle.script_writing.specs.Written.{binding_data}
use Rattle.script_writing.proofs.stacks.binding_values.Given as goal

abbrev pub invariant-loop-binding : goal.invariant-loop-binding
invariant-loop-binding l = map view l.values.items ≡ map binding_data (take l.binding-index l.bindings)
