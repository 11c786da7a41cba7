use Rattle.std.proofs.Common.{◌≡◌, map, take}
use Rattle.serde_json.specs.View.{view}
use Rattle.script_writing.specs.Written.{call_data}
use Rattle.script_writing.proofs.calls.call_values.Given as goal

abbrev pub invariant-loop-call : goal.invariant-loop-call
invariant-loop-call l = map view l.values.items ≡ map call_data (take l.call-index l.calls)
