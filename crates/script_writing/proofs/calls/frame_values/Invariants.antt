use Rattle.std.proofs.Common.{◌≡◌, map, take}
use Rattle.serde_json.specs.View.{view}
use Rattle.program_forms.specs.Written.{hex_data}
use Rattle.script_writing.proofs.calls.frame_values.Given as goal

abbrev pub invariant-loop-frame : goal.invariant-loop-frame
invariant-loop-frame l = map view l.values.items ≡ map hex_data (take l.frame-index l.frames)
