use Rattle.std.proofs.Common.{◌≡◌, None, drop}
use Rattle.script_forms.specs.Script.{two_lanes}
use Rattle.script_file.proofs.whole.have_two_lanes.Given as goal

abbrev pub invariant-loop-call : goal.invariant-loop-call
invariant-loop-call l = two_lanes l.stack l.first (drop l.call-index l.calls) ≡ two_lanes l.stack None l.calls
