use Rattle.std.proofs.Common.{length}
use Rattle.script_forms.specs.Script.{call_after}
use Rattle.script_tokens.proofs.Lists.{ReadSoFar}
use Rattle.script_tokens.proofs.calls.each_call.Given as goal

abbrev pub invariant-calls : goal.invariant-calls
invariant-calls l = ReadSoFar 126 (call_after l.lanes l.fn.stacks) l.initial.reader l.reader l.calls.items

abbrev pub decreases-calls : goal.decreases-calls
decreases-calls l = length l.reader
