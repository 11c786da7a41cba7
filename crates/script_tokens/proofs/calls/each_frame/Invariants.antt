use Rattle.std.proofs.Common.{length}
use Rattle.script_forms.specs.Values.{frame_in}
use Rattle.script_tokens.proofs.Lists.{ReadSoFar}
use Rattle.script_tokens.proofs.calls.each_frame.Given as goal

abbrev pub invariant-frames : goal.invariant-frames
invariant-frames l = ReadSoFar 124 (λ before. frame_in) l.initial.reader l.reader l.frames.items

abbrev pub decreases-frames : goal.decreases-frames
decreases-frames l = length l.reader
