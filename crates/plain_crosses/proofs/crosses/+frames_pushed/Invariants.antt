use Rattle.std.proofs.Common.{length}
use Rattle.plain_crosses.proofs.crosses.+frames_pushed.Given as goal

abbrev pub decreases-frames_pushed : goal.decreases-frames_pushed
decreases-frames_pushed l = length l.frames.now
