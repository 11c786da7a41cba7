use Rattle.std.proofs.Common.{length, ◌+◌}
use Rattle.plain_followed.proofs.followed.+follow.Given as goal

abbrev pub decreases-follow : goal.decreases-follow
decreases-follow l = l.most + length l.calls.now
