use Rattle.std.proofs.Common.{◌≡◌, take}
use Rattle.classify_filters.specs.Blocking as form
use Rattle.classify_filters.proofs.blocking.carries.Given as goal

abbrev pub invariant-loop-i : goal.invariant-loop-i
invariant-loop-i g l = l.found ≡ form.carries (g.C.FrameClass.ethertype l.class) (take l.i l.list.frames)
