use Rattle.std.proofs.Common.{◌≡◌, drop}
use Rattle.std.specs.List.{list_any}
use Rattle.stack_rules.specs.Crosses.{is_too_long_tagged}
use Rattle.plain_crosses.proofs.crosses.any_grows_too_long.Given as goal

abbrev pub invariant-loop-frame : goal.invariant-loop-frame
invariant-loop-frame l = list_any (is_too_long_tagged l.head) l.frames ≡ list_any (is_too_long_tagged l.head) (drop l.frame-index l.frames)
