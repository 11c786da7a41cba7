use Rattle.std.proofs.Common.{◌≡◌, drop}
use Rattle.std.specs.List.{list_all}
use Rattle.stack_rules.specs.Conditions.{is_frame}
use Rattle.plain_conditions.proofs.conditions.all_frames.Given as goal

abbrev pub invariant-loop-frame : goal.invariant-loop-frame
invariant-loop-frame l = list_all (is_frame l.head) l.frames ≡ list_all (is_frame l.head) (drop l.frame-index l.frames)
