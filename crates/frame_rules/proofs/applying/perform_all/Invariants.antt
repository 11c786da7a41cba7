use Rattle.std.proofs.Common.{◌≡◌, ◌≤◌, length, drop}
use Rattle.program_types.specs.Apply.{apply}
use Rattle.frame_rules.proofs.applying.perform_all.Given as goal

abbrev pub invariant-loop-rule : goal.invariant-loop-rule
invariant-loop-rule l = record {
  left : apply l.fn.max (drop l.rule-index l.rule-items) l.space.bytes ≡ apply l.fn.max l.rule-items l.fn.space.bytes;
  long : 14 ≤ length l.space.bytes;
  short : length l.space.bytes ≤ l.fn.max;
  room : l.space.room ≡ l.fn.space.room;
}
