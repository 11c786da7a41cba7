use Rattle.std.proofs.Common.{◌≡◌, ◌+◌, drop}
use Rattle.stack_rules.specs.Pauses.{all_are, count_front}
use Rattle.stack_rules.specs.Tests.{is_paused}
use Rattle.plain_floors.proofs.floors.paused_in_front.Given as goal

abbrev pub invariant-loop-i : goal.invariant-loop-i
invariant-loop-i l = count_front (all_are is_paused l.net) l.all ≡ l.i + count_front (all_are is_paused l.net) (drop l.i l.all)
