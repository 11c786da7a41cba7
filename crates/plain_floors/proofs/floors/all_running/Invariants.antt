use Rattle.std.proofs.Common.{◌≡◌, drop}
use Rattle.stack_rules.specs.Pauses.{all_are}
use Rattle.stack_rules.specs.Tests.{is_running}
use Rattle.plain_floors.proofs.floors.all_running.Given as goal

abbrev pub invariant-loop-m : goal.invariant-loop-m
invariant-loop-m l = all_are is_running l.net l.modules ≡ all_are is_running l.net (drop l.m-index l.modules)
