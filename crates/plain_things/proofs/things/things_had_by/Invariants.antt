use Rattle.std.proofs.Common.{◌≡◌, map}
use Rattle.stack_rules.specs.Net.{with_list, had_by}
use Rattle.plain_things.proofs.things.things_had_by.Given as goal

abbrev pub invariant-loop-t : goal.invariant-loop-t
invariant-loop-t l = l.after.items ≡ map (with_list l.n (had_by l.m)) l.yielded
