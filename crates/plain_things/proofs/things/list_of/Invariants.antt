use Rattle.std.proofs.Common.{◌≡◌, drop}
use Rattle.stack_rules.specs.Net.{lists, list_of}
use Rattle.plain_things.proofs.things.list_of.Given as goal

abbrev pub invariant-loop-t : goal.invariant-loop-t
invariant-loop-t l = list_of l.n (lists l.things) ≡ list_of l.n (lists (drop l.t-index l.things))
