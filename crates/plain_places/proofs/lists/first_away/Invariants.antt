use Rattle.std.proofs.Common.{◌≡◌, drop, find}
use Rattle.stack_rules.specs.Places.{is_away}
use Rattle.plain_places.proofs.lists.first_away.Given as goal

abbrev pub invariant-loop-t : goal.invariant-loop-t
invariant-loop-t l = find is_away l.things ≡ find is_away (drop l.t-index l.things)
