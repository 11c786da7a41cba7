use Rattle.std.proofs.Common.{◌≡◌, drop}
use Rattle.std.specs.List.{list_all}
use Rattle.stack_ledger.specs.Positions.{is_in}
use Rattle.stack_ledger.proofs.floors.all_in.Given as goal

abbrev pub invariant-loop-s : goal.invariant-loop-s
invariant-loop-s l = list_all (is_in l.wanted) l.states ≡ list_all (is_in l.wanted) (drop l.s-index l.states)
