use Rattle.std.proofs.Common.{take, All}
use Rattle.kept_lists.specs.Kept.{IsOther}
use Rattle.kept_lists.proofs.kept.place_of.Given as goal

abbrev pub invariant-loop-i : goal.invariant-loop-i
invariant-loop-i l = All (IsOther l.list) (take l.i l.kept.items)
