use Rattle.std.proofs.Common.{◌≡◌, map, drop}
use Rattle.std.specs.Prelude.{position}
use Rattle.std.specs.List.{position_from}
use Rattle.driver_choice.specs.Chosen.{is_miniport}
use Rattle.driver_choice.proofs.choosing.first_miniport.Given as goal

abbrev pub invariant-loop-i : goal.invariant-loop-i
invariant-loop-i g l =
    position (is_miniport l.kind) (map g.M.MiniportCalls.state l.miniports)
    ≡ position_from (is_miniport l.kind) l.i (drop l.i (map g.M.MiniportCalls.state l.miniports))
