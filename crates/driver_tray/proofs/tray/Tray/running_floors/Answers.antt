use Rattle.std.proofs.Common.{ap, ◌∙◌}
use Rattle.stack_rules.specs.Pauses.{running_floors}
use Rattle.stack_ledger.proofs.Positions.{bare_running}
use Rattle.driver_tray.specs.Tray.{TrayView}
use Rattle.driver_tray.specs.Inside.{net_of}
use Rattle.driver_tray.proofs.tray.Tray.running_floors.Goals as goal

pub returns : goal.returns
returns c = c.running_floors.ensures ∙ ap (running_floors) c.self.invariant.ledger ∙ bare_running (net_of c.self.inside.journal c.self.inside.told) ∙ ap (λ (v : TrayView). running_floors v.net) c.self.view_is
