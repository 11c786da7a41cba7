use Rattle.std.proofs.Common.{ap, ◌∙◌}
use Rattle.stack_rules.specs.Pauses.{first_unpaused}
use Rattle.stack_ledger.proofs.Positions.{bare_unpaused}
use Rattle.driver_tray.specs.Tray.{TrayView}
use Rattle.driver_tray.specs.Inside.{net_of}
use Rattle.driver_tray.proofs.tray.Tray.first_unpaused.Goals as goal

pub returns : goal.returns
returns c = c.first_unpaused.ensures ∙ ap (first_unpaused) c.self.invariant.ledger ∙ bare_unpaused (net_of c.self.inside.journal c.self.inside.told) ∙ ap (λ (v : TrayView). first_unpaused v.net) c.self.view_is
