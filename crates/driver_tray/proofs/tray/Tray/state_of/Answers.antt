use Rattle.std.proofs.Common.{ap, ◌∙◌}
use Rattle.stack_rules.specs.Net.{Net}
use Rattle.stack_rules.specs.Places.{state_of}
use Rattle.stack_ledger.proofs.Bare.{bare_state}
use Rattle.driver_tray.specs.Tray.{TrayView}
use Rattle.driver_tray.specs.Inside.{net_of}
use Rattle.driver_tray.proofs.tray.Tray.state_of.Goals as goal

pub returns : goal.returns
returns c = c.state_of.ensures ∙ ap (λ (n : Net). state_of n c.args.id) c.self.invariant.ledger ∙ bare_state (net_of c.self.inside.journal c.self.inside.told) c.args.id ∙ ap (λ (v : TrayView). state_of v.net c.args.id) c.self.view_is
