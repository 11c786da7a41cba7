use Rattle.std.proofs.Common.{ap, ◌∙◌}
use Rattle.stack_rules.specs.Net.{Net}
use Rattle.stack_rules.specs.Places.{pool_of}
use Rattle.stack_ledger.proofs.Bare.{bare_pool}
use Rattle.driver_tray.specs.Tray.{TrayView}
use Rattle.driver_tray.specs.Inside.{net_of}
use Rattle.driver_tray.proofs.tray.Tray.pool_of.Goals as goal

pub returns : goal.returns
returns c = c.pool_of.ensures ∙ ap (λ (n : Net). pool_of n c.args.id) c.self.invariant.ledger ∙ bare_pool (net_of c.self.inside.journal c.self.inside.told) c.args.id ∙ ap (λ (v : TrayView). pool_of v.net c.args.id) c.self.view_is
