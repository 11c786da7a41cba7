use Rattle.std.proofs.Common.{sym, ap, ◌∙◌}
use Rattle.stack_ledger.specs.Positions.{running_from_below}
use Rattle.stack_ledger.proofs.Positions.{running_floors-is}
use Rattle.stack_ledger.proofs.ledger.StackLedger.running_floors.Goals as goal

pub returns : goal.returns
returns c = c.running_from_below.ensures ∙ ap running_from_below (ap (λ v. v.net.modules) c.self.view_is) ∙ sym (running_floors-is c.args.self.now.net)
