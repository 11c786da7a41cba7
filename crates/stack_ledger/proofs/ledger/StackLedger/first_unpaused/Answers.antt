use Rattle.std.proofs.Common.{sym, ap, ◌∙◌}
use Rattle.stack_ledger.specs.Positions.{paused_from_top}
use Rattle.stack_ledger.proofs.Positions.{first_unpaused-is}
use Rattle.stack_ledger.proofs.ledger.StackLedger.first_unpaused.Goals as goal

pub returns : goal.returns
returns c = c.paused_from_top.ensures ∙ ap paused_from_top (ap (λ v. v.net.modules) c.self.view_is) ∙ sym (first_unpaused-is c.args.self.now.net)
