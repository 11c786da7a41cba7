use Rattle.std.proofs.Common.{ap, ◌∙◌}
use Rattle.agenda_items.specs.Waits.{waits_at}
use Rattle.waiting_lists.proofs.Tells.{tells_waits}
use Rattle.driver_tray.specs.Tray.{TrayView}
use Rattle.driver_tray.specs.Inside.{net_of}
use Rattle.driver_tray.proofs.tray.Tray.waits.Goals as goal

pub returns : goal.returns
returns c =
    c.waits.ensures
    ∙ tells_waits (net_of c.self.inside.journal c.self.inside.told) c.self.inside.waits c.self.invariant.waits.tells c.self.invariant.waits.numbered.apart c.args.list.0
    ∙ ap (λ (v : TrayView). waits_at v.net c.args.list.0) c.self.view_is
