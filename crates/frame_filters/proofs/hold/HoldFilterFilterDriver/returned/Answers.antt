use Rattle.std.proofs.Common.{refl}
use Rattle.ndis_base.specs.declared.FilterKind.TheVariants.{Hold}
use Rattle.frame_filters.specs.Filters.{filter_of}
use Rattle.frame_filters.proofs.Homeward.{completes_as}
use Rattle.frame_filters.proofs.hold.HoldFilterFilterDriver.returned.Goals as goal

pub returns : goal.returns
returns c =
    let s = c.args.self.now in
    record {
      same = refl;
      by = λ _. completes_as (filter_of Hold s.setup s.kept.lists s.served s.refusals) c.args.list c.args.status c.args.tray.now c.take_home.new.kept.lists c.take_home.new.tray c.take_home.ensures;
    }
