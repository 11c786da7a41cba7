use Rattle.std.proofs.Common.{refl}
use Rattle.frame_filters.proofs.Homeward.{completes_as}
use Rattle.own_filter.specs.States.{state_of}
use Rattle.own_filter.proofs.filter.EtherTypeFilterFilterDriver.returned.Goals as goal

pub returns : goal.returns
returns c = record {
  same = refl;
  by = λ _. completes_as (state_of c.args.self.now) c.args.list c.args.status c.args.tray.now _ c.pass_home.new.tray c.pass_home.ensures;
}
