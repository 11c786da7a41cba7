use Rattle.std.proofs.Common.{refl}
use Rattle.frame_filters.proofs.Homeward.{completes_as}
use Rattle.rule_filters.specs.States.{programmed_state}
use Rattle.rule_filters.proofs.parts.Programmed.send_complete.Goals as goal

pub returns : goal.returns
returns c = record {
  same = refl;
  by = λ _. completes_as (programmed_state c.args.self.now) c.args.list c.args.status c.args.tray.now c.take_home.new.kept.lists c.take_home.new.tray c.take_home.ensures;
}
