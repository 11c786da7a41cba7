use Rattle.std.proofs.Common.{refl}
use Rattle.frame_filters.specs.States.{plain_state}
use Rattle.frame_filters.proofs.Homeward.{completes_as}
use Rattle.frame_filters.proofs.parts.Plain.returned.Goals as goal

pub returns : goal.returns
returns c = record {
  same = refl;
  by = λ _. completes_as (plain_state c.args.self.now) c.args.list c.args.status c.args.tray.now _ c.pass_home.new.tray c.pass_home.ensures;
}
