use Rattle.std.proofs.Common.{refl}
use Rattle.frame_filters.proofs.Homeward.{completes_as}
use Rattle.classify_filters.specs.States.{state_of}
use Rattle.classify_filters.proofs.classify.ClassifyFilterFilterDriver.send_complete.Goals as goal

pub returns : goal.returns
returns g c =
    let f = c.args.self.now in
    record {
      same = refl;
      by = λ _. completes_as (state_of f.setup f.served f.refusals) c.args.list c.args.status c.args.tray.now _ c.pass_home.new.tray c.pass_home.ensures;
    }
