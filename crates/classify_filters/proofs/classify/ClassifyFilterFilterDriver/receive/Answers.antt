use Rattle.std.proofs.Common.{refl, ap, ◌∙◌}
use Rattle.classify_filters.specs.Blocking.{blocked}
use Rattle.classify_filters.specs.States.{state_of}
use Rattle.classify_filters.proofs.Blocked.{blocks}
use Rattle.classify_filters.proofs.classify.ClassifyFilterFilterDriver.receive.Goals as goal

pub returns : goal.returns
returns g c =
    let f = c.args.self.now in
    record {
      same = refl;
      by = λ p is. blocks 35020 (state_of f.setup f.served f.refusals) p c.args.list c.args.tray.now c.block.new.tray (f.blocks p is) (c.block.ensures ∙ ap (λ n. blocked n c.args.list c.args.tray.now) f.is_lldp);
    }
