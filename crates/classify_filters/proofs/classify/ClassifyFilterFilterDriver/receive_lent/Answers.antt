use Rattle.std.proofs.Common.{refl, ap, ◌∙◌}
use Rattle.classify_filters.specs.Blocking.{lent}
use Rattle.classify_filters.proofs.Blocked.{lends}
use Rattle.classify_filters.proofs.classify.ClassifyFilterFilterDriver.receive_lent.Goals as goal

pub returns-clause-lent : goal.returns-clause-lent
returns-clause-lent g c =
    let f = c.args.self.now in
    record {
      same = refl;
      by = λ p is. lends 35020 p c.args.list.now c.args.tray.now c.lent.result (f.blocks p is) (c.lent.ensures ∙ ap (λ n. lent n c.args.list.now.frames) f.is_lldp);
    }
