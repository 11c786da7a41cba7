use Rattle.std.proofs.Common.{refl}
use Rattle.classify_filters.proofs.Blocked.{lends}
use Rattle.own_filter.proofs.filter.EtherTypeFilterFilterDriver.receive_lent.Goals as goal

pub returns-clause-lent : goal.returns-clause-lent
returns-clause-lent c = record {
  same = refl;
  by = λ p is. lends c.args.self.now.class.number p c.args.list.now c.args.tray.now c.lent.result (c.args.self.now.blocks p is) c.lent.ensures;
}
