use Rattle.std.proofs.Common.{refl}
use Rattle.own_filter.specs.States.{state_of}
use Rattle.classify_filters.proofs.Blocked.{blocks}
use Rattle.own_filter.proofs.filter.EtherTypeFilterFilterDriver.send.Goals as goal

pub returns-clause-handled : goal.returns-clause-handled
returns-clause-handled c = record {
  same = refl;
  by = λ p is. blocks c.args.self.now.class.number (state_of c.args.self.now) p c.args.list c.args.tray.now c.block.new.tray (c.args.self.now.blocks p is) c.block.ensures;
}
