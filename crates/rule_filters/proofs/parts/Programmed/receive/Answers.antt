use Rattle.rule_filters.specs.States.{programmed_state}
use Rattle.rule_filters.proofs.Ways.{handles_as}
use Rattle.rule_filters.proofs.parts.Programmed.receive.Goals as goal

pub returns : goal.returns
returns c = record {
  same = c.handle.ensures.state;
  by = λ p is. handles_as (programmed_state c.args.self.now) p c.args.list c.args.tray.now c.handle.new.self.kept.lists c.handle.new.tray (c.handle.ensures.handles.by p is);
}
