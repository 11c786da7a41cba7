use Rattle.std.proofs.Common.{refl}
use Rattle.frame_filters.specs.States.{plain_state}
use Rattle.frame_filters.proofs.Passing.{passes_all}
use Rattle.frame_filters.proofs.parts.Plain.send.Goals as goal

pub returns : goal.returns
returns c = record {
  same = refl;
  by = λ p is. passes_all (plain_state c.args.self.now) p c.args.list c.args.tray.now _ c.forward.new.self (c.args.self.now.empty p is) refl c.forward.ensures;
}
