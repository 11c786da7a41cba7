use Rattle.std.proofs.Common.{◌≡◌, ◌++◌, take}
use Rattle.flat_journal.proofs.journal.FlatJournal.copy_frames.Given as goal

abbrev pub invariant-loop-frame : goal.invariant-loop-frame
invariant-loop-frame l = record {
  head : l.self.head ≡ l.fn.self.head;
  turns : l.self.turns ≡ l.fn.self.turns;
  rows : l.self.rows ≡ l.fn.self.rows;
  done : l.self.payloads ≡ record { frames = l.fn.self.payloads.frames ++ take l.frame-index l.frames; filters = l.fn.self.payloads.filters; setups = l.fn.self.payloads.setups };
}
