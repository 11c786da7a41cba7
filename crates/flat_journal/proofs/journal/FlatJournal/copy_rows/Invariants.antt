use Rattle.std.proofs.Common.{◌≡◌, ◌++◌, take}
use Rattle.flat_journal.specs.Grows.{Grows}
use Rattle.flat_journal.proofs.journal.FlatJournal.copy_rows.Given as goal

abbrev pub invariant-loop-row : goal.invariant-loop-row
invariant-loop-row l = record {
  head : l.self.head ≡ l.fn.self.head;
  turns : l.self.turns ≡ l.fn.self.turns;
  rows : l.self.rows ≡ l.fn.self.rows ++ take l.row-index l.rows;
  payloads : Grows l.fn.self.payloads l.self.payloads;
}
