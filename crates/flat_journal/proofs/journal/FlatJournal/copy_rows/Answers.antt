use Rattle.std.proofs.Common.{◌≡◌, ◌∙◌, ◌++◌, ◌∷◌, [], ap, arith}
use Rattle.journal_types.specs.declared.Row.{Row}
use Rattle.flat_journal.specs.Grows.{Grows}
use Rattle.flat_journal.specs.Payloads.{Payloads}
use Rattle.flat_journal.specs.Shown.{row_of}
use Rattle.flat_journal.proofs.Grown.{grows_twice, grows_into}
use Rattle.flat_journal.proofs.Copies.{one_row_more}
use Rattle.flat_journal.proofs.journal.FlatJournal.copy_rows.Goals as goal

pub returns-in_err-make_room-clause-payloads : goal.returns-in_err-make_room-clause-payloads
returns-in_err-make_room-clause-payloads c =
    let grows : Grows c.args.self.now.payloads c.copy_row.new.self.payloads =
    grows_twice c.args.self.now.payloads c.loop-row.self.payloads c.copy_row.new.self.payloads c.loop-row.invariant.payloads c.copy_row.ensures.grows.payloads in
    grows_into c.args.self.now.payloads c.copy_row.new.self.payloads c.make_room.new.self.payloads grows c.make_room.ensures.payloads

pub loop-row-preserved : goal.loop-row-preserved
loop-row-preserved c =
    let p : Payloads = c.copy_row.new.self.payloads in
    let grows : Grows c.args.self.now.payloads p =
    grows_twice c.args.self.now.payloads c.loop-row.self.payloads p c.loop-row.invariant.payloads c.copy_row.ensures.grows.payloads in
    let payloads : c.make_room.new.self.payloads ≡ p = c.make_room.ensures.payloads in
    let rows : c.make_room.new.self.rows ≡ c.loop-row.self.rows = c.make_room.ensures.rows ∙ c.copy_row.ensures.grows.rows in
    let shown : row_of p c.in_ok-flat.flat ≡ c.row-item.result = c.in_ok-flat.ensures.shown in
    let row : row_of c.make_room.new.self.payloads c.in_ok-flat.flat ≡ c.row-item.result = ap (λ (x : Payloads). row_of x c.in_ok-flat.flat) payloads ∙ shown in
    let pushed : c.write_row.new.self.rows ≡ c.loop-row.self.rows ++ c.row-item.result ∷ [] =
    c.write_row.ensures.rows
    ∙ ap (λ xs. xs ++ row_of c.make_room.new.self.payloads c.in_ok-flat.flat ∷ []) rows
    ∙ ap (λ (x : Row). c.loop-row.self.rows ++ x ∷ []) row in
    record {
      head = c.write_row.ensures.head ∙ c.make_room.ensures.head ∙ c.copy_row.ensures.grows.head ∙ c.loop-row.invariant.head;
      turns = c.write_row.ensures.turns ∙ c.make_room.ensures.turns ∙ c.copy_row.ensures.grows.turns ∙ c.loop-row.invariant.turns;
      rows = one_row_more c.args.self.now.rows c.loop-row.self.rows c.write_row.new.self.rows c.args.rows.now c.loop-row.row-index c.row-item.result pushed c.loop-row.invariant.rows c.row-item.is (omega arith);
      payloads = grows_into c.args.self.now.payloads p c.write_row.new.self.payloads grows (c.write_row.ensures.payloads ∙ payloads);
    }
