use Rattle.std.proofs.Common.{◌∙◌, ap}
use Rattle.flat_journal.specs.Flat.{FlatView}
use Rattle.flat_journal.specs.Laid.{payloads_of}
use Rattle.flat_journal.proofs.Laid.{turns-row_added}
use Rattle.flat_journal.proofs.journal.FlatJournal.write_row.Goals as goal

pub returns-clause-turns : goal.returns-clause-turns
returns-clause-turns c =
    rw c.push_reserved.ensures.items
    (turns-row_added (payloads_of c.self.inside) c.self.inside.turns.items c.self.inside.rows.items c.self.inside.begun c.args.row c.self.invariant
    ∙ ap (λ (v : FlatView). v.turns) c.self.view_is)
