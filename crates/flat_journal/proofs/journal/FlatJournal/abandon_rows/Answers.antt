use Rattle.std.proofs.Common.{◌∙◌, ap}
use Rattle.flat_journal.specs.Flat.{FlatView}
use Rattle.flat_journal.specs.Laid.{payloads_of}
use Rattle.flat_journal.proofs.Laid.{turns-abandoned}
use Rattle.flat_journal.proofs.journal.FlatJournal.abandon_rows.Goals as goal

pub returns-clause-turns : goal.returns-clause-turns
returns-clause-turns c =
    rw c.truncate.ensures.items
    (turns-abandoned (payloads_of c.self.inside) c.self.inside.turns.items c.self.inside.rows.items c.self.inside.begun c.self.invariant
    ∙ ap (λ (v : FlatView). v.turns) c.self.view_is)
