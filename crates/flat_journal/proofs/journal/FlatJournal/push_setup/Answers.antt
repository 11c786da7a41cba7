use Rattle.std.proofs.Common.{◌∙◌, ap, refl, [], ◌∷◌}
use Rattle.flat_journal.specs.Flat.{FlatView}
use Rattle.flat_journal.specs.Laid.{payloads_of}
use Rattle.flat_journal.specs.Payloads.{Payloads}
use Rattle.flat_journal.proofs.Grown.{grown_by_setups}
use Rattle.flat_journal.proofs.Laid.{turns-grown, rows-grown}
use Rattle.flat_journal.proofs.journal.FlatJournal.push_setup.Goals as goal

pub returns-clause-turns : goal.returns-clause-turns
returns-clause-turns c =
    let now : Payloads = record { frames = c.self.inside.arena.frames; filters = c.self.inside.filters.items; setups = c.push_reserved.new.self.items } in
    turns-grown (payloads_of c.self.inside) now (grown_by_setups (payloads_of c.self.inside) now (c.args.setup ∷ []) refl refl c.push_reserved.ensures.items)
    c.self.inside.turns.items c.self.inside.rows.items c.self.inside.begun c.self.invariant
    ∙ ap (λ (v : FlatView). v.turns) c.self.view_is

pub returns-clause-rows : goal.returns-clause-rows
returns-clause-rows c =
    let now : Payloads = record { frames = c.self.inside.arena.frames; filters = c.self.inside.filters.items; setups = c.push_reserved.new.self.items } in
    rows-grown (payloads_of c.self.inside) now (grown_by_setups (payloads_of c.self.inside) now (c.args.setup ∷ []) refl refl c.push_reserved.ensures.items)
    c.self.inside.turns.items c.self.inside.rows.items c.self.inside.begun c.self.invariant
    ∙ ap (λ (v : FlatView). v.rows) c.self.view_is
