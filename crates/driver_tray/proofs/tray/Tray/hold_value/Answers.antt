use Rattle.std.proofs.Common.{◌≡◌, [], ◌∷◌, ap, ◌∙◌}
use Rattle.flat_journal.specs.Flat.{FlatView}
use Rattle.driver_tray.specs.Tray.{TrayView, valued}
use Rattle.driver_tray.specs.Inside.{shown_of}
use Rattle.driver_tray.proofs.Rows.{frames_more, journal_framed, value_uses, shown_framed}
use Rattle.driver_tray.proofs.tray.Tray.hold_value.Goals as goal

journal_is : (c : goal.After-push_value) → c.push_value.new.self ≡ frames_more c.self.inside.journal (c.bytes.result.now ∷ [])
journal_is c =
    journal_framed c.self.inside.journal c.push_value.new.self (c.bytes.result.now ∷ []) c.push_value.ensures.head c.push_value.ensures.turns c.push_value.ensures.rows
    c.push_value.ensures.payloads (value_uses c.self.inside.journal.room c.push_value.new.self.room c.bytes.result.now c.push_value.ensures.room)

pub returns-clause-tray : goal.returns-clause-tray
returns-clause-tray c =
    ap (λ (v : FlatView). shown_of v c.self.inside.told c.self.inside.queue.items c.self.inside.slack c.self.inside.caller c.self.inside.pool) (journal_is c)
    ∙ shown_framed c.self.inside.journal c.self.inside.told c.self.inside.queue.items c.self.inside.slack c.self.inside.caller c.self.inside.pool (c.bytes.result.now ∷ []) c.self.invariant.within
    ∙ ap (λ (v : TrayView). valued v c.bytes.result.now) c.self.view_is
    ∙ ap (valued c.args.self.now) c.bytes.ensures.bytes
