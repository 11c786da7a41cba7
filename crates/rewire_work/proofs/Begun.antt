-- An event that began with more room did what it did.
use Rattle.std.proofs.Common.{[], ◌++◌, Option, refl, sym, ap, ◌∙◌, subst}
use Rattle.journal_types.specs.declared.Event.{Event}
use Rattle.journal_types.specs.declared.Reply.{Reply}
use Rattle.stack_rules.specs.Net.{told, after_rows}
use Rattle.stack_rules.specs.Sound.{outcome}
use Rattle.driver_tray.specs.Tray.{TrayView, begun_by}
use Rattle.book_lemmas.specs.Did.{Did}
use Rattle.book_lemmas.specs.Stands.{IsShelved}
use Rattle.book_lemmas.specs.Turns.{HasUsed}
use Rattle.book_lemmas.specs.Views.{BookView}
use Rattle.book_lemmas.proofs.Goes.{used_then}
use Rattle.book_parts.specs.Events.{IsBook, IsIdle, DidEvent}
use Rattle.book_parts.proofs.Events.{Begins, unmoved}
use Rattle.rewire_work.specs.Rested.{IsRoomed}
use Rattle.book_lemmas.specs.Shelves.{FollowsShelf}
use Rattle.book_parts.proofs.Events.{begins_roomed}

-- the book with more room
abbrev pub roomed : BookView → TrayView → BookView
roomed old t = record { tray = t; held = old.held }

pub begins_room : (old t : TrayView) → IsRoomed old t → Begins old t []
begins_room old t r = begins_roomed old t r.same r.covers r.slack

pub roomed_book : (old : BookView) (t : TrayView) → IsBook old → Begins old.tray t [] → IsBook (roomed old t)
roomed_book old t k g = (unmoved t k g).book

pub roomed_idle : (old : BookView) (t : TrayView) → IsIdle old → Begins old.tray t [] → IsIdle (roomed old t)
roomed_idle old t i g = record { rows = g.rows ∙ i.rows; told_by = g.told_by ∙ i.told_by }

pub did_begun : (old : BookView) (t : TrayView) (new : BookView) (e : Event) (answer : Reply) → Begins old.tray t [] → DidEvent (roomed old t) new e answer → DidEvent old new e answer
did_begun old t new e answer g d =
    let by : Option (Event × Reply) = new.tray.told_by in
    let used : HasUsed old.tray new.tray.rows new.tray = used_then old.tray t new.tray [] new.tray.rows g.used
    (record { rows_used = d.goes.used.rows_used; frames = d.goes.used.frames; bytes = d.goes.used.bytes; slack = d.goes.used.slack; turns = d.goes.used.turns; payloads = d.goes.used.payloads }) in
    record {
      book = d.book;
      choice = d.choice;
      reply = d.reply ∙ ap (λ n. (outcome n e d.choice).reply) g.net;
      rows = d.rows ∙ ap (λ n. (outcome n e d.choice).rows) g.net;
      tells = ap (λ n. begun_by n by) (sym g.net) ∙ d.tells ∙ ap (λ n. told n e answer) g.net;
      goes = record {
        head = d.goes.head ∙ g.head;
        turns = d.goes.turns ∙ g.turns;
        told_by = refl;
        net = d.goes.net ∙ ap (λ n. after_rows (begun_by n by) new.tray.rows) g.net;
        rows = d.goes.rows ∙ ap (λ rs. rs ++ new.tray.rows) g.rows;
        used = record { rows_used = used.rows_used; frames = used.frames; bytes = used.bytes; slack = used.slack; turns = used.turns; payloads = used.payloads };
        did = subst (λ n. Did old.held.seats old.held new.held (begun_by n by) new.tray.rows) g.net d.goes.did;
      };
      refused = d.refused;
      still = d.still;
    }

pub shelf_begun : (old : BookView) (t : TrayView) (new : BookView) (e : Event) (answer : Reply) → Begins old.tray t [] → FollowsShelf (roomed old t) new e answer → FollowsShelf old new e answer
shelf_begun old t new e answer g s = record {
  shelved = λ who was. s.shelved who (subst (λ n. IsShelved n t.turns old.held) (sym g.net) (subst (λ ts. IsShelved old.tray.net ts old.held) (sym g.turns) was));
}
