-- Where nothing was moved yet the book is as it was, and what is done then was done to the book of before.
use Rattle.std.proofs.Common.{◌≡◌, Bool, false, List, [], ◌++◌, refl, sym, ap, ◌∙◌, subst}
use Rattle.journal_types.specs.declared.Event.{Event}
use Rattle.journal_types.specs.declared.Reply.{Reply}
use Rattle.journal_types.specs.declared.Row.{Row}
use Rattle.stack_rules.specs.Net.{Net, told, after_rows}
use Rattle.stack_rules.specs.Sound.{outcome}
use Rattle.driver_tray.specs.Tray.{TrayView, begun_by}
use Rattle.book_lemmas.specs.Did.{Did}
use Rattle.book_lemmas.specs.Shelves.{Balks, IsStill}
use Rattle.book_lemmas.specs.Turns.{HasUsed}
use Rattle.book_lemmas.specs.Views.{BookView, HeldView}
use Rattle.book_lemmas.proofs.Goes.{used_none, used_then}
use Rattle.book_parts.specs.Events.{IsBook, DidEvent, IsUnmoved}
use Rattle.book_parts.proofs.Events.{Ends, begins_roomed, unmoved}
use Rattle.drain_work.specs.Drains.{IsRoomed, IsResting, IsSame, Gave, Gives}

pub book_is : {new : BookView} {t : TrayView} {h : HeldView} → new.tray ≡ t → new.held ≡ h → record { tray = t; held = h } ≡ new
book_is {new} {t} {h} e f = ap (λ x. record { tray = x; held = h }) (sym e) ∙ ap (λ x. record { tray = new.tray; held = x }) (sym f)

pub same_self : (v : BookView) → IsSame v v
same_self v = record { tray = record { head = refl; turns = refl; told_by = refl; net = refl; rows = refl; queue = refl; used = used_none v.tray }; held = refl }

pub same_roomed : (old new : BookView) → IsRoomed old.tray new.tray → new.held ≡ old.held → IsSame old new
same_roomed old new r held = record { tray = begins_roomed old.tray new.tray r.same r.covers r.slack; held = held }

pub same_then : {a b c : BookView} → IsSame a b → IsSame b c → IsSame a c
same_then {a} {b} {c} s t = record {
  tray = record {
    head = t.tray.head ∙ s.tray.head;
    turns = t.tray.turns ∙ s.tray.turns;
    told_by = t.tray.told_by ∙ s.tray.told_by;
    net = t.tray.net ∙ s.tray.net;
    rows = t.tray.rows ∙ s.tray.rows;
    queue = s.tray.queue ∙ t.tray.queue;
    used = used_then a.tray b.tray c.tray [] [] s.tray.used t.tray.used;
  };
  held = t.held ∙ s.held;
}

pub same_unmoved : {old new : BookView} → IsBook old → IsSame old new → IsUnmoved old new
same_unmoved {old} {new} k s = subst (IsUnmoved old) (book_is refl s.held) (unmoved new.tray k s.tray)

pub unmoved_then : {old mid new : BookView} → IsSame old mid → IsUnmoved mid new → IsUnmoved old new
unmoved_then s u = record {
  book = u.book;
  head = u.head ∙ s.tray.head;
  turns = u.turns ∙ s.tray.turns;
  told_by = u.told_by ∙ s.tray.told_by;
  net = u.net ∙ s.tray.net;
  rows = u.rows ∙ s.tray.rows;
  queue = u.queue ∙ sym s.tray.queue;
  held = u.held ∙ s.held;
}

pub rests_same : {old new : BookView} → IsResting old → IsSame old new → IsResting new
rests_same {old} {new} r s = record {
  book = (same_unmoved r.book s).book;
  idle = record { rows = s.tray.rows ∙ r.idle.rows; told_by = s.tray.told_by ∙ r.idle.told_by };
  quiet = sym s.tray.queue ∙ r.quiet;
  live = λ e. r.live (sym (ap (λ (n : Net). n.phase) s.tray.net) ∙ e);
}

pub ends_then : {old mid new : BookView} {rows : List Row} → IsSame old mid → Ends mid new rows → Ends old new rows
ends_then {old} {mid} {new} {rows} s d = record {
  head = d.head ∙ s.tray.head;
  turns = d.turns ∙ s.tray.turns;
  told_by = d.told_by ∙ s.tray.told_by;
  net = d.net ∙ ap (λ (n : Net). after_rows n rows) s.tray.net;
  rows_are = d.rows_are ∙ ap (λ rs. rs ++ rows) s.tray.rows;
  used = used_then old.tray mid.tray new.tray [] rows s.tray.used d.used;
  did = subst (λ (n : Net). Did old.held.seats old.held new.held n rows) s.tray.net (subst (λ (h : HeldView). Did h.seats h new.held mid.tray.net rows) s.held d.did);
  stands = d.stands;
}

pub did_then : {old mid new : BookView} {e : Event} {answer : Reply} → IsSame old mid → DidEvent mid new e answer → DidEvent old new e answer
did_then {old} {mid} {new} {e} {answer} s d =
    let used : HasUsed old.tray new.tray.rows new.tray =
    used_then old.tray mid.tray new.tray [] new.tray.rows s.tray.used (record { rows_used = d.goes.used.rows_used; frames = d.goes.used.frames; bytes = d.goes.used.bytes; slack = d.goes.used.slack; turns = d.goes.used.turns; payloads = d.goes.used.payloads }) in
    record {
      book = d.book;
      choice = d.choice;
      reply = d.reply ∙ ap (λ (n : Net). (outcome n e d.choice).reply) s.tray.net;
      rows = d.rows ∙ ap (λ (n : Net). (outcome n e d.choice).rows) s.tray.net;
      tells = ap (λ (n : Net). begun_by n new.tray.told_by) (sym s.tray.net) ∙ d.tells ∙ ap (λ (n : Net). told n e answer) s.tray.net;
      goes = record {
        head = d.goes.head ∙ s.tray.head;
        turns = d.goes.turns ∙ s.tray.turns;
        told_by = refl;
        net = d.goes.net ∙ ap (λ (n : Net). after_rows (begun_by n new.tray.told_by) new.tray.rows) s.tray.net;
        rows = d.goes.rows ∙ ap (λ rs. rs ++ new.tray.rows) s.tray.rows;
        used = record { rows_used = used.rows_used; frames = used.frames; bytes = used.bytes; slack = used.slack; turns = used.turns; payloads = used.payloads };
        did = subst (λ (n : Net). Did old.held.seats old.held new.held (begun_by n new.tray.told_by) new.tray.rows) s.tray.net
            (subst (λ (h : HeldView). Did h.seats h new.held (begun_by mid.tray.net new.tray.told_by) new.tray.rows) s.held d.goes.did);
      };
      refused = subst (λ (h : HeldView). Balks e answer h new.held) s.held d.refused;
      still = subst (λ (h : HeldView). IsStill e h new.held) s.held d.still;
    }

-- the first of some modules that gives anything away, one module after the other
pub gave_then : {old mid new : BookView} {rows : List Row} → IsSame old mid → Gave mid new rows → Gave old new rows
gave_then {old} {mid} {new} s g = record {
  some = g.some;
  ends = ends_then s g.ends;
  turn = g.turn;
  shelf = g.shelf ∙ ap (λ (h : HeldView). h.shelf) s.held;
  seats = g.seats ∙ ap (λ (h : HeldView). h.seats) s.held;
}

pub gives_rows : {old new : BookView} {xs ys : List Row} {moved : Bool} → xs ≡ ys → Gives old new xs moved → Gives old new ys moved
gives_rows {old} {new} {moved = moved} e g = subst (λ rs. Gives old new rs moved) e g

-- nothing is left to be asked
pub gives_none : (v : BookView) (rows : List Row) → rows ≡ [] → Gives v v rows false
gives_none v rows e = record { none = λ m. e; still = λ m. same_self v; gave = λ m. absurd cc }

pub gives_then : {old mid new : BookView} {rows : List Row} {moved : Bool} → IsSame old mid → Gives mid new rows moved → Gives old new rows moved
gives_then s g = record { none = g.none; still = λ e. same_then s (g.still e); gave = λ e. gave_then s (g.gave e) }
