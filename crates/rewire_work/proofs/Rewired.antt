-- An event whose rows call nobody is done once the book stands again.
use Rattle.std.proofs.Common.{◌≡◌, List, [], ◌++◌, Option, refl, sym, ap, ◌∙◌, subst}
use Rattle.ndis_base.specs.declared.ModuleId.{ModuleId}
use Rattle.journal_types.specs.declared.Event.{Event}
use Rattle.journal_types.specs.declared.Reply.{Reply}
use Rattle.journal_types.specs.declared.Row.{Row}
use Rattle.stack_rules.specs.declared.Choice.{Choice}
use Rattle.stack_rules.specs.Net.{seen, told, after_rows}
use Rattle.stack_rules.specs.Sound.{Sound, outcome}
use Rattle.driver_tray.specs.Tray.{begun_by}
use Rattle.journal_types.specs.declared.StackHead.{StackHead}
use Rattle.std.proofs.Common.{◌≤◌, length}
use Rattle.book_lemmas.specs.Did.{Did, calls_in, logs_in}
use Rattle.book_lemmas.specs.Shelves.{Balks, IsStill}
use Rattle.book_lemmas.specs.Stands.{Stands}
use Rattle.book_lemmas.specs.Turns.{HasUsed}
use Rattle.book_lemmas.specs.Views.{BookView}
use Rattle.book_parts.specs.Events.{IsBook, IsIdle, DidEvent}
use Rattle.book_parts.proofs.Ended.{idle_state}
use Rattle.phase_work.specs.Written.{CountsNothing}
use Rattle.phase_work.proofs.Written.{did_nothing}

-- what the rows did to the tray, and that the drivers weren't called
pub record Rewires (old new : BookView) (e : Event) (answer : Reply) (rows : List Row) : Type 0 where
  pub head : new.tray.head ≡ old.tray.head
  pub turns : new.tray.turns ≡ old.tray.turns
  pub tells : begun_by old.tray.net new.tray.told_by ≡ told old.tray.net e answer
  pub net : new.tray.net ≡ after_rows (told old.tray.net e answer) rows
  pub rows_are : new.tray.rows ≡ rows
  pub used : HasUsed old.tray rows new.tray
  pub calls : calls_in (told old.tray.net e answer) rows ≡ []
  pub logs : (m : ModuleId) → logs_in m rows ≡ []
  pub counts : CountsNothing old.held new.held
  pub stands : Stands new.tray.net new.tray.queue new.held []

pub did_rewire : (old new : BookView) (e : Event) (answer : Reply) (choice : Choice) (rows : List Row) → IsBook old → IsIdle old → Rewires old new e answer rows
    → answer ≡ (outcome old.tray.net e choice).reply → rows ≡ (outcome old.tray.net e choice).rows
    → Balks e answer old.held new.held → IsStill e old.held new.held → DidEvent old new e answer
did_rewire old new e answer choice rows k i w reply is refused still =
    let by : Option (Event × Reply) = new.tray.told_by in
    let begun : new.tray.net ≡ after_rows (begun_by old.tray.net by) new.tray.rows =
    w.net ∙ ap (λ n. after_rows n rows) (sym w.tells) ∙ ap (after_rows (begun_by old.tray.net by)) (sym w.rows_are) in
    let used : HasUsed old.tray new.tray.rows new.tray = subst (λ rs. HasUsed old.tray rs new.tray) (sym w.rows_are) w.used in
    let did : Did old.held.seats old.held new.held (told old.tray.net e answer) rows = did_nothing old.held.seats old.held new.held (told old.tray.net e answer) rows w.calls w.logs w.counts in
    record {
      book = record {
        stands = w.stands;
        follows = record {
          state = begun ∙ ap (λ n. after_rows (begun_by n by) new.tray.rows) (idle_state old k i)
              ∙ ap (λ h. after_rows (begun_by (seen h old.tray.turns) by) new.tray.rows) (sym w.head) ∙ ap (λ ts. after_rows (begun_by (seen new.tray.head ts) by) new.tray.rows) (sym w.turns);
          sound = subst (λ h. Sound h new.tray.turns) (sym w.head) (subst (Sound old.tray.head) (sym w.turns) k.follows.sound);
        };
        bound = subst (λ (h : StackHead). 1 ≤ length h.bindings) (sym w.head) k.bound;
      };
      choice = choice;
      reply = reply;
      rows = w.rows_are ∙ is;
      tells = w.tells;
      goes = record {
        head = w.head;
        turns = w.turns;
        told_by = refl;
        net = begun;
        rows = sym (ap (λ rs. rs ++ new.tray.rows) i.rows);
        used = record { rows_used = used.rows_used; frames = used.frames; bytes = used.bytes; slack = used.slack; turns = used.turns; payloads = used.payloads };
        did = subst (λ n. Did old.held.seats old.held new.held n new.tray.rows) (sym w.tells) (subst (λ rs. Did old.held.seats old.held new.held (told old.tray.net e answer) rs) (sym w.rows_are) did);
      };
      refused = refused;
      still = still;
    }
