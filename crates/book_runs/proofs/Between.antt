-- A step of a run: what holds between turns holds again.
use Rattle.std.proofs.Common.{◌≡◌, false, List, [], ◌∷◌, ◌++◌, All, refl, sym, ap, ◌∙◌, subst}
use Rattle.std.proofs.lemmas.List.Elements.{All-push}
use Rattle.ndis_base.specs.declared.Who.{Who}
use Rattle.journal_types.specs.declared.Event.{Event}
use Rattle.journal_types.specs.declared.Event.TheVariants as event
use Rattle.journal_types.specs.declared.Reply.{Reply}
use Rattle.journal_types.specs.declared.StackHead.{StackHead}
use Rattle.journal_types.specs.declared.Turn.{Turn}
use Rattle.stack_rules.specs.Net.{Net, start, seen, after_turn, after_turns}
use Rattle.stack_rules.specs.Tests.{is_virtual}
use Rattle.work_laws.specs.Bounds.{is_take}
use Rattle.book_lemmas.specs.Turns.{AddsTurn, asked_turn}
use Rattle.book_lemmas.specs.Views.{BookView}
use Rattle.book_parts.specs.Events.{IsBook, IsIdle, IsUnmoved}
use Rattle.book_parts.proofs.Ended.{idle_state}
use Rattle.stack_steps.specs.Steps.{IsWorked, Steps}
use Rattle.book_runs.specs.Adds.{AddsThis}
use Rattle.book_runs.specs.Runs.{IsBetween, Turned}

-- what a step works is no message that is taken
worked_untaken : (e : Event) → IsWorked e → is_take e ≡ false
worked_untaken event.CrossTake w = absurd w
worked_untaken _ w = refl

abbrev Untaken : Turn → Type 0
Untaken turn = is_take turn.event ≡ false

push_all : (ts : List Turn) (t : Turn) → All Untaken ts → Untaken t → All Untaken (ts ++ t ∷ [])
push_all ts t all one = All-push Untaken ts t all one

turns_more : (net : Net) (turns : List Turn) (turn : Turn) → after_turns net (turns ++ turn ∷ []) ≡ after_turn (after_turns net turns) turn
turns_more net [] turn = refl
turns_more net (t ∷ turns) turn = turns_more (after_turn net t) turns turn

-- a step is a turn of a run
pub turned_by : {old new : BookView} {w : Who} {e : Event} {r : Reply} → IsBetween old → IsWorked e → Steps old new (record { who = w; event = e }) r → Turned old new w e r
turned_by {old} {new} {w} {e} {r} k worked s =
    let a : AddsTurn old new (record { who = w; event = e }) r = s.adds in
    let turn : Turn = asked_turn (record { who = w; event = e }) r a.rows in
    let before : old.tray.net ≡ seen old.tray.head old.tray.turns = idle_state old k.book k.idle in
    record {
      between = record {
        book = s.book;
        idle = s.idle;
        rings = ap (λ (h : StackHead). is_virtual h.kind) a.head ∙ k.rings;
        untaken = subst (All Untaken) (sym a.turns) (push_all old.tray.turns turn k.untaken (worked_untaken e worked));
      };
      turn = turn;
      told = record { by = refl; what = refl; told = refl };
      adds = record { adds = a; rows = refl; book = s.book };
      next = a.next;
      sound = k.book.follows.sound;
      bound = k.book.bound;
      before = before;
      after =
          idle_state new s.book s.idle
          ∙ ap (λ (h : StackHead). seen h new.tray.turns) a.head
          ∙ ap (seen old.tray.head) a.turns
          ∙ turns_more (start old.tray.head) old.tray.turns turn;
    }

pub unmoved_between : {old new : BookView} → IsBetween old → IsUnmoved old new → IsBetween new
unmoved_between {old} {new} k u = record {
  book = u.book;
  idle = record { rows = u.rows ∙ k.idle.rows; told_by = u.told_by ∙ k.idle.told_by };
  rings = ap (λ (h : StackHead). is_virtual h.kind) u.head ∙ k.rings;
  untaken = subst (All Untaken) (sym u.turns) k.untaken;
}
