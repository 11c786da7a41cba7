-- The rows of an event become a turn: it may come next, and the book stands again.
use Rattle.std.proofs.Common.{◌≡◌, true, List, [], ◌∷◌, ◌++◌, None, refl, sym, ap, ◌∙◌, subst}
use Rattle.ndis_base.specs.declared.Who.{Who}
use Rattle.journal_types.specs.declared.Asked.{Asked}
use Rattle.journal_types.specs.declared.Event.{Event}
use Rattle.journal_types.specs.declared.Reply.{Reply}
use Rattle.journal_types.specs.declared.Row.{Row}
use Rattle.journal_types.specs.declared.StackHead.{StackHead}
use Rattle.journal_types.specs.declared.Turn.{Turn}
use Rattle.stack_rules.specs.Conditions.{may_ask}
use Rattle.stack_rules.specs.Net.{Net, seen, told, after_rows}
use Rattle.stack_rules.specs.Outcome.{Outcome}
use Rattle.stack_rules.specs.Sound.{Next, outcome}
use Rattle.driver_tray.specs.Tray.{TrayView, begun_by, turn_of, ended}
use Rattle.book_lemmas.specs.Views.{BookView}
use Rattle.book_lemmas.specs.Did.{Did}
use Rattle.book_lemmas.specs.Follows.{Follows}
use Rattle.book_lemmas.specs.Shelves.{FollowsShelf}
use Rattle.book_lemmas.specs.Turns.{AddsTurn, asked_turn}
use Rattle.book_lemmas.proofs.Follows.{follows_turn}
use Rattle.book_lemmas.proofs.Heads.{head_seen}
use Rattle.book_parts.specs.Events.{IsBook, IsIdle, DidEvent}

-- where no turn is under way the state is that of the journal
pub idle_state : (v : BookView) → IsBook v → IsIdle v → v.tray.net ≡ seen v.tray.head v.tray.turns
idle_state v k i =
    k.follows.state
    ∙ ap (λ o. after_rows (begun_by (seen v.tray.head v.tray.turns) o) v.tray.rows) i.told_by
    ∙ ap (λ rows. after_rows (seen v.tray.head v.tray.turns) rows) i.rows

-- the book with its rows as a turn
abbrev pub turned : BookView → Who → Event → Reply → BookView
turned v who e answer = record v { tray = ended v.tray (turn_of v.tray who e answer) }

pub record Ends (old new : BookView) (who : Who) (e : Event) (answer : Reply) : Type 0 where
  pub book : IsBook new
  pub idle : IsIdle new
  pub adds : AddsTurn old new (record { who = who; event = e }) answer

pub ends : (old mid : BookView) (who : Who) (e : Event) (answer : Reply) → IsBook old → IsIdle old → DidEvent old mid e answer → FollowsShelf old mid e answer → may_ask old.tray.head e ≡ true → Ends old (turned mid who e answer) who e answer
ends old mid who e answer k i d f may =
    let turn : Turn = turn_of mid.tray who e answer in
    let is : old.tray.net ≡ seen old.tray.head old.tray.turns = idle_state old k i in
    let next : Next (seen old.tray.head old.tray.turns) turn = record {
      choice = d.choice;
      asked = ap (λ (h : StackHead). may_ask h e) (head_seen old.tray.head old.tray.turns) ∙ may;
      reply = d.reply ∙ ap (λ (n : Net). (outcome n e d.choice).reply) is;
      rows = d.rows ∙ ap (λ (n : Net). (outcome n e d.choice).rows) is;
    } in
    let seen_is : seen mid.tray.head mid.tray.turns ≡ seen old.tray.head old.tray.turns = ap (λ h. seen h mid.tray.turns) d.goes.head ∙ ap (seen old.tray.head) d.goes.turns in
    let tells : told (seen old.tray.head old.tray.turns) e answer ≡ begun_by (seen old.tray.head old.tray.turns) mid.tray.told_by =
    ap (λ (n : Net). told n e answer) (sym is) ∙ sym d.tells ∙ ap (λ (n : Net). begun_by n mid.tray.told_by) is in
    let follows : Follows mid.tray.head (mid.tray.turns ++ turn ∷ []) None mid.tray.net [] =
    follows_turn turn d.book.follows refl
    (ap (λ (n : Net). told n e answer) seen_is ∙ tells ∙ ap (λ (n : Net). begun_by n mid.tray.told_by) (sym seen_is))
    (subst (λ (n : Net). Next n turn) (sym seen_is) next) in
    record {
      book = record { stands = d.book.stands; follows = follows; bound = d.book.bound };
      idle = record { rows = refl; told_by = refl };
      adds = record {
        rows = mid.tray.rows;
        next = next;
        turns = ap (λ ts. ts ++ turn ∷ []) d.goes.turns;
        head = d.goes.head;
        idle = refl;
        untold = refl;
        did = subst (λ (n : Net). Did old.held.seats old.held mid.held n mid.tray.rows) (d.tells ∙ ap (λ (n : Net). told n e answer) is) d.goes.did;
        refused = d.refused;
        shelved = λ was. f.shelved who was;
      };
    }
