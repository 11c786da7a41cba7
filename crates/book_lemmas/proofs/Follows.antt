-- The state follows the journal as rows are written and as they become a turn.
use Rattle.std.proofs.Common.{◌≡◌, ◌≤◌, length, List, [], ◌∷◌, ◌++◌, Option, None, refl, sym, ap, ◌∙◌}
use Rattle.journal_types.specs.declared.Event.{Event}
use Rattle.journal_types.specs.declared.Reply.{Reply}
use Rattle.journal_types.specs.declared.Row.{Row}
use Rattle.journal_types.specs.declared.StackHead.{StackHead}
use Rattle.journal_types.specs.declared.Turn.{Turn}
use Rattle.stack_rules.specs.Net.{Net, start, seen, told, after_rows, after_turn, after_turns}
use Rattle.stack_rules.specs.Sound.{Next, SoundFrom}
use Rattle.book_lemmas.specs.Between.{IsBetween}
use Rattle.driver_tray.specs.Tray.{begun_by}
use Rattle.book_lemmas.specs.Follows.{Follows}
use Rattle.book_lemmas.proofs.Goes.{after_rows-append}

-- more rows are written
pub follows_rows : {head : StackHead} {turns : List Turn} {told_by : Option (Event × Reply)} {net now : Net} {rows : List Row} (more : List Row) → Follows head turns told_by net rows → now ≡ after_rows net more
    → Follows head turns told_by now (rows ++ more)
follows_rows {head} {turns} {told_by} {net} {now} {rows} more f is = record {
  state = is ∙ ap (λ n. after_rows n more) f.state ∙ sym (after_rows-append (begun_by (seen head turns) told_by) rows more);
  sound = f.sound;
}

turns_then : (net : Net) (before : List Turn) (turn : Turn) → after_turns net (before ++ turn ∷ []) ≡ after_turn (after_turns net before) turn
turns_then net [] turn = refl
turns_then net (t ∷ before) turn = turns_then (after_turn net t) before turn

sound_then : (net : Net) (before : List Turn) (turn : Turn) → SoundFrom net before → Next (after_turns net before) turn → SoundFrom net (before ++ turn ∷ [])
sound_then net [] turn s n = (n, tt)
sound_then net (t ∷ before) turn s n = (s.0, sound_then (after_turn net t) before turn s.1 n)

-- the rows become a turn that may come next and tells what was told
pub follows_turn : {head : StackHead} {turns : List Turn} {told_by : Option (Event × Reply)} {net : Net} {rows : List Row} (turn : Turn) → Follows head turns told_by net rows → turn.rows ≡ rows
    → told (seen head turns) turn.event turn.reply ≡ begun_by (seen head turns) told_by → Next (seen head turns) turn → Follows head (turns ++ turn ∷ []) None net []
follows_turn {head} {turns} {told_by} {net} {rows} turn f same tells next = record {
  state = f.state ∙ ap (λ n. after_rows n rows) (sym tells) ∙ ap (after_rows (told (seen head turns) turn.event turn.reply)) (sym same) ∙ sym (turns_then (start head) turns turn);
  sound = sound_then (start head) turns turn f.sound next;
}

-- a book without rows under way is between two turns
pub between_of : {head : StackHead} {turns : List Turn} {net : Net} → 1 ≤ length head.bindings → Follows head turns None net [] → IsBetween head turns net
between_of bound f = record { is = f.state; sound = f.sound; bound = bound }
