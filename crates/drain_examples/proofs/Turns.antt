-- What holds of each turn that may come next holds at each turn of a sound journal.
use Rattle.std.proofs.Common.{◌≡◌, ℕ, List, ◌∷◌, ◌++◌, take, drop, sym, subst}
use Rattle.std.proofs.lemmas.List.{take-append-drop}
use Rattle.journal_types.specs.declared.StackHead.{StackHead}
use Rattle.journal_types.specs.declared.Turn.{Turn}
use Rattle.stack_rules.specs.Net.{Net, seen}
use Rattle.stack_rules.specs.Sound.{Next, Sound}
use Rattle.home_laws.proofs.Standing.{sound_front}
use Rattle.drain_laws.proofs.Reached.{sound_rest}
use Rattle.drain_examples.specs.Laws.{EachTurn}

pub each_turn : (P : Net → Turn → Type 0) (head : StackHead) (turns : List Turn) → Sound head turns
    → ((before : List Turn) (turn : Turn) → Sound head before → Next (seen head before) turn → P (seen head before) turn) → EachTurn head turns P
each_turn P head turns s law = λ before rest turn e.
    let split : Sound head (before ++ turn ∷ rest) = subst (λ ts. Sound head ts) e s in
    law before turn (sound_front head before (turn ∷ rest) split) (sound_rest head before (turn ∷ rest) split).0

-- the first turns and the others together are the journal
pub sound_parts : (head : StackHead) (many : ℕ) (turns : List Turn) → Sound head turns → Sound head (take many turns ++ drop many turns)
sound_parts head many turns s = subst (λ ts. Sound head ts) (sym (take-append-drop many turns)) s
