use Rattle.std.proofs.Common.{◌≡◌, ◌++◌, length}
use Rattle.journal_words.specs.Words.{hex_text}
use Rattle.journal_words.proofs.page.Page.hex.Given as goal

abbrev pub invariant-loop-rest : goal.invariant-loop-rest
invariant-loop-rest l = l.self ++ hex_text l.rest ≡ l.initial.self ++ hex_text l.bytes

abbrev pub decreases-loop-rest : goal.decreases-loop-rest
decreases-loop-rest l = length l.rest
