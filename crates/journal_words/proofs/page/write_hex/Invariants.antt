use Rattle.std.proofs.Common.{◌≡◌, ◌*◌, take}
use Rattle.journal_words.specs.Words.{hex_text}
use Rattle.journal_words.proofs.page.write_hex.Given as goal

abbrev pub invariant-loop-i : goal.invariant-loop-i
invariant-loop-i l = take (2 * l.i) l.text ≡ hex_text (take l.i l.bytes)
