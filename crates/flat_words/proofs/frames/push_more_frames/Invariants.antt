use Rattle.std.proofs.Common.{◌≡◌, ◌++◌, take, drop}
use Rattle.journal_words.specs.Words.{more_frames_text}
use Rattle.flat_words.proofs.frames.push_more_frames.Given as goal

abbrev pub invariant-loop-i : goal.invariant-loop-i
invariant-loop-i l = l.page ≡ l.initial.page ++ more_frames_text (take l.i (drop l.frames.first l.journal.payloads.frames))
