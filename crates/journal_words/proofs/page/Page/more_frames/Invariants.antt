use Rattle.std.proofs.Common.{◌≡◌, ◌++◌, take}
use Rattle.journal_words.specs.Words.{more_frames_text}
use Rattle.journal_words.proofs.page.Page.more_frames.Given as goal

abbrev pub invariant-loop-frame : goal.invariant-loop-frame
invariant-loop-frame l = l.self ≡ l.initial.self ++ more_frames_text (take l.frame-index l.frames)
