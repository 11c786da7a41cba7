use Rattle.std.proofs.Common.{◌∙◌, ◌++◌, ℕ, List, ap, arith}
use Rattle.journal_words.specs.Words.{hex_text}
use Rattle.flat_words.proofs.Spans.{word_shown}
use Rattle.flat_words.proofs.frames.push_frames.Goals as goal

pub returns : goal.returns
returns c =
    word_shown c.push_more_frames.result c.args.journal.now.payloads.frames c.args.frames.first c.args.frames.count c.args.page.now _ _ _
    (omega (arith, c.if-frames-eq0.false)) c.requires c.in_ok-text.ensures
    (c.in_ok-hex.ensures ∙ ap (λ (frame : List ℕ). c.text.new.self ++ hex_text frame) c.frame.ensures)
    c.push_more_frames.ensures
