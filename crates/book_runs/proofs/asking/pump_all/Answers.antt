use Rattle.std.proofs.Common.{rules, true, false, refl, ◌∙◌}
use Rattle.book_runs.specs.Adds.{pump_reply}
use Rattle.book_runs.proofs.Added.{one_more, one_last, none_added}
use Rattle.book_runs.proofs.asking.pump_all.Goals as goal

pub loop-init : goal.loop-init
loop-init g c = record { between = c.requires.between; phase = refl; keeps = λ none. none; added = none_added _ _ tt }

pub loop-preserved : goal.loop-preserved
loop-preserved g c =
    let p = c.in_ok-pump_once.ensures.pumped in
    record {
      between = p.between;
      phase = p.phase_is ∙ c.loop.invariant.phase;
      keeps = λ none. p.keeps (c.loop.invariant.keeps none);
      added = one_more _ _ pump_reply _ true (search rules) c.loop.invariant.added p.added;
    }

pub returns-clause-pumped : goal.returns-clause-pumped
returns-clause-pumped g c =
    let p = c.in_ok-pump_once.ensures.pumped in
    record { between = p.between; rests = p.rests (search rules); keeps = λ none. p.keeps (c.loop.invariant.keeps none); phase_is = p.phase_is ∙ c.loop.invariant.phase; added = one_last _ _ pump_reply _ true false (search rules) c.loop.invariant.added p.added }
