use Rattle.std.proofs.Common.{rules, true, false, refl}
use Rattle.book_runs.proofs.Added.{none_added, steps_then, steps_end}
use Rattle.book_runs.proofs.Paused.{in_phase}
use Rattle.book_runs.proofs.pausing.pause_all.Goals as goal

pub loop-init : goal.loop-init
loop-init g c = record { pausing = c.requires.pausing; keeps = λ none. none; added = none_added _ _ tt }

pub loop-preserved : goal.loop-preserved
loop-preserved g c =
    let p = c.in_ok-pause_once.ensures.pauses in
    record {
      pausing = in_phase _ false (search rules) p.now;
      keeps = λ none. p.keeps (c.loop.invariant.keeps none);
      added = steps_then _ _ false (search rules) refl c.loop.invariant.added p.added;
    }

pub returns-clause-pauses : goal.returns-clause-pauses
returns-clause-pauses g c =
    let p = c.in_ok-pause_once.ensures.pauses in
    record {
      now = in_phase _ true (search rules) p.now;
      keeps = λ none. p.keeps (c.loop.invariant.keeps none);
      added = steps_end _ _ (search rules) c.loop.invariant.added p.added;
    }
