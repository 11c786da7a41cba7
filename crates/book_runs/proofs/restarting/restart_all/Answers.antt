use Rattle.std.proofs.Common.{rules, true, false}
use Rattle.book_runs.specs.Adds.{restart_reply}
use Rattle.book_runs.proofs.Added.{none_added, one_more, one_last}
use Rattle.book_runs.proofs.restarting.restart_all.Goals as goal

pub loop-init : goal.loop-init
loop-init g c = record { restarting = c.requires.restarting; added = none_added _ _ tt }

pub loop-preserved : goal.loop-preserved
loop-preserved g c =
    let r = c.in_ok-restart_once.ensures.restarts in
    record { restarting = r.goes_on (search rules); added = one_more _ _ restart_reply _ false (search rules) c.loop.invariant.added r.added }

pub loop-smaller : goal.loop-smaller
loop-smaller g c = c.in_ok-restart_once.ensures.restarts.fewer (search rules)

pub returns-clause-restarts : goal.returns-clause-restarts
returns-clause-restarts g c =
    let r = c.in_ok-restart_once.ensures.restarts in
    record {
      now = record { between = r.between; phase_is = r.running (search rules) };
      added = one_last _ _ restart_reply _ false true (search rules) c.loop.invariant.added r.added;
    }
