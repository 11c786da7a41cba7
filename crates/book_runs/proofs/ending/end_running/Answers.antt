use Rattle.book_runs.proofs.Ended.{begun_by, halted_by, none_left, pumped_phase, ends_in_all}
use Rattle.book_runs.proofs.ending.end_running.Goals as goal

pub pause_all-requires : goal.pause_all-requires
pause_all-requires g c = record { pausing = (begun_by (pumped_phase c.requires.running c.in_ok-pump_all.ensures.pumped).phase_is c.in_ok-ask.ensures.turned).now }

pub returns-clause-ends : goal.returns-clause-ends
returns-clause-ends g c =
    let first = c.in_ok-pump_all.ensures.pumped in
    let running = pumped_phase c.requires.running first in
    let begun = begun_by running.phase_is c.in_ok-ask.ensures.turned in
    let paused = c.in_ok-pause_all.ensures.pauses in
    let pumped = c.in_ok-pump_all-2.ensures.pumped in
    let rested = pumped_phase paused.now pumped in
    ends_in_all c.requires.running first begun paused pumped
    (halted_by rested (pumped.rests.things rested.phase_is) (pumped.keeps (paused.keeps (begun.keeps (none_left running first.rests)))) c.in_ok-ask-2.ensures.turned)
