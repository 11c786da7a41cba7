use Rattle.book_scripts.proofs.Whole.{run_shelved}
use Rattle.book_scripts.proofs.Ordered.{followed_in_order, calls_in_order, asked_in_order, runs_in_order, slice_in_order}
use Rattle.book_scripts.proofs.Laws.{run_is_sound, run_meets_laws}
use Rattle.book_scripts.proofs.Places.{run_filters_served}
use Rattle.book_scripts.proofs.Served.{run_served}
use Rattle.book_scripts.proofs.runs.run_stack.Goals as goal

pub run_calls-requires-clause-asked : goal.run_calls-requires-clause-asked
run_calls-requires-clause-asked g c =
    asked_in_order c.args.lanes c.args.order.now c.args.calls.now _ c.args.filters.now _ _ c.in_ok-open_stack.ensures.opens c.requires.asked (slice_in_order c.as_slice.result.now c.in_ok-calls.calls.items _ c.as_slice.ensures.value c.in_ok-calls.ensures)

pub returns-clause-whole : goal.returns-clause-whole
returns-clause-whole g c = runs_in_order _ c.args.lanes c.args.order.now c.args.calls.now _ _ _ _ _ (slice_in_order c.as_slice.result.now c.in_ok-calls.calls.items _ c.as_slice.ensures.value c.in_ok-calls.ensures) c.in_ok-open_stack.ensures.opens c.in_ok-run_calls.ensures.made c.in_ok-end_stack.ensures.ends

pub returns-clause-followed : goal.returns-clause-followed
returns-clause-followed g c stacks lane =
    followed_in_order stacks _ c.args.lanes c.args.order.now c.args.calls.now _ _ lane c.requires.asked c.requires.below c.requires.fresh
    (runs_in_order _ c.args.lanes c.args.order.now c.args.calls.now _ _ _ _ _ (slice_in_order c.as_slice.result.now c.in_ok-calls.calls.items _ c.as_slice.ensures.value c.in_ok-calls.ensures) c.in_ok-open_stack.ensures.opens c.in_ok-run_calls.ensures.made c.in_ok-end_stack.ensures.ends)

pub returns-clause-in_order : goal.returns-clause-in_order
returns-clause-in_order g c stacks =
    calls_in_order stacks _ c.args.lanes c.args.order.now c.args.calls.now _ _ c.requires.asked c.requires.fresh (runs_in_order _ c.args.lanes c.args.order.now c.args.calls.now _ _ _ _ _ (slice_in_order c.as_slice.result.now c.in_ok-calls.calls.items _ c.as_slice.ensures.value c.in_ok-calls.ensures) c.in_ok-open_stack.ensures.opens c.in_ok-run_calls.ensures.made c.in_ok-end_stack.ensures.ends)

pub returns-clause-laws : goal.returns-clause-laws
returns-clause-laws g c =
    run_meets_laws _ _ _ _ (runs_in_order _ c.args.lanes c.args.order.now c.args.calls.now _ _ _ _ _ (slice_in_order c.as_slice.result.now c.in_ok-calls.calls.items _ c.as_slice.ensures.value c.in_ok-calls.ensures) c.in_ok-open_stack.ensures.opens c.in_ok-run_calls.ensures.made c.in_ok-end_stack.ensures.ends)

pub returns-clause-sound : goal.returns-clause-sound
returns-clause-sound g c =
    run_is_sound _ _ _ _ (runs_in_order _ c.args.lanes c.args.order.now c.args.calls.now _ _ _ _ _ (slice_in_order c.as_slice.result.now c.in_ok-calls.calls.items _ c.as_slice.ensures.value c.in_ok-calls.ensures) c.in_ok-open_stack.ensures.opens c.in_ok-run_calls.ensures.made c.in_ok-end_stack.ensures.ends)

pub returns-clause-served : goal.returns-clause-served
returns-clause-served g c =
    run_served _ _ _ _ c.requires.fresh c.requires.halted.between
    (runs_in_order _ c.args.lanes c.args.order.now c.args.calls.now _ _ _ _ _ (slice_in_order c.as_slice.result.now c.in_ok-calls.calls.items _ c.as_slice.ensures.value c.in_ok-calls.ensures) c.in_ok-open_stack.ensures.opens c.in_ok-run_calls.ensures.made c.in_ok-end_stack.ensures.ends)

pub returns-clause-shelved : goal.returns-clause-shelved
returns-clause-shelved g c =
    run_shelved _ _ _ _ (runs_in_order _ c.args.lanes c.args.order.now c.args.calls.now _ _ _ _ _ (slice_in_order c.as_slice.result.now c.in_ok-calls.calls.items _ c.as_slice.ensures.value c.in_ok-calls.ensures) c.in_ok-open_stack.ensures.opens c.in_ok-run_calls.ensures.made c.in_ok-end_stack.ensures.ends)

pub returns-clause-filters_served : goal.returns-clause-filters_served
returns-clause-filters_served g c =
    run_filters_served _ _ _ _ c.requires.fresh c.requires.halted.between
    (runs_in_order _ c.args.lanes c.args.order.now c.args.calls.now _ _ _ _ _ (slice_in_order c.as_slice.result.now c.in_ok-calls.calls.items _ c.as_slice.ensures.value c.in_ok-calls.ensures) c.in_ok-open_stack.ensures.opens c.in_ok-run_calls.ensures.made c.in_ok-end_stack.ensures.ends)
