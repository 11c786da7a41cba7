use Rattle.std.proofs.Common.{◌<◌, length, sym, subst, ◌∙◌, slice_index_or}
use Rattle.stack_rules.specs.declared.Attached.{Attached}
use Rattle.stack_rules.specs.Net.{with_state}
use Rattle.stack_modules.proofs.Changes.{next_changed, state_put, state_left}
use Rattle.stack_modules.proofs.filters.put_state.Goals as goal
use Rattle.stack_modules.proofs.filters.put_state.Goals.{then-number-f, else-number-f}

pub loop-a-preserved : goal.loop-a-preserved
loop-a-preserved c =
    let xs = c.args.entries.now.items in
    let i = c.loop-a.a-index in
    let d = c.a-item.result in
    let a : Attached = slice_index_or c.loop-a.a-items i d in
    let next = next_changed (with_state c.args.f c.args.s) xs c.loop-a.a-items c.if-number-f.a-items i in
    let lt : i < length xs = subst (λ ys. i < length ys) c.deref_mut-a-items.ensures.value c.loop-a-test.true in
    elim c.if-number-f.branch [
      | then-number-f w ↦ next w.take_state.new.self d lt c.loop-a.invariant (w.take_state.ensures ∙ state_put c.args.f c.args.s a (sym c.number.ensures ∙ w.if-number-f.true)) w.a-items-is
      | else-number-f w ↦ next a d lt c.loop-a.invariant (state_left c.args.f c.args.s a (λ e. w.if-number-f.false (c.number.ensures ∙ e))) w.a-items-is
    ]
