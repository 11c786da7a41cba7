use Rattle.std.proofs.Common.{◌≡◌, refl, ◌∙◌, ◌<◌, vec_len}
use Rattle.buffer_pools.proofs.Slots.{issues, popped-bytes, not_full}
use Rattle.buffer_pools.proofs.pool.ListPool.issue.Goals as goal

pub returns-in-Some-clause-issues : goal.returns-in-Some-clause-issues
returns-in-Some-clause-issues c =
    let some : 0 < vec_len c.self.inside.spare = c.in-Some.ensures.variant.0 refl in
    let room : c.in-Some.space.bytes ≡ c.self.inside.bytes = popped-bytes c.self.inside.spare.items (vec_len c.self.inside.spare) c.in-Some.space _ c.self.inside.spare.ok.0 c.self.invariant.bytes some (c.in-Some.ensures.value _ some) in
    rw (← c.self.view_is) (issues c.self.inside (record { spare = c.pop.new.self; live = c.enter.new.live; size = c.self.inside.size; bytes = c.self.inside.bytes }) c.enter.result refl refl c.enter.ensures.enters (c.enter.ensures.bytes ∙ c.fill.ensures.bytes ∙ room))

pub returns-in-Some-clause-no_list : goal.returns-in-Some-clause-no_list
returns-in-Some-clause-no_list c =
    let some : 0 < vec_len c.self.inside.spare = c.in-Some.ensures.variant.0 refl in
    (λ impossible. cc, λ full. absurd (not_full c.self.inside c.args.self.now c.self.view_is c.self.invariant.all some full))
