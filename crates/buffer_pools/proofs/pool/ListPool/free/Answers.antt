use Rattle.std.proofs.Common.{refl, subst, None}
use Rattle.slab.specs.Slab.{Updates}
use Rattle.buffer_pools.specs.Views.{ListView}
use Rattle.buffer_pools.proofs.Slots.{frees}
use Rattle.buffer_pools.proofs.pool.ListPool.free.Goals as goal

pub returns : goal.returns
returns c =
    let e = c.remove-slot.ensures in
    let u : Updates c.self.inside.live c.remove-slot.new.self c.args.list.slot None =
    subst (λ (l : ListView). Updates c.self.inside.live c.remove-slot.new.self l.slot None) c.list.view_is e.updates in
    rw (← c.self.view_is) (frees c.self.inside (record { spare = c.push_reserved.new.self; live = c.remove-slot.new.self; size = c.self.inside.size; bytes = c.self.inside.bytes }) c.args.list refl refl u e.len)
