use Rattle.std.proofs.Common.{arith}
use Rattle.phase_work.proofs.EachBinding.{room_for_others, first_and_others}
use Rattle.phase_work.proofs.floors.+write_bindings.Goals as goal

-- src/floors.rt:31:9
pub write_bindings-requires : goal.write_bindings-requires
write_bindings-requires t c =
    (omega (arith, c.if-many-gt0.true, c.decreases), (omega (arith, c.if-many-gt0.true, c.requires.numbers), room_for_others _ _ _ _ _ c.if-many-gt0.true c.requires.room c.write_states.ensures))

-- src/floors.rt:24:1
pub returns-then-many-gt0 : goal.returns-then-many-gt0
returns-then-many-gt0 t c = first_and_others _ _ _ _ _ _ c.if-many-gt0.true c.write_states.ensures c.write_bindings.ensures
