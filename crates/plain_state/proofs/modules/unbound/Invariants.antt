use Rattle.std.proofs.Common.{◌≡◌, replicate}
use Rattle.ndis_base.specs.declared.ModuleState.TheVariants as state
use Rattle.plain_state.proofs.modules.unbound.Given as goal

abbrev pub invariant-loop-i : goal.invariant-loop-i
invariant-loop-i l = l.states.items ≡ replicate l.i state.Unbound
