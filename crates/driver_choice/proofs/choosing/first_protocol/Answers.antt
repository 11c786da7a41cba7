use Rattle.std.proofs.Common.{sym, ◌∙◌}
use Rattle.driver_choice.proofs.Choice.{begun, passed_over, found_at, found_none}
use Rattle.driver_choice.proofs.choosing.first_protocol.Goals as goal

pub loop-i-init : goal.loop-i-init
loop-i-init g c = begun _ _ c.args.protocols.now

pub returns-then-is_protocol : goal.returns-then-is_protocol
returns-then-is_protocol g c = found_at _ _ _ _ _ c.loop-i-test.true c.index-protocols-i.is (sym c.is_protocol.ensures ∙ c.if-is_protocol.true) c.loop-i.invariant

pub loop-i-preserved : goal.loop-i-preserved
loop-i-preserved g c = passed_over _ _ _ _ _ c.loop-i-test.true c.index-protocols-i.is (sym c.is_protocol.ensures ∙ c.if-is_protocol.false) c.loop-i.invariant

pub returns : goal.returns
returns g c = found_none _ _ _ _ c.loop-i-test.false c.loop-i.invariant
