use Rattle.std.proofs.Common.{true, ap}
use Rattle.journal_types.specs.declared.PassWay.TheVariants as way
use Rattle.journal_types.specs.declared.Target.TheVariants.{Bindings}
use Rattle.stack_rules.specs.Tests.{phase_is_running}
use Rattle.binding_work.proofs.Upward.{roomed_there, up_roomed, up_event}
use Rattle.binding_work.proofs.ups.return_untaken.Goals as goal

pub return_first-requires-clause-there : goal.return_first-requires-clause-there
return_first-requires-clause-there g c = roomed_there _ _ c.requires.book c.requires.idle c.in_ok-make_room.ensures.ready.roomed

pub return_first-requires-clause-first : goal.return_first-requires-clause-first
return_first-requires-clause-first g c = up_roomed _ _ way.Up Bindings c.requires.first c.in_ok-make_room.ensures.ready.roomed

pub returns-clause-did : goal.returns-clause-did
returns-clause-did g c = (up_event _ _ _ true c.requires.book c.requires.idle c.in_ok-make_room.ensures.ready c.return_first.ensures (ap phase_is_running c.requires.running) (λ e. c.requires.untaken)).did

pub returns-clause-turn : goal.returns-clause-turn
returns-clause-turn g c = (up_event _ _ _ true c.requires.book c.requires.idle c.in_ok-make_room.ensures.ready c.return_first.ensures (ap phase_is_running c.requires.running) (λ e. c.requires.untaken)).turn
