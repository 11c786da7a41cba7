use Rattle.std.proofs.Common.{false}
use Rattle.journal_types.specs.declared.PassWay.TheVariants as way
use Rattle.journal_types.specs.declared.Target.TheVariants.{Bindings}
use Rattle.book_parts.specs.Parts.{view_of}
use Rattle.binding_work.proofs.Sending.{not_running}
use Rattle.binding_work.proofs.Upward.{roomed_there, up_roomed, up_event, never_untaken}
use Rattle.binding_work.proofs.ups.turn_back_paused.Goals as goal

pub turn_first-requires-clause-there : goal.turn_first-requires-clause-there
turn_first-requires-clause-there g c = roomed_there _ _ c.requires.book c.requires.idle c.in_ok-make_room.ensures.ready.roomed

pub turn_first-requires-clause-first : goal.turn_first-requires-clause-first
turn_first-requires-clause-first g c = up_roomed _ _ way.Up Bindings c.requires.first c.in_ok-make_room.ensures.ready.roomed

pub returns-clause-did : goal.returns-clause-did
returns-clause-did g c = (up_event _ _ _ false c.requires.book c.requires.idle c.in_ok-make_room.ensures.ready c.turn_first.ensures (not_running _ c.requires.paused) (never_untaken (view_of g.M.MiniportCalls.state g.P.ProtocolCalls.state g.F.FilterCalls.state c.args.book.now))).did

pub returns-clause-turn : goal.returns-clause-turn
returns-clause-turn g c = (up_event _ _ _ false c.requires.book c.requires.idle c.in_ok-make_room.ensures.ready c.turn_first.ensures (not_running _ c.requires.paused) (never_untaken (view_of g.M.MiniportCalls.state g.P.ProtocolCalls.state g.F.FilterCalls.state c.args.book.now))).turn
