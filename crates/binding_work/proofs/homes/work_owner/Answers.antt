use Rattle.std.proofs.Common.{◌<◌, subst}
use Rattle.std.proofs.lemmas.List.{length-map}
use Rattle.book_parts.specs.Parts.{view_of}
use Rattle.binding_work.proofs.Homing.{goes_as_done, done_there, roomed_unmoved, roomed_idle, roomed_done, owner_event}
use Rattle.binding_work.proofs.homes.work_owner.Goals as goal

pub make_room-requires : goal.make_room-requires
make_room-requires g c =
    let v = view_of g.M.MiniportCalls.state g.P.ProtocolCalls.state g.F.FilterCalls.state c.args.book.now in
    subst (λ n. c.args.binding < n) (length-map c.args.book.now.protocols.items g.P.ProtocolCalls.state) (done_there v c.args.binding c.requires.book c.requires.idle (goes_as_done v c.args.binding c.requires.book c.requires.idle c.requires.first)).protocols

pub home_first-requires-clause-book : goal.home_first-requires-clause-book
home_first-requires-clause-book g c = (roomed_unmoved _ _ c.requires.book c.in_ok-make_room.ensures.ready.roomed).book

pub home_first-requires-clause-idle : goal.home_first-requires-clause-idle
home_first-requires-clause-idle g c = roomed_idle _ _ c.requires.idle c.in_ok-make_room.ensures.ready.roomed

pub home_first-requires-clause-first : goal.home_first-requires-clause-first
home_first-requires-clause-first g c = roomed_done _ _ c.args.binding (goes_as_done _ c.args.binding c.requires.book c.requires.idle c.requires.first) c.in_ok-make_room.ensures.ready.roomed

pub returns-clause-did : goal.returns-clause-did
returns-clause-did g c = (owner_event _ _ _ c.args.binding c.requires.book c.requires.idle (goes_as_done _ c.args.binding c.requires.book c.requires.idle c.requires.first) c.in_ok-make_room.ensures.ready c.home_first.ensures).did

pub returns-clause-turn : goal.returns-clause-turn
returns-clause-turn g c = (owner_event _ _ _ c.args.binding c.requires.book c.requires.idle (goes_as_done _ c.args.binding c.requires.book c.requires.idle c.requires.first) c.in_ok-make_room.ensures.ready c.home_first.ensures).turn
