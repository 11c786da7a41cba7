use Rattle.std.proofs.Common.{arith, ap}
use Rattle.std.proofs.lemmas.List.{length-map}
use Rattle.book_parts.specs.Parts.{view_of}
use Rattle.book_opening.proofs.Rested.{rest_when_halted, as_many, idle_again}
use Rattle.book_opening.proofs.closing.close.Goals as goal

pub join-drivers-requires-clause-protocols : goal.join-drivers-requires-clause-protocols
join-drivers-requires-clause-protocols g c =
    omega (arith, c.requires.protocol_room, as_many (view_of g.M.MiniportCalls.state g.P.ProtocolCalls.state g.F.FilterCalls.state c.args.book) c.requires.book c.requires.between, length-map c.args.book.protocols.items g.P.ProtocolCalls.state)

pub returns-clause-idle : goal.returns-clause-idle
returns-clause-idle g c idle =
    let rest = rest_when_halted (view_of g.M.MiniportCalls.state g.P.ProtocolCalls.state g.F.FilterCalls.state c.args.book) c.requires.book c.requires.between c.requires.halted c.requires.shelved in
    idle_again g.M.MiniportCalls.state g.P.ProtocolCalls.state g.F.FilterCalls.state c.args.others.miniports.items _ c.args.others.protocols.items _ c.args.book.protocols.items c.args.book.filters.items _ c.args.others.shelf.items c.args.book.miniport
    c.join-drivers.ensures.miniports c.join-drivers.ensures.protocols (ap (λ v. v.items) c.join-drivers.ensures.shelf) rest.miniport rest.protocols rest.filters idle
