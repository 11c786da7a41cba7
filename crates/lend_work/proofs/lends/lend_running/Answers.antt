use Rattle.std.proofs.Common.{ap, refl}
use Rattle.std.proofs.lemmas.Bool.{false≢true}
use Rattle.flat_journal.specs.declared.types.FlatReply.TheVariants as flat_reply
use Rattle.book_lemmas.specs.Views.{BookView}
use Rattle.book_parts.specs.Parts.{view_of}
use Rattle.lend_work.specs.Lends.{pooled}
use Rattle.lend_work.specs.Lends.Lends.{lends}
use Rattle.lend_work.proofs.Readied.{may_carry}
use Rattle.lend_work.proofs.Carrying.{carried_rows}
use Rattle.lend_work.proofs.lends.lend_running.Goals as goal

pub carry-status-requires-clause-may : goal.carry-status-requires-clause-may
carry-status-requires-clause-may g c =
    may_carry (view_of g.M.MiniportCalls.state g.P.ProtocolCalls.state g.F.FilterCalls.state c.args.book.now) c.in-Ok.list c.lend_out.new.tray c.lend_out.new.pool c.requires.may c.in-Ok.ensures.lends

pub take_home-requires-clause-room : goal.take_home-requires-clause-room
take_home-requires-clause-room g c =
    carried_rows (may_carry (view_of g.M.MiniportCalls.state g.P.ProtocolCalls.state g.F.FilterCalls.state c.args.book.now) c.in-Ok.list c.lend_out.new.tray c.lend_out.new.pool c.requires.may c.in-Ok.ensures.lends) c.carry-status.ensures

pub returns-in-Ok : goal.returns-in-Ok
returns-in-Ok g c =
    let v : BookView = view_of g.M.MiniportCalls.state g.P.ProtocolCalls.state g.F.FilterCalls.state c.args.book.now in
    lends c.in-Ok.list (record { tray = c.lend_out.new.tray; held = pooled v.held c.lend_out.new.pool })
    (view_of g.M.MiniportCalls.state g.P.ProtocolCalls.state g.F.FilterCalls.state c.carry-status.new.book) c.carry-status.result c.in-Ok.ensures.lends refl c.carry-status.ensures c.take_home.ensures refl
    (λ e. false≢true (c.in-Ok.ensures.no_list.1 e)) (ap flat_reply.Lent c.number-number.ensures)
