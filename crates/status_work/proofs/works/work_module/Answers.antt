use Rattle.std.proofs.Common.{ap, ◌∙◌}
use Rattle.journal_types.specs.declared.Target.TheVariants.{Module}
use Rattle.book_parts.specs.Parts.{view_of}
use Rattle.status_work.proofs.Firsts.{not_miniport, not_binding}
use Rattle.status_work.proofs.works.work_module.Goals as goal

pub unreachable-requires : goal.unreachable-requires
unreachable-requires g c =
    not_miniport (view_of g.M.MiniportCalls.state g.P.ProtocolCalls.state g.F.FilterCalls.state c.args.book.now) c.args.status c.requires.book c.requires.idle c.requires.first
    (c.requires.to ∙ ap Module c.in-Miniport.is)

pub unreachable-requires-in-Binding : goal.unreachable-requires-in-Binding
unreachable-requires-in-Binding g c =
    not_binding (view_of g.M.MiniportCalls.state g.P.ProtocolCalls.state g.F.FilterCalls.state c.args.book.now) c.args.status c.in-Binding.field-0 c.requires.book c.requires.idle c.requires.first
    (c.requires.to ∙ ap Module c.in-Binding.is)
