use Rattle.std.proofs.Common.{map, ap, sym, ◌∙◌}
use Rattle.answer_work.specs.Told.{told_of_answer}
use Rattle.answer_work.proofs.Telling.{hears}
use Rattle.answer_work.proofs.tellings.tell_binding.Goals as goal

pub returns-in-None : goal.returns-in-None
returns-in-None g c =
    hears g.P.ProtocolCalls.state c.args.protocols.now.items c.args.binding c.index_mut.result.now c.oid_complete.new.self c.index_mut.ensures.value c.requires.within c.oid_complete.ensures.same
    ∙ ap (λ p. told_of_answer p c.args.binding (map g.P.ProtocolCalls.state c.args.protocols.now.items)) (sym c.in-None.is)
