use Rattle.answer_work.proofs.Telling.{may_finish}
use Rattle.answer_work.proofs.finishes.complete.Goals as goal

pub oid_complete-requires : goal.oid_complete-requires
oid_complete-requires g c =
    record { may = may_finish c.args.f _ c.args.answer.now.value c.args.tray.now c.set_caller.new.self c.set_caller.ensures c.requires.setup c.requires.count c.requires.ready }
