use Rattle.std.proofs.Common.{sym, subst}
use Rattle.ndis_base.specs.declared.Origin.{Origin}
use Rattle.frame_filters.specs.Originals.{TakesOriginal}
use Rattle.frame_filters.proofs.Taken.{taken_original}
use Rattle.frame_filters.proofs.originals.take_original.Goals as goal

pub returns-in-Clone-clause-some : goal.returns-in-Clone-clause-some
returns-in-Clone-clause-some c = λ l is.
    subst (λ (o : Origin). TakesOriginal o c.args.kept.now.lists l c.take.new.self.lists) (sym c.in-Clone.is) (taken_original c.in-Clone.list c.args.kept.now l c.take.new.self c.take.result c.take.ensures is)
