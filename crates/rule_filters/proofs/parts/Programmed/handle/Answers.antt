use Rattle.std.proofs.Common.{sym, subst, ◌∙◌}
use Rattle.std.proofs.lemmas.Option.{same_Some}
use Rattle.journal_types.specs.declared.Setup.{Setup}
use Rattle.driver_calls.specs.Filters.{Handles}
use Rattle.frame_filters.specs.Filters.{keeping}
use Rattle.rule_filters.proofs.parts.Programmed.handle.Goals as goal

pub returns-clause-handles : goal.returns-clause-handles
returns-clause-handles c = record {
  by = λ p is.
      subst (λ (q : Setup). Handles (keeping c.args.self.now.kept.lists) q c.args.list c.args.tray.now c.handle.new.kept.lists c.handle.new.tray) (same_Some c.in-Some.setup p (sym c.in-Some.is ∙ is)) c.handle.ensures;
}
