use Rattle.std.proofs.Common.{refl, ap, ◌∙◌}
use Rattle.ndis_base.specs.declared.ListStatus.TheVariants.{Resources}
use Rattle.driver_tray.specs.Tray.{TrayView, turned_back}
use Rattle.rule_filters.specs.Changes.Changes.{turns_back}
use Rattle.rule_filters.proofs.handling.pass_changed.Goals as goal

pub returns-in-Err : goal.returns-in-Err
returns-in-Err c = turns_back (c.in-Err.ensures.no_list.0 refl) refl (c.turn_back.ensures ∙ ap (λ (t : TrayView). turned_back t c.args.list Resources) c.in-Err.ensures.unchanged)
