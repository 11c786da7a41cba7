use Rattle.std.proofs.Common.{◌≡◌, List, Some, refl, sym, ap, subst, ◌∙◌}
use Rattle.program_types.specs.declared.Rule.{Rule}
use Rattle.program_types.specs.Apply.{applied}
use Rattle.stack_rules.specs.Handled.{program}
use Rattle.driver_calls.specs.Filters.{made_by}
use Rattle.frame_programs.specs.Judged.{IsMadeOf}
use Rattle.rule_filters.specs.Changes.{Changes}
use Rattle.rule_filters.proofs.Ways.{passes_same, changes}
use Rattle.rule_filters.proofs.handling.handle.Goals as goal

pub returns-in-Same : goal.returns-in-Same
returns-in-Same c =
    let l = c.args.list in
    let rules : c.program_of.result.now ≡ program c.args.setup.now l.label.direction = c.program_of.ensures ∙ ap (program c.args.setup.now) c.direction.ensures in
    let made : made_by c.args.setup.now l c.args.tray.now ≡ Some l.frames = ap (λ (rs : List Rule). applied 1518 rs l.frames) (sym rules) ∙ c.in-Same.ensures.leaves in
    passes_same c.args.setup.now l c.args.tray.now c.args.kept.now.lists c.args.kept.now.lists c.forward.new.self made refl c.forward.ensures

pub returns-in-Changed : goal.returns-in-Changed
returns-in-Changed c =
    let l = c.args.list in
    let rules : c.program_of.result.now ≡ program c.args.setup.now l.label.direction = c.program_of.ensures ∙ ap (program c.args.setup.now) c.direction.ensures in
    let made : IsMadeOf (made_by c.args.setup.now l c.args.tray.now) l.frames c.apply.new.self.frames = subst (λ rs. IsMadeOf (applied 1518 rs l.frames) l.frames c.apply.new.self.frames) rules c.in-Changed.ensures.leaves in
    let changed : Changes c.args.kept.now.lists c.apply.new.self.frames l c.args.tray.now c.pass_changed.new.kept.lists c.pass_changed.new.tray =
    subst (λ fs. Changes c.args.kept.now.lists fs l c.args.tray.now c.pass_changed.new.kept.lists c.pass_changed.new.tray) c.frames.ensures c.pass_changed.ensures in
    changes c.args.setup.now l c.args.tray.now c.args.kept.now.lists c.pass_changed.new.kept.lists c.apply.new.self.frames c.pass_changed.new.tray made changed
