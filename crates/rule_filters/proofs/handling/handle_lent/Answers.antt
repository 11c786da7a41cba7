use Rattle.std.proofs.Common.{◌≡◌, List, sym, ap, subst, ◌∙◌, refl}
use Rattle.program_types.specs.declared.Rule.{Rule}
use Rattle.program_types.specs.Apply.{applied}
use Rattle.stack_rules.specs.Handled.{program}
use Rattle.driver_calls.specs.Filters.{made_by}
use Rattle.driver_calls.specs.Filters.HandlesLent.{drops}
use Rattle.frame_programs.specs.Judged.{IsMadeOf}
use Rattle.rule_filters.specs.Changes.{Copying}
use Rattle.rule_filters.proofs.Ways.{leaves_same, copies_changed}
use Rattle.rule_filters.proofs.handling.handle_lent.Goals as goal

pub returns-in-Drop-clause-handles : goal.returns-in-Drop-clause-handles
returns-in-Drop-clause-handles c =
    let l = c.args.list.now in
    let rules : c.program_of.result.now ≡ program c.args.setup.now l.label.direction = c.program_of.ensures ∙ ap (program c.args.setup.now) c.direction.ensures in
    drops (ap (λ (rs : List Rule). applied 1518 rs l.frames) (sym rules) ∙ c.in-Drop.ensures.leaves) refl

pub returns-in-Same-clause-handles : goal.returns-in-Same-clause-handles
returns-in-Same-clause-handles c =
    let l = c.args.list.now in
    let rules : c.program_of.result.now ≡ program c.args.setup.now l.label.direction = c.program_of.ensures ∙ ap (program c.args.setup.now) c.direction.ensures in
    leaves_same c.args.setup.now l c.args.tray.now (ap (λ (rs : List Rule). applied 1518 rs l.frames) (sym rules) ∙ c.in-Same.ensures.leaves)

pub returns-in-Changed-clause-handles : goal.returns-in-Changed-clause-handles
returns-in-Changed-clause-handles c =
    let l = c.args.list.now in
    let rules : c.program_of.result.now ≡ program c.args.setup.now l.label.direction = c.program_of.ensures ∙ ap (program c.args.setup.now) c.direction.ensures in
    let made : IsMadeOf (made_by c.args.setup.now l c.args.tray.now) l.frames c.apply.new.self.frames = subst (λ rs. IsMadeOf (applied 1518 rs l.frames) l.frames c.apply.new.self.frames) rules c.in-Changed.ensures.leaves in
    copies_changed c.args.setup.now l c.args.tray.now c.pass_copy.new.tray c.apply.new.self.frames c.pass_copy.result made
    (subst (λ fs. Copying fs l c.args.tray.now c.pass_copy.new.tray c.pass_copy.result) c.frames.ensures c.pass_copy.ensures)
