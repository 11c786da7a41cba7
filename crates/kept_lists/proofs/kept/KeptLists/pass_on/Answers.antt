use Rattle.std.proofs.Common.{◌≡◌, length, ap, arith}
use Rattle.kept_lists.specs.Kept.{KeptView}
use Rattle.kept_lists.proofs.kept.KeptLists.pass_on.Goals as goal

pub pass_on_all-requires-clause-rows : goal.pass_on_all-requires-clause-rows
pass_on_all-requires-clause-rows c =
    let none : length c.self.inside.leaving.items ≡ 0 = ap length c.self.invariant.leaving in
    let count : length c.self.inside.kept.items ≡ length c.args.self.now.lists = ap (λ (k : KeptView). length k.lists) c.self.view_is in
    omega (arith, count, c.requires.rows, c.part.ensures.all, c.part.new.leaving.ok, c.self.inside.kept.ok, c.self.inside.leaving.ok, none)

pub pass_on_all-requires-clause-slack : goal.pass_on_all-requires-clause-slack
pass_on_all-requires-clause-slack c =
    let none : length c.self.inside.leaving.items ≡ 0 = ap length c.self.invariant.leaving in
    let count : length c.self.inside.kept.items ≡ length c.args.self.now.lists = ap (λ (k : KeptView). length k.lists) c.self.view_is in
    omega (arith, count, c.requires.slack, c.part.ensures.all, c.part.new.leaving.ok, c.self.inside.kept.ok, c.self.inside.leaving.ok, none)

pub invariant_of-self : goal.invariant_of-self
invariant_of-self c =
    let none : length c.self.inside.leaving.items ≡ 0 = ap length c.self.invariant.leaving in
    record {
      leaving = c.pass_on_all.ensures.none;
      kept_room = omega (arith, c.len.ensures, c.part.ensures.all, c.part.ensures.kept_capacity, c.self.invariant.kept_room, c.self.inside.leaving.ok, none);
      leaving_room = omega (arith, c.len.ensures, c.part.ensures.all, c.pass_on_all.ensures.capacity, c.part.ensures.leaving_capacity, c.self.invariant.leaving_room, c.self.inside.leaving.ok, none);
    }
