use Rattle.std.proofs.Common.{◌<◌, ◌∙◌, length, arith}
use Rattle.kept_lists.specs.Kept.{leaves}
use Rattle.kept_lists.proofs.Parted.{parted_more}
use Rattle.kept_lists.proofs.Ends.{some_left}
use Rattle.kept_lists.proofs.parting.part.Goals as goal

pub move_first-requires-clause-room : goal.move_first-requires-clause-room
move_first-requires-clause-room c =
    let inside : c.loop-i._i < length c.args.kept.now.items = omega (arith, c.loop-i-test.true, c.len-i-end.ensures, c.args.kept.now.ok) in
    let some : 0 < length c.loop-i.kept.items = some_left (leaves c.args.tray.now.net c.args.id) c.args.kept.now.items c.loop-i.kept.items c.loop-i.leaving.items c.loop-i._i inside c.loop-i.invariant.parted in
    omega (arith, some, c.loop-i.kept.ok, c.loop-i.invariant.all, c.loop-i.invariant.leaving_capacity, c.requires.room)

pub loop-i-preserved : goal.loop-i-preserved
loop-i-preserved c =
    let inside : c.loop-i._i < length c.args.kept.now.items = omega (arith, c.loop-i-test.true, c.len-i-end.ensures, c.args.kept.now.ok) in
    record {
      parted = parted_more (leaves c.args.tray.now.net c.args.id) c.args.kept.now.items c.loop-i.kept.items c.loop-i.leaving.items c.move_first.new.kept.items c.move_first.new.leaving.items c.loop-i._i inside
          c.loop-i.invariant.parted c.move_first.ensures.moves;
      all = c.move_first.ensures.all ∙ c.loop-i.invariant.all;
      kept_capacity = c.move_first.ensures.kept_capacity ∙ c.loop-i.invariant.kept_capacity;
      leaving_capacity = c.move_first.ensures.leaving_capacity ∙ c.loop-i.invariant.leaving_capacity;
    }
