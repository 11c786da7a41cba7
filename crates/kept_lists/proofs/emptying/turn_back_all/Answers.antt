use Rattle.std.proofs.Common.{◌∙◌}
use Rattle.kept_lists.proofs.Ends.{turned_one}
use Rattle.kept_lists.proofs.emptying.turn_back_all.Goals as goal

pub loop-list-preserved : goal.loop-list-preserved
loop-list-preserved c =
    let one = turned_one c.loop-list.tray c.turn_back.new.self _ c.in-Some.list c.into_list.result c.loop-list.leaving.items c.pop_front.new.self.items c.args.status c.in-Some.ensures.items c.into_list.ensures c.turn_back.ensures
    c.loop-list.invariant.tray c.loop-list.invariant.rows c.loop-list.invariant.slack in
    record {
      tray = one.tray;
      rows = one.rows;
      slack = one.slack;
      capacity = c.pop_front.ensures.capacity ∙ c.loop-list.invariant.capacity;
    }
