use Rattle.std.proofs.Common.{◌≡◌, None, refl, rules}
use Rattle.driver_calls.specs.Filters.{original_of}
use Rattle.frame_filters.specs.Originals.{TakesOriginal}
use Rattle.frame_filters.proofs.Taken.{homes_original, homes_alone}
use Rattle.frame_filters.proofs.originals.take_home.Goals as goal

pub returns-in-Some : goal.returns-in-Some
returns-in-Some c =
    let own : c.args.list.label.owner ≡ c.args.tray.now.caller = search (rules, c.if-ne.ensures, c.owner.ensures, c.caller.ensures) in
    let taken : TakesOriginal c.args.list.label.origin c.args.kept.now.lists c.in-Some.original c.take_original.new.kept.lists = rw c.origin.ensures at (c.in-Some.ensures.some c.in-Some.original refl) in
    homes_original c.args.kept.now.lists c.take_original.new.kept.lists c.args.list c.in-Some.original c.args.status c.args.tray.now c.spend.new.self c.pass_back-in-Some.new.self own taken c.spend.ensures c.pass_back-in-Some.ensures

pub returns-in-None : goal.returns-in-None
returns-in-None c =
    let own : c.args.list.label.owner ≡ c.args.tray.now.caller = search (rules, c.if-ne.ensures, c.owner.ensures, c.caller.ensures) in
    let none = c.in-None.ensures.none refl in
    let lacks : original_of c.args.list.label.origin c.args.kept.now.lists ≡ None = rw c.origin.ensures at none.0 in
    homes_alone c.args.kept.now.lists c.take_original.new.kept.lists c.args.list c.args.status c.args.tray.now c.spend-in-None.new.self own lacks none.1 c.spend-in-None.ensures
