use Rattle.std.proofs.Common.{◌≡◌, [], refl, rules}
use Rattle.frame_filters.proofs.Taken.{homes_alone, none_kept}
use Rattle.classify_filters.proofs.homes.pass_home.Goals as goal

pub returns-then-eq : goal.returns-then-eq
returns-then-eq c =
    let own : c.args.list.label.owner ≡ c.args.tray.now.caller = search (rules, c.if-eq.ensures, c.owner.ensures, c.caller.ensures) in
    homes_alone [] [] c.args.list c.args.status c.args.tray.now c.spend.new.self own (none_kept c.args.list.label.origin) refl c.spend.ensures
