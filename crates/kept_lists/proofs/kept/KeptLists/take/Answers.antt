use Rattle.std.proofs.Common.{refl}
use Rattle.kept_lists.specs.Kept.{StandsAt}
use Rattle.kept_lists.specs.Inside.{kept_view}
use Rattle.kept_lists.proofs.Ends.{takes_seen}
use Rattle.kept_lists.proofs.kept.KeptLists.take.Goals as goal

pub returns : goal.returns
returns c =
    let stands : StandsAt c.args.list c.self.inside.kept.items c.in_ok-place.place = c.in_ok-place.ensures.some c.in_ok-place.place refl in
    takes_seen c.args.list (kept_view c.self.inside) _ _ c.in_ok-place.place c.into_list.result c.in-Some.list c.self.view_is stands c.in-Some.ensures.value c.into_list.ensures c.in-Some.ensures.items refl
