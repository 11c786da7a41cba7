use Rattle.std.proofs.Common.{rules, ◌≡◌, ◌==◌, not, filter, ap, ◌∙◌, refl}
use Rattle.std.proofs.lemmas.Fn.{filter_same}
use Rattle.waiting_lists.specs.Waiting.{WaitView}
use Rattle.waiting_lists.proofs.WaitingLists.take_back.Goals as goal

pub returns : goal.returns
returns c =
    let left : c.retain.new.self.items ≡ filter (λ m. not (m == c.args.list)) c.self.inside.crossed.items = filter_same _ _ _ (λ x b f' k. search rules) _ _ c.retain.ensures.filtered in
    rw (left) (ap (λ (v : WaitView). record v { crossed = filter (λ m. not (m == c.args.list)) v.crossed }) c.self.view_is)
