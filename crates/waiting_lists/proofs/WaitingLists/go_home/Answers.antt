use Rattle.std.proofs.Common.{rules, ◌≡◌, ◌==◌, not, filter, ap, ◌∙◌, refl}
use Rattle.std.proofs.lemmas.Fn.{filter_same}
use Rattle.waiting_lists.specs.Waiting.{WaitView, is_other}
use Rattle.waiting_lists.proofs.WaitingLists.go_home.Goals as goal

pub returns : goal.returns
returns c =
    let clones : c.retain.new.self.items ≡ filter (is_other c.args.list) c.self.inside.clones.items = filter_same _ _ _ (λ x b f' k. search rules) _ _ c.retain.ensures.filtered in
    let left : c.retain-2.new.self.items ≡ filter (λ m. not (m == c.args.list)) c.self.inside.crossed.items = filter_same _ _ _ (λ x b f' k. search rules) _ _ c.retain-2.ensures.filtered in
    rw (clones, left) (ap (λ (v : WaitView). record v { clones = filter (is_other c.args.list) v.clones; crossed = filter (λ m. not (m == c.args.list)) v.crossed }) c.self.view_is)
