use Rattle.std.proofs.Common.{◌≡◌, ◌∙◌, ap, subst, Some, None, IfOk, option_map, Option, List, ℕ}
use Rattle.command_words.specs.Words.{lanes_in}
use Rattle.command_words.proofs.AllWords.{matched}
use Rattle.command_words.proofs.words.order_matched.Goals as goal

pub returns-in-Some-get_str : goal.returns-in-Some-get_str
returns-in-Some-get_str c =
    let same = ap lanes_in c.as_bytes.ensures.value ∙ matched _ c.in-Some.replay.now (Some c.in-Some-get_str.lanes.now) c.in-Some.ensures.rows c.in-Some-get_str.ensures in
    subst (λ (x : Option (List ℕ)). IfOk c.lanes_of.result (λ o. option_map (λ lanes. lanes.items) o ≡ x)) same c.lanes_of.ensures.told

pub returns-in-None-get_str : goal.returns-in-None-get_str
returns-in-None-get_str c = ap Some c.new.ensures.items ∙ matched _ c.in-Some.replay.now None c.in-Some.ensures.rows c.in-None-get_str.ensures
