use Rattle.std.proofs.Common.{rules, ◌≡◌, sym, subst, IfOk, option_map, Option, List, ℕ, ◌∙◌}
use Rattle.command_words.proofs.AllWords.{dashes_mapped, read_mapped, refused_words}
use Rattle.command_words.proofs.words.order_read.Goals as goal

pub returns-then-has_dashes : goal.returns-then-has_dashes
returns-then-has_dashes c = dashes_mapped _ c.args.words.now (sym c.has_dashes.ensures ∙ c.if-has_dashes.true)

pub returns-in-Ok : goal.returns-in-Ok
returns-in-Ok c =
    let same = read_mapped _ c.args.words.now c.in-Ok.matches (sym c.has_dashes.ensures ∙ c.if-has_dashes.false) c.in-Ok.ensures.kinds c.in-Ok.ensures.matches in
    subst (λ (x : Option (List ℕ)). IfOk c.order_matched.result (λ o. option_map (λ lanes. lanes.items) o ≡ x)) same c.order_matched.ensures

pub returns : goal.returns
returns c = refused_words _ c.in-Err.error.kind c.in-Err.ensures.kinds (search rules)
