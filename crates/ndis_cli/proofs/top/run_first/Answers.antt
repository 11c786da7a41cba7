use Rattle.std.proofs.Common.{rules, ◌<◌, length, sym, ◌∙◌, inl, inr, arith}
use Rattle.ndis_cli.proofs.First.{positive, first_back, first_left, first_same, lacks_first, first_lacks, idle_first, idle_set}
use Rattle.ndis_cli.proofs.top.run_first.Goals as goal

pub run_over-requires-clause-idle : goal.run_over-requires-clause-idle
run_over-requires-clause-idle g c =
    let some : 0 < length c.args.parts.now.items = search rules in
    idle_first _ _ c.index_mut.result.now some c.index_mut.ensures.value c.requires.idle

pub returns-in-Ok-clause-back : goal.returns-in-Ok-clause-back
returns-in-Ok-clause-back g c =
    let some : 0 < length c.args.parts.now.items = omega (arith, positive _ (sym c.is_empty.ensures ∙ c.if-is_empty.false), c.args.parts.now.ok.0) in
    first_back _ _ _ _ c.index_mut.result.now c.run_over.new.parts some c.index_mut.ensures.value c.in-Ok.ensures.back

pub returns-in-Ok-clause-enough : goal.returns-in-Ok-clause-enough
returns-in-Ok-clause-enough g c l =
    let some : 0 < length c.args.parts.now.items = omega (arith, positive _ (sym c.is_empty.ensures ∙ c.if-is_empty.false), c.args.parts.now.ok.0) in
    c.in-Ok.ensures.enough (first_lacks _ c.args.script.now _ c.index_mut.result.now some c.index_mut.ensures.value l)

pub returns-in-Ok-clause-idle : goal.returns-in-Ok-clause-idle
returns-in-Ok-clause-idle g c = idle_set _ _ c.run_over.new.parts c.in-Ok.ensures.idle c.requires.idle

pub returns-in-Err-NoParts-clause-lacks : goal.returns-in-Err-NoParts-clause-lacks
returns-in-Err-NoParts-clause-lacks g c k e =
    let some : 0 < length c.args.parts.now.items = search rules in
    lacks_first _ c.args.script.now _ c.index_mut.result.now some c.index_mut.ensures.value (c.in-Err-NoParts.ensures.lacks c.in-Err-NoParts.field-0-is)

pub returns-in-Err-NoParts-clause-idle : goal.returns-in-Err-NoParts-clause-idle
returns-in-Err-NoParts-clause-idle g c = idle_set _ _ c.run_over.new.parts c.in-Err-NoParts.ensures.idle c.requires.idle

pub returns-in-Err-Memory-clause-idle : goal.returns-in-Err-Memory-clause-idle
returns-in-Err-Memory-clause-idle g c = idle_set _ _ c.run_over.new.parts c.in-Err-Memory.ensures.idle c.requires.idle

pub returns-in-Err-Lost-clause-idle : goal.returns-in-Err-Lost-clause-idle
returns-in-Err-Lost-clause-idle g c = idle_set _ _ c.run_over.new.parts c.in-Err-Lost.ensures.idle c.requires.idle

pub returns-in-Err-Memory-clause-given_up : goal.returns-in-Err-Memory-clause-given_up
returns-in-Err-Memory-clause-given_up g c e =
    let some : 0 < length c.args.parts.now.items = omega (arith, positive _ (sym c.is_empty.ensures ∙ c.if-is_empty.false), c.args.parts.now.ok.0) in
    inl (first_same _ c.index_mut.result.now c.run_over.new.parts some c.index_mut.ensures.value (c.in-Err-Memory.ensures.unchanged (search rules)))

pub returns-in-Err-Lost-clause-given_up : goal.returns-in-Err-Lost-clause-given_up
returns-in-Err-Lost-clause-given_up g c e =
    let some : 0 < length c.args.parts.now.items = omega (arith, positive _ (sym c.is_empty.ensures ∙ c.if-is_empty.false), c.args.parts.now.ok.0) in
    inr (first_left _ _ _ c.index_mut.result.now c.run_over.new.parts some c.index_mut.ensures.value (c.in-Err-Lost.ensures.left c.in-Err-Lost.field-0-is))
