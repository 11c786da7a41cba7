use Rattle.std.proofs.Common.{◌≡◌, length, ap, ◌∙◌, arith}
use Rattle.std.proofs.lemmas.List.{length-replicate}
use Rattle.stack_ledger.proofs.Begun.{begun, modules_of, port_of}
use Rattle.stack_ledger.proofs.ledger.StackLedger.make.Goals as goal

pub invariant_of-result : goal.invariant_of-result
invariant_of-result c = record {
  answers = ap (λ p. length p.answers_by) c.in_ok-first_port.ensures ∙ length-replicate _ _ ∙ ap length c.items-bindings.ensures;
  delivers = ap (λ p. length p.delivers_by) c.in_ok-first_port.ensures ∙ length-replicate _ _ ∙ ap length c.items-bindings.ensures;
  room = omega (arith, c.new.ensures.len);
}

pub returns : goal.returns
returns c =
    let same : length c.items-bindings.result.now ≡ length c.args.head.now.bindings = ap length c.items-bindings.ensures ∙ ap (λ h. length h.bindings) c.in_ok-head.ensures in
    begun _ c.args.head.now _ _ _ _ c.in_ok-head.ensures (c.in_ok-make.ensures ∙ ap modules_of same) c.new.ensures.items (c.in_ok-first_port.ensures ∙ ap port_of same) c.first_numbers.ensures
