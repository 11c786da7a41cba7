use Rattle.std.proofs.Common.{◌≡◌, ℕ, Ok, subst}
use Rattle.serde_json.specs.Data.{number, unsigned}
use Rattle.script_forms.specs.Values.{place_in}
use Rattle.script_tokens.proofs.Sent.{send-is}
use Rattle.script_tokens.proofs.calls.sent.Goals as goal

pub returns : goal.returns
returns c d is =
    let in_bindings = subst (λ (count : ℕ). place_in 7 count (number (unsigned c.args.binding)) ≡ Ok c.args.binding) c.count_of_bindings.ensures c.in_ok-check_place-3.ensures.2 in
    send-is c.args.pump c.unwrap_or.result c.unwrap_or.ensures c.args.lanes c.args.stacks.now c.args.lane c.args.stack c.args.binding d c.args.frames c.in_ok-check_place.ensures.2 c.in_ok-check_place-2.ensures.2 in_bindings is
