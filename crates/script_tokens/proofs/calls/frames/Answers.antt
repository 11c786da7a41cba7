use Rattle.std.proofs.Common.{◌≤◌, length, sym, ap, ◌∙◌, Ok, arith}
use Rattle.serde_json.specs.Data.{array}
use Rattle.serde_json.specs.View.{items_of}
use Rattle.script_tokens.proofs.Lists.{frames_in-array}
use Rattle.script_tokens.proofs.calls.frames.Goals as goal

pub returns-then-len-le8 : goal.returns-then-len-le8
returns-then-len-le8 c =
    let all = c.in_ok-frames.ensures in
    let size = all.2 in
    let some : 1 ≤ length all.0 = omega (arith, size) in
    let few : length all.0 ≤ 8 = omega (arith, size) in
    (array (items_of all.0), all.1, frames_in-array all.0 _ some few all.3 ∙ ap Ok (sym c.of.ensures))
