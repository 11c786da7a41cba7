use Rattle.std.proofs.Common.{◌≡◌, codes, Some, None, arith, rules}
use Rattle.json.specs.Json.{read_key}
use Rattle.serde_json.specs.Data.{boolean, put}
use Rattle.json_tokens.proofs.Steps.{member_at, no_more_members, one_more_member}
use Rattle.script_tokens.proofs.calls.last_pump.Goals as goal

pub returns-in-None : goal.returns-in-None
returns-in-None c before =
    let over : read_key c.args.reader.now ≡ Some (None, c.next_key.new.self) = grind arith in
    no_more_members 124 before _ _ over

pub returns-in_ok-end_object-in-Some-pump : goal.returns-in_ok-end_object-in-Some-pump
returns-in_ok-end_object-in-Some-pump c before =
    let key = c.in-Some-pump.field-0.now in
    let called : key ≡ codes "pump" = search rules in
    let first : read_key c.args.reader.now ≡ Some (Some key, c.next_key.new.self) = grind arith in
    let named : read_key c.args.reader.now ≡ Some (Some (codes "pump"), c.next_key.new.self) = rw called at first in
    let pump = boolean c.in_ok-pump-in-Some-pump.pump in
    one_more_member 124 before _ (codes "pump") pump _ _ _ (member_at 124 _ (codes "pump") _ pump _ named (c.in_ok-pump-in-Some-pump.ensures 124)) (no_more_members 124 (put (codes "pump") pump before) _ _ c.in_ok-end_object-in-Some-pump.ensures)
