-- When an event may be asked: the stack's own head decides it. Numbers are in the ranges that a script
-- may write.
use Rattle.std.specs.Prelude.{ℕ, ◌^◌, ◌==◌, ◌&&◌, Bool, true, false, List, Option, Some, None, length, nat_lt, nat_le}
use Rattle.std.specs.List.{list_all, list_any}
use Rattle.program_types.specs.declared.Rule.{Rule}
use Rattle.program_types.specs.declared.Test.{Test}
use Rattle.program_types.specs.declared.Test.TheVariants as test
use Rattle.journal_types.specs.declared.StackHead.{StackHead}
use Rattle.journal_types.specs.declared.Setup.{Setup}
use Rattle.journal_types.specs.declared.Event.{Event}
use Rattle.journal_types.specs.declared.Event.TheVariants as event
use Rattle.stack_rules.specs.Tests.{is_mux}
use Rattle.stack_rules.specs.Heads.{kind_of_binding, binding_numbers}
use Rattle.stack_rules.specs.Outcome.{max_frame}

abbrev pub is_between : ℕ → ℕ → ℕ → Bool
is_between low high n = nat_le low n && nat_le n high

-- 14 bytes at least: two addresses and the EtherType (IEEE 802.3)
abbrev pub is_frame : StackHead → List ℕ → Bool
is_frame head frame = is_between 14 (max_frame head) (length frame)

-- 1 to 8 frames
abbrev pub are_frames : StackHead → List (List ℕ) → Bool
are_frames head frames = is_between 1 8 (length frames) && list_all (is_frame head) frames

abbrev pub is_fine_test : Test → Bool
is_fine_test (test.Vlan n) = nat_lt n 4096
is_fine_test _ = true

abbrev pub is_program : List Rule → Bool
is_program rules = nat_le (length rules) 16 && list_all (λ r. is_fine_test r.test) rules

abbrev pub is_setup : Setup → Bool
is_setup s = is_between 1 256 s.pool && (is_program s.send && is_program s.receive)

abbrev pub has_binding : StackHead → ℕ → Bool
has_binding head b = nat_lt b (length head.bindings)

abbrev pub is_identifier : ℕ → Bool
is_identifier id = is_between 1 4294967295 id

abbrev pub is_cancel : Option ℕ → Bool
is_cancel None = true
is_cancel (Some id) = is_identifier id

-- the binding is a mux binding with a virtual miniport of the VLAN
abbrev pub is_link : ℕ → ℕ → (ℕ × ℕ × ℕ) → Bool
is_link b vlan link = link.1 == b && link.2 == vlan

abbrev pub has_link : StackHead → ℕ → ℕ → Bool
has_link head b vlan = list_any (is_link b vlan) head.uppers

abbrev pub has_mux : StackHead → Bool
has_mux head = list_any (λ b. is_mux (kind_of_binding head b)) (binding_numbers head)

-- the stack is the one below
abbrev pub is_lower : ℕ → Option (ℕ × ℕ) → Bool
is_lower stack None = false
is_lower stack (Some link) = link.0 == stack

-- the event may be asked of a stack of this head
abbrev pub may_ask : StackHead → Event → Bool
may_ask head (event.Insert kind position setup) = is_setup setup
may_ask head (event.Remove filter) = nat_le filter 999999999
may_ask head (event.Replace filter kind setup) = nat_le filter 999999999 && is_setup setup
may_ask head (event.Send binding cancel frames) = has_binding head binding && (is_cancel cancel && are_frames head frames)
may_ask head (event.Indicate frames) = are_frames head frames
may_ask head (event.Lend frames) = are_frames head frames
may_ask head (event.GiveBack binding list) = has_binding head binding && is_between 1 (2 ^ 60) list.0
may_ask head (event.Cancel id) = is_identifier id
may_ask head (event.Ask binding kind code value) = has_binding head binding && nat_le (length value) 8
may_ask head (event.CrossPut stack message vlan frames) = has_mux head && (nat_lt stack 4 && (is_between 1 4094 vlan && are_frames head frames))
may_ask head (event.CrossTakeUp binding vlan) = has_binding head binding && has_link head binding vlan
may_ask head (event.CrossPutUp stack message frames) = is_lower stack head.link && are_frames head frames
may_ask head _ = true
