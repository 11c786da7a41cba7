-- The limits of a script.
use Rattle.std.specs.Prelude.{ℕ, ◌==◌, ◌&&◌, Bool, true, false, not, List, [], ◌∷◌, ◌++◌, length, nat_lt, nat_le, slice_get, Option, Some, None}
use Rattle.std.specs.List.{list_any, list_all}
use Rattle.ndis_base.specs.declared.MiniportKind.{MiniportKind}
use Rattle.ndis_base.specs.declared.MiniportKind.TheVariants as miniport_kind
use Rattle.ndis_base.specs.declared.ProtocolKind.{ProtocolKind}
use Rattle.ndis_base.specs.declared.ProtocolKind.TheVariants as protocol_kind
use Rattle.journal_types.specs.declared.PortSetup.{PortSetup}
use Rattle.journal_types.specs.declared.Setup.{Setup}
use Rattle.program_forms.specs.Written.{is_byte, is_address, is_program}
use Rattle.script_types.specs.declared.Call.{Call}
use Rattle.script_types.specs.declared.CallKind.{CallKind}
use Rattle.script_types.specs.declared.CallKind.TheVariants as ask
use Rattle.script_types.specs.declared.FilterSetup.{FilterSetup}
use Rattle.script_types.specs.declared.Script.{Script}
use Rattle.script_types.specs.declared.StackSetup.{StackSetup}
use Rattle.script_forms.specs.Script.{two_rewirers}
use Rattle.script_forms.specs.Stack.{bindings_at, stands_there}

-- from low to high
abbrev pub is_within : ℕ → ℕ → ℕ → Bool
is_within low high n = nat_le low n && nat_le n high

abbrev pub is_setup : Setup → Bool
is_setup setup = is_within 1 256 setup.pool && (is_program setup.send && is_program setup.receive)

abbrev pub is_filter : FilterSetup → Bool
is_filter filter = is_setup filter.setup

abbrev pub is_binding : ProtocolKind × ℕ → Bool
is_binding binding = is_within 1 256 binding.1

abbrev pub is_port : PortSetup → Bool
is_port port = is_address port.address && (is_within 1 256 port.ring && is_within 1 256 port.pool)

-- a stack by itself: 1 to 8 bindings, and at most 16 filters
abbrev pub is_stack : StackSetup → Bool
is_stack stack =
    is_port stack.miniport.port
    && ((is_within 1 8 (length stack.bindings) && list_all is_binding stack.bindings)
    && (nat_le (length stack.filters) 16 && list_all is_filter stack.filters))

abbrev pub is_mux : Option (ProtocolKind × ℕ) → Bool
is_mux None = false
is_mux (Some (protocol_kind.Mux, pool)) = true
is_mux (Some (protocol_kind.Log, pool)) = false
is_mux (Some (protocol_kind.Retain, pool)) = false
is_mux (Some (protocol_kind.Echo, pool)) = false

-- a virtual miniport may stand there: on an earlier stack's mux binding, with a VLAN of its own there
abbrev pub may_stand : List StackSetup → ℕ → ℕ → ℕ → Bool
may_stand before lower binding vlan =
    nat_lt lower (length before)
    && (is_mux (slice_get (bindings_at before lower) binding)
    && (is_within 1 4094 vlan && not (list_any (stands_there lower binding vlan) before)))

abbrev pub may_link : List StackSetup → Option (ℕ × ℕ) → Option ℕ → Bool
may_link before (Some link) (Some vlan) = may_stand before link.0 link.1 vlan
may_link before (Some link) None = false
may_link before None vlan = false

abbrev pub is_unlinked : Option (ℕ × ℕ) → Option ℕ → Bool
is_unlinked None None = true
is_unlinked None (Some vlan) = false
is_unlinked (Some link) vlan = false

-- just a virtual miniport stands on another stack and has a VLAN
abbrev pub is_linked : List StackSetup → MiniportKind → Option (ℕ × ℕ) → Option ℕ → Bool
is_linked before miniport_kind.Virtual link vlan = may_link before link vlan
is_linked before miniport_kind.Ring link vlan = is_unlinked link vlan
is_linked before miniport_kind.Loop link vlan = is_unlinked link vlan

-- so are these stacks, behind those
abbrev pub are_linked : List StackSetup → List StackSetup → Bool
are_linked before [] = true
are_linked before (stack ∷ stacks) =
    is_linked before stack.miniport.kind stack.miniport.link stack.miniport.port.vlan && are_linked (before ++ stack ∷ []) stacks

-- 14 to 1,518 bytes
abbrev pub is_frame : List ℕ → Bool
is_frame frame = is_within 14 1518 (length frame) && list_all is_byte frame

abbrev pub are_frames : List (List ℕ) → Bool
are_frames frames = is_within 1 8 (length frames) && list_all is_frame frames

-- the value of a request, of at most 8 bytes
abbrev pub is_value : List ℕ → Bool
is_value value = nat_le (length value) 8 && list_all is_byte value

abbrev pub is_cancel : Option ℕ → Bool
is_cancel None = true
is_cancel (Some id) = is_within 1 4294967295 id

abbrev pub is_virtual : MiniportKind → Bool
is_virtual miniport_kind.Virtual = true
is_virtual miniport_kind.Ring = false
is_virtual miniport_kind.Loop = false

abbrev pub is_binding_of : StackSetup → ℕ → Bool
is_binding_of stack binding = nat_lt binding (length stack.bindings)

-- what may be asked of a stack: a list is 1 to 2^60, a code has 32 bits, and a filter's number has at
-- most 9 digits
abbrev pub may_ask : StackSetup → CallKind → Bool
may_ask stack (ask.Send binding cancel frames) = is_binding_of stack binding && (is_cancel cancel && are_frames frames)
may_ask stack (ask.Indicate frames) = are_frames frames
may_ask stack (ask.Lend frames) = are_frames frames
may_ask stack (ask.GiveBack binding list) = is_binding_of stack binding && is_within 1 1152921504606846976 list.0
may_ask stack (ask.Cancel id) = is_within 1 4294967295 id
may_ask stack (ask.Ask binding kind code value) = is_binding_of stack binding && (nat_lt code 4294967296 && is_value value)
may_ask stack (ask.Status name) = true
may_ask stack ask.Transmit = true
may_ask stack ask.Pump = true
may_ask stack ask.Drain = true
may_ask stack ask.BeginPause = true
may_ask stack ask.PauseNext = true
may_ask stack ask.RestartNext = true
may_ask stack (ask.Insert position kind setup) = nat_le position 255 && is_setup setup
may_ask stack (ask.Remove filter) = nat_le filter 999999999
may_ask stack (ask.Replace filter kind setup) = nat_le filter 999999999 && is_setup setup
may_ask stack (ask.Relay way) = is_virtual stack.miniport.kind

abbrev pub may_ask_of : Option StackSetup → CallKind → Bool
may_ask_of None kind = false
may_ask_of (Some stack) kind = may_ask stack kind

-- a call of one of so many lanes, of one of these stacks
abbrev pub is_call : ℕ → List StackSetup → Call → Bool
is_call lanes stacks call = nat_lt call.lane.0 lanes && may_ask_of (slice_get stacks call.stack) call.kind

-- 1 to 4 stacks, of which each stands where it may
abbrev pub are_stacks : List StackSetup → Bool
are_stacks stacks = is_within 1 4 (length stacks) && (list_all is_stack stacks && are_linked [] stacks)

-- at most 16,384 calls, of which no two lanes pause, restart or rewire one stack
abbrev pub are_calls : ℕ → List StackSetup → List Call → Bool
are_calls lanes stacks calls =
    nat_le (length calls) 16384 && (list_all (is_call lanes stacks) calls && not (two_rewirers (length stacks) calls))

-- the script is within the limits: of version 1, with 1 to 8 lanes
abbrev pub is_script : Script → Bool
is_script script =
    (script.version == 1 && is_within 1 8 script.lanes)
    && (are_stacks script.stacks && are_calls script.lanes script.stacks script.calls)
