-- How a script is written as JSON: every member, also one that has a default, but for a cancel
-- identifier that there is none of. The members of an object stand in the order of their names.
use Rattle.std.specs.Prelude.{ℕ, List, [], ◌∷◌, map, codes, decimal, Option, Some, None}
use Rattle.std.specs.Int.{to_be_bytes, w32}
use Rattle.ndis_base.specs.Names.{filter_kind_text, miniport_kind_text, protocol_kind_text, oid_kind_text, status_name_text}
use Rattle.ndis_base.specs.declared.FilterKind.{FilterKind}
use Rattle.ndis_base.specs.declared.MiniportKind.{MiniportKind}
use Rattle.ndis_base.specs.declared.ProtocolKind.{ProtocolKind}
use Rattle.journal_types.specs.declared.PortSetup.{PortSetup}
use Rattle.journal_types.specs.declared.Setup.{Setup}
use Rattle.serde_json.specs.Data.{Data, boolean, string, array, object, Members, no_members, member}
use Rattle.serde_json.specs.View.{items_of}
use Rattle.program_forms.specs.Written.{number_data, hex_data, program_data}
use Rattle.script_types.specs.declared.Call.{Call}
use Rattle.script_types.specs.declared.CallKind.{CallKind}
use Rattle.script_types.specs.declared.CallKind.TheVariants as ask
use Rattle.script_types.specs.declared.FilterSetup.{FilterSetup}
use Rattle.script_types.specs.declared.MiniportSetup.{MiniportSetup}
use Rattle.script_types.specs.declared.Script.{Script}
use Rattle.script_types.specs.declared.StackSetup.{StackSetup}
use Rattle.script_forms.specs.Call.{word_text, way_text}
use Rattle.script_forms.specs.Filter.{handlers_text}
use Rattle.script_forms.specs.declared.words.CallWord.{CallWord}
use Rattle.script_forms.specs.declared.words.CallWord.TheVariants as word

abbrev pub named_members : List (List ℕ × Data) → Members
named_members [] = no_members
named_members (m ∷ ms) = member m.0 m.1 (named_members ms)

-- an object of these members
abbrev pub object_of : List (List ℕ × Data) → Data
object_of ms = object (named_members ms)

abbrev pub list_data : List Data → Data
list_data ds = array (items_of ds)

abbrev pub filter_data : FilterKind → Setup → Data
filter_data kind setup = object_of (
    (codes "handlers", string (handlers_text setup.handlers))
    ∷ (codes "kind", string (filter_kind_text kind))
    ∷ (codes "pool", number_data setup.pool)
    ∷ (codes "receive", program_data setup.receive)
    ∷ (codes "send", program_data setup.send)
    ∷ [])

-- a filter without its programs
abbrev pub plain_filter_data : FilterKind → Setup → Members
plain_filter_data kind setup = named_members (
    (codes "handlers", string (handlers_text setup.handlers))
    ∷ (codes "kind", string (filter_kind_text kind))
    ∷ (codes "pool", number_data setup.pool)
    ∷ [])

abbrev pub filters_data : List FilterSetup → Data
filters_data filters = list_data (map (λ filter. filter_data filter.kind filter.setup) filters)

abbrev pub plain_port_data : MiniportKind → PortSetup → Data
plain_port_data kind port = object_of (
    (codes "address", hex_data port.address)
    ∷ (codes "kind", string (miniport_kind_text kind))
    ∷ (codes "pool", number_data port.pool)
    ∷ (codes "ring", number_data port.ring)
    ∷ [])

abbrev pub port_members : MiniportKind → PortSetup → Members
port_members kind port = named_members (
    (codes "address", hex_data port.address)
    ∷ (codes "kind", string (miniport_kind_text kind))
    ∷ (codes "pool", number_data port.pool)
    ∷ (codes "ring", number_data port.ring)
    ∷ [])

abbrev pub linked_port_data : MiniportKind → PortSetup → ℕ × ℕ → ℕ → Data
linked_port_data kind port link vlan = object_of (
    (codes "address", hex_data port.address)
    ∷ (codes "binding", number_data link.1)
    ∷ (codes "kind", string (miniport_kind_text kind))
    ∷ (codes "lower", number_data link.0)
    ∷ (codes "pool", number_data port.pool)
    ∷ (codes "ring", number_data port.ring)
    ∷ (codes "vlan", number_data vlan)
    ∷ [])

-- a link is written with its VLAN
abbrev pub port_data : MiniportKind → PortSetup → Option (ℕ × ℕ) → Option ℕ → Data
port_data kind port (Some link) (Some vlan) = linked_port_data kind port link vlan
port_data kind port (Some link) None = plain_port_data kind port
port_data kind port None vlan = plain_port_data kind port

abbrev pub miniport_data : MiniportSetup → Data
miniport_data miniport = port_data miniport.kind miniport.port miniport.link miniport.port.vlan

abbrev pub binding_data : ProtocolKind × ℕ → Data
binding_data binding = object_of (
    (codes "kind", string (protocol_kind_text binding.0))
    ∷ (codes "pool", number_data binding.1)
    ∷ [])

abbrev pub stack_data : StackSetup → Data
stack_data stack = object_of (
    (codes "bindings", list_data (map binding_data stack.bindings))
    ∷ (codes "filters", filters_data stack.filters)
    ∷ (codes "miniport", miniport_data stack.miniport)
    ∷ [])

abbrev pub frames_data : List (List ℕ) → Data
frames_data frames = list_data (map hex_data frames)

-- an object identifier, of 8 digits, the most significant byte first
abbrev pub code_data : ℕ → Data
code_data code = hex_data (to_be_bytes w32 code)

-- the letter f, which is 102, and the number
abbrev pub filter_name_data : ℕ → Data
filter_name_data filter = string (102 ∷ decimal filter)

-- the members that each call has
abbrev pub word_member : CallWord → List ℕ × Data
word_member w = (codes "call", string (word_text w))

abbrev pub lane_member : Call → List ℕ × Data
lane_member call = (codes "lane", number_data call.lane.0)

abbrev pub pump_member : Call → List ℕ × Data
pump_member call = (codes "pump", boolean call.pump)

abbrev pub stack_member : Call → List ℕ × Data
stack_member call = (codes "stack", number_data call.stack)

abbrev pub binding_member : ℕ → List ℕ × Data
binding_member binding = (codes "binding", number_data binding)

abbrev pub frames_member : List (List ℕ) → List ℕ × Data
frames_member frames = (codes "frames", frames_data frames)

-- those alone
abbrev pub shared_data : Call → CallWord → Members
shared_data call w = named_members (word_member w ∷ lane_member call ∷ pump_member call ∷ stack_member call ∷ [])

-- those, and the binding that the call is at
abbrev pub bound_data : Call → CallWord → ℕ → Members
bound_data call w binding = named_members (binding_member binding ∷ word_member w ∷ lane_member call ∷ pump_member call ∷ stack_member call ∷ [])

-- a send with no cancel identifier
abbrev pub sent_data : Call → ℕ → List (List ℕ) → Members
sent_data call binding frames =
    named_members (binding_member binding ∷ word_member word.Send ∷ frames_member frames ∷ lane_member call ∷ pump_member call ∷ stack_member call ∷ [])

-- a call with no members of its own
abbrev pub plain_data : Call → CallWord → Data
plain_data call w = object_of (word_member w ∷ lane_member call ∷ pump_member call ∷ stack_member call ∷ [])

-- a call that brings frames, and nothing else
abbrev pub bringing_data : Call → CallWord → List (List ℕ) → Data
bringing_data call w frames = object_of (word_member w ∷ frames_member frames ∷ lane_member call ∷ pump_member call ∷ stack_member call ∷ [])

abbrev pub send_data : Call → ℕ → Option ℕ → List (List ℕ) → Data
send_data call binding None frames =
    object_of (binding_member binding ∷ word_member word.Send ∷ frames_member frames ∷ lane_member call ∷ pump_member call ∷ stack_member call ∷ [])
send_data call binding (Some id) frames =
    object_of (binding_member binding ∷ word_member word.Send ∷ (codes "cancel", number_data id) ∷ frames_member frames ∷ lane_member call ∷ pump_member call ∷ stack_member call ∷ [])

-- a call that brings a filter
abbrev pub insert_data : Call → ℕ → Data → Data
insert_data call position brought =
    object_of (word_member word.Insert ∷ (codes "filter", brought) ∷ lane_member call ∷ (codes "position", number_data position) ∷ pump_member call ∷ stack_member call ∷ [])

abbrev pub replace_data : Call → ℕ → Data → Data
replace_data call filter brought =
    object_of (word_member word.Replace ∷ (codes "filter", brought) ∷ lane_member call ∷ (codes "module", filter_name_data filter) ∷ pump_member call ∷ stack_member call ∷ [])

-- the object of a call that asks this
abbrev pub kind_data : Call → CallKind → Data
kind_data call (ask.Send binding cancel frames) = send_data call binding cancel frames
kind_data call (ask.Indicate frames) = bringing_data call word.Indicate frames
kind_data call (ask.Lend frames) = bringing_data call word.Lend frames
kind_data call (ask.GiveBack binding list) =
    object_of (binding_member binding ∷ word_member word.GiveBack ∷ lane_member call ∷ (codes "list", number_data list.0) ∷ pump_member call ∷ stack_member call ∷ [])
kind_data call (ask.Cancel id) =
    object_of (word_member word.Cancel ∷ (codes "id", number_data id) ∷ lane_member call ∷ pump_member call ∷ stack_member call ∷ [])
kind_data call (ask.Ask binding kind code value) = object_of (
    binding_member binding ∷ word_member word.Ask ∷ (codes "code", code_data code) ∷ (codes "kind", string (oid_kind_text kind))
    ∷ lane_member call ∷ pump_member call ∷ stack_member call ∷ (codes "value", hex_data value) ∷ [])
kind_data call (ask.Status name) =
    object_of (word_member word.Status ∷ lane_member call ∷ (codes "name", string (status_name_text name)) ∷ pump_member call ∷ stack_member call ∷ [])
kind_data call ask.Transmit = plain_data call word.Transmit
kind_data call ask.Pump = plain_data call word.Pump
kind_data call ask.Drain = plain_data call word.Drain
kind_data call ask.BeginPause = plain_data call word.BeginPause
kind_data call ask.PauseNext = plain_data call word.PauseNext
kind_data call ask.RestartNext = plain_data call word.RestartNext
kind_data call (ask.Insert position kind setup) = insert_data call position (filter_data kind setup)
kind_data call (ask.Remove filter) =
    object_of (word_member word.Remove ∷ lane_member call ∷ (codes "module", filter_name_data filter) ∷ pump_member call ∷ stack_member call ∷ [])
kind_data call (ask.Replace filter kind setup) = replace_data call filter (filter_data kind setup)
kind_data call (ask.Relay way) =
    object_of (word_member word.Relay ∷ lane_member call ∷ pump_member call ∷ stack_member call ∷ (codes "way", string (way_text way)) ∷ [])

abbrev pub call_data : Call → Data
call_data call = kind_data call call.kind

abbrev pub script_data : Script → Data
script_data script = object_of (
    (codes "calls", list_data (map call_data script.calls))
    ∷ (codes "lanes", number_data script.lanes)
    ∷ (codes "stacks", list_data (map stack_data script.stacks))
    ∷ (codes "version", number_data script.version)
    ∷ [])
