-- A stack of a script: its miniport, its bindings and its filters.
use Rattle.std.specs.Prelude.{ℕ, ◌==◌, ◌&&◌, Bool, false, List, [], ◌∷◌, length, codes, nat_lt, slice_get, Option, Some, None, Result, Ok, Err, if◌then◌else◌}
use Rattle.std.specs.List.{list_any}
use Rattle.ndis_base.specs.Names.{miniport_kind_text, protocol_kind_text}
use Rattle.ndis_base.specs.declared.MiniportKind.{MiniportKind}
use Rattle.ndis_base.specs.declared.MiniportKind.TheVariants as miniport_kind
use Rattle.ndis_base.specs.declared.ProtocolKind.{ProtocolKind}
use Rattle.ndis_base.specs.declared.ProtocolKind.TheVariants as protocol_kind
use Rattle.journal_types.specs.declared.PortSetup.{PortSetup}
use Rattle.serde_json.specs.Data.{Data}
use Rattle.json_forms.specs.Lists.{read_all}
use Rattle.script_types.specs.declared.MiniportSetup.{MiniportSetup}
use Rattle.script_types.specs.declared.StackSetup.{StackSetup}
use Rattle.script_types.specs.declared.ScriptCause.{ScriptCause}
use Rattle.script_types.specs.declared.ScriptCause.TheVariants as cause
use Rattle.script_forms.specs.declared.words.Link.{Link}
use Rattle.script_forms.specs.Filter.{filter_in}
use Rattle.script_forms.specs.Results.{◌>>=◌, or_else}
use Rattle.script_forms.specs.Values.{members_in, at, number_in, text_in, named, list_in, address_in}

abbrev pub miniport_kinds : List MiniportKind
miniport_kinds = miniport_kind.Ring ∷ miniport_kind.Loop ∷ miniport_kind.Virtual ∷ []

abbrev pub miniport_kind_in : Data → Result MiniportKind ScriptCause
miniport_kind_in d = do
  text ← text_in d
  named miniport_kind_text miniport_kinds text

abbrev pub protocol_kinds : List ProtocolKind
protocol_kinds = protocol_kind.Log ∷ protocol_kind.Retain ∷ protocol_kind.Echo ∷ protocol_kind.Mux ∷ []

abbrev pub protocol_kind_in : Data → Result ProtocolKind ScriptCause
protocol_kind_in d = do
  text ← text_in d
  named protocol_kind_text protocol_kinds text

abbrev pub plain_members : List (List ℕ)
plain_members = codes "kind" ∷ codes "address" ∷ codes "ring" ∷ codes "pool" ∷ []

-- the members of a miniport of this kind
abbrev pub miniport_members : MiniportKind → List (List ℕ)
miniport_members miniport_kind.Ring = plain_members
miniport_members miniport_kind.Loop = plain_members
miniport_members miniport_kind.Virtual = codes "kind" ∷ codes "address" ∷ codes "ring" ∷ codes "pool" ∷ codes "lower" ∷ codes "binding" ∷ codes "vlan" ∷ []

-- the stack below: one of the script's, and an earlier one
abbrev pub earlier : ℕ → ℕ → ℕ → Result ℕ ScriptCause
earlier count own lower =
    if nat_lt lower count then (if nat_lt lower own then Ok lower else Err cause.BadLink) else Err cause.Range

abbrev pub mux_or_fault : ℕ → Option (ProtocolKind × ℕ) → Result ℕ ScriptCause
mux_or_fault binding None = Err cause.Range
mux_or_fault binding (Some (protocol_kind.Mux, pool)) = Ok binding
mux_or_fault binding (Some (protocol_kind.Log, pool)) = Err cause.BadLink
mux_or_fault binding (Some (protocol_kind.Retain, pool)) = Err cause.BadLink
mux_or_fault binding (Some (protocol_kind.Echo, pool)) = Err cause.BadLink

abbrev pub bindings_of : Option StackSetup → List (ProtocolKind × ℕ)
bindings_of None = []
bindings_of (Some stack) = stack.bindings

-- the bindings of a stack
abbrev pub bindings_at : List StackSetup → ℕ → List (ProtocolKind × ℕ)
bindings_at stacks place = bindings_of (slice_get stacks place)

-- a binding of the stack below, which is a mux protocol's
abbrev pub mux_at : List StackSetup → ℕ → ℕ → Result ℕ ScriptCause
mux_at before lower binding = mux_or_fault binding (slice_get (bindings_at before lower) binding)

abbrev pub same_link : ℕ → ℕ → Option (ℕ × ℕ) → Bool
same_link lower binding None = false
same_link lower binding (Some link) = (link.0 == lower) && (link.1 == binding)

abbrev pub same_vlan : ℕ → Option ℕ → Bool
same_vlan vlan None = false
same_vlan vlan (Some other) = other == vlan

-- the miniport of a stack stands there, with this VLAN
abbrev pub stands_there : ℕ → ℕ → ℕ → StackSetup → Bool
stands_there lower binding vlan stack =
    same_link lower binding stack.miniport.link && same_vlan vlan stack.miniport.port.vlan

-- a VLAN with which no earlier miniport stands there
abbrev pub free_vlan : List StackSetup → ℕ → ℕ → ℕ → Result ℕ ScriptCause
free_vlan before lower binding vlan =
    if list_any (stands_there lower binding vlan) before then Err cause.BadLink else Ok vlan

-- where a virtual miniport stands: the stack below, its mux binding, and a VLAN
abbrev pub link_in : ℕ → List StackSetup → Data → Result Link ScriptCause
link_in count before d = do
  low ← at (codes "lower") (number_in 0 3) d
  lower ← earlier count (length before) low
  place ← at (codes "binding") (number_in 0 7) d
  binding ← mux_at before lower place
  number ← at (codes "vlan") (number_in 1 4094) d
  vlan ← free_vlan before lower binding number
  Ok (record { lower = lower; binding = binding; vlan = vlan })

abbrev pub unlinked : MiniportKind → List ℕ → ℕ → ℕ → MiniportSetup
unlinked kind address ring pool =
    record { kind = kind; port = record { address = address; ring = ring; pool = pool; vlan = None }; link = None }

abbrev pub linked : List ℕ → ℕ → ℕ → Link → MiniportSetup
linked address ring pool link = record {
  kind = miniport_kind.Virtual;
  port = record { address = address; ring = ring; pool = pool; vlan = Some link.vlan };
  link = Some (link.lower, link.binding);
}

-- the rest of a miniport of this kind
abbrev pub miniport_of : MiniportKind → ℕ → List StackSetup → Data → List ℕ → ℕ → ℕ → Result MiniportSetup ScriptCause
miniport_of miniport_kind.Ring count before d address ring pool = Ok (unlinked miniport_kind.Ring address ring pool)
miniport_of miniport_kind.Loop count before d address ring pool = Ok (unlinked miniport_kind.Loop address ring pool)
miniport_of miniport_kind.Virtual count before d address ring pool = do
  link ← link_in count before d
  Ok (linked address ring pool link)

-- the miniport of a stack, of so many stacks in all, after the stacks before it
abbrev pub miniport_in : ℕ → List StackSetup → Data → Result MiniportSetup ScriptCause
miniport_in count before d = do
  kind ← at (codes "kind") miniport_kind_in d
  _ ← members_in (miniport_members kind) [] d
  address ← at (codes "address") address_in d
  ring ← at (codes "ring") (number_in 1 256) d
  pool ← at (codes "pool") (number_in 1 256) d
  miniport_of kind count before d address ring pool

abbrev pub binding_in : Data → Result (ProtocolKind × ℕ) ScriptCause
binding_in d = do
  _ ← members_in (codes "kind" ∷ codes "pool" ∷ []) [] d
  kind ← at (codes "kind") protocol_kind_in d
  pool ← at (codes "pool") (number_in 1 256) d
  Ok (kind, pool)

abbrev pub stack_in : ℕ → List StackSetup → Data → Result StackSetup ScriptCause
stack_in count before d = do
  _ ← members_in (codes "miniport" ∷ codes "bindings" ∷ codes "filters" ∷ []) [] d
  miniport ← at (codes "miniport") (miniport_in count before) d
  binding_datas ← at (codes "bindings") (list_in 1 8) d
  bindings ← read_all (λ earlier. binding_in) [] binding_datas
  filter_datas ← at (codes "filters") (list_in 0 16) d
  filters ← read_all (λ earlier. filter_in) [] filter_datas
  Ok (record { miniport = miniport; bindings = bindings; filters = filters })
