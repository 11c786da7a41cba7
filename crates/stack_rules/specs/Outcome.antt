-- What a turn answers and writes, and what is common to the events.
use Rattle.std.specs.Prelude.{ℕ, List, []}
use Rattle.ndis_base.specs.declared.ListNo.{ListNo}
use Rattle.ndis_base.specs.declared.OidNo.{OidNo}
use Rattle.ndis_base.specs.declared.StatusNo.{StatusNo}
use Rattle.ndis_base.specs.declared.CrossNo.{CrossNo}
use Rattle.ndis_base.specs.declared.ConfigNo.{ConfigNo}
use Rattle.ndis_base.specs.declared.ModuleId.{ModuleId}
use Rattle.ndis_base.specs.declared.Direction.{Direction}
use Rattle.ndis_base.specs.declared.Origin.TheVariants as origin
use Rattle.journal_types.specs.declared.StackHead.{StackHead}
use Rattle.journal_types.specs.declared.Row.{Row}
use Rattle.journal_types.specs.declared.Row.TheVariants as row
use Rattle.journal_types.specs.declared.Reply.{Reply}
use Rattle.journal_types.specs.declared.Reply.TheVariants as reply
use Rattle.journal_types.specs.declared.Refusal.{Refusal}
use Rattle.std.specs.Prelude.{Option}
use Rattle.stack_rules.specs.Net.{Net}

pub record Outcome : Type 0 where
  pub reply : Reply
  pub rows : List Row

-- an answer without rows
abbrev pub answered : Reply → Outcome
answered r = record { reply = r; rows = [] }

-- a refused event has no rows and changes nothing
abbrev pub refused : Refusal → Outcome
refused cause = answered (reply.Refused cause)

-- the bytes that a frame has at most: an Ethernet frame with one VLAN tag (IEEE 802.3 and 802.1Q)
abbrev pub max_frame : StackHead → ℕ
max_frame head = 1518

-- the filters that a stack has at most
abbrev pub max_filters : StackHead → ℕ
max_filters head = 16

abbrev pub list_no : ℕ → ListNo
list_no n = record { 0 = n }

abbrev pub oid_no : ℕ → OidNo
oid_no n = record { 0 = n }

abbrev pub status_no : ℕ → StatusNo
status_no n = record { 0 = n }

abbrev pub cross_no : ℕ → CrossNo
cross_no n = record { 0 = n }

abbrev pub config_no : ℕ → ConfigNo
config_no n = record { 0 = n }

-- a list of its owner, which is no clone and no copy
abbrev pub root : Net → ℕ → ModuleId → Direction → Option ℕ → List (List ℕ) → Row
root net n owner direction cancel frames = row.Issue (list_no n) owner (config_no net.modules.config) direction cancel origin.Root frames
