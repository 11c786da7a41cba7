-- What isn't a list, a status, an answer or a message after a row depends on such things before it alone.
use Rattle.std.proofs.Common.{◌≡◌, ℕ, List, [], ◌∷◌, Option, length, refl, ap, sym, ◌∙◌}
use Rattle.ndis_base.specs.declared.ModuleId.{ModuleId}
use Rattle.ndis_base.specs.declared.ModuleId.TheVariants.{Miniport, Filter, Binding}
use Rattle.ndis_base.specs.declared.ListNo.{ListNo}
use Rattle.ndis_base.specs.declared.OidNo.{OidNo}
use Rattle.ndis_base.specs.declared.StatusNo.{StatusNo}
use Rattle.ndis_base.specs.declared.ConfigNo.{ConfigNo}
use Rattle.ndis_base.specs.declared.CrossNo.{CrossNo}
use Rattle.ndis_base.specs.declared.Direction.{Direction}
use Rattle.ndis_base.specs.declared.Origin.{Origin}
use Rattle.ndis_base.specs.declared.OidStatus.{OidStatus}
use Rattle.ndis_base.specs.declared.StatusName.{StatusName}
use Rattle.ndis_base.specs.declared.FilterKind.{FilterKind}
use Rattle.journal_types.specs.declared.Setup.{Setup}
use Rattle.journal_types.specs.declared.Target.{Target}
use Rattle.journal_types.specs.declared.OutWay.{OutWay}
use Rattle.journal_types.specs.declared.PhaseOf.TheVariants as of
use Rattle.journal_types.specs.declared.Event.{Event}
use Rattle.journal_types.specs.declared.Event.TheVariants as event
use Rattle.journal_types.specs.declared.Reply.{Reply}
use Rattle.journal_types.specs.declared.Reply.TheVariants as reply
use Rattle.journal_types.specs.declared.Row.{Row}
use Rattle.journal_types.specs.declared.Row.TheVariants as row
use Rattle.stack_rules.specs.Net.{Net, after, after_rows, told, with_filter}
use Rattle.stack_rules.specs.Places.{state_of, pool_of}
use Rattle.stack_rules.specs.Requests.{next_giving}
use Rattle.stack_ledger.specs.Bare.{bare, with_issued, with_wired, with_status, with_out, with_done}

pub bare_after : (net : Net) (r : Row) → bare (after net r) ≡ bare (after (bare net) r)
bare_after net (row.Phase (of.Module Miniport s)) = refl
bare_after net (row.Phase (of.Module (Filter f) s)) = refl
bare_after net (row.Phase (of.Module (Binding b) s)) = refl
bare_after net (row.Phase (of.Stack p)) = refl
bare_after net _ = refl

pub bare_rows : (net : Net) (rows : List Row) → bare (after_rows net rows) ≡ bare (after_rows (bare net) rows)
bare_rows net [] = refl
bare_rows net (r ∷ rows) =
    bare_rows (after net r) rows
    ∙ ap (λ n. bare (after_rows n rows)) (bare_after net r)
    ∙ sym (bare_rows (after (bare net) r) rows)

pub bare_told : (net : Net) (e : Event) (r : Reply) → bare (told net e r) ≡ bare (told (bare net) e r)
bare_told net (event.Insert kind position setup) (reply.Inserted f) = refl
bare_told net (event.Replace old kind setup) (reply.Replaced f) = refl
bare_told net (event.CrossTakeUp binding vlan) (reply.Taken message frames) = refl
bare_told net _ _ = refl

-- what is asked of a module, and of the requests
pub bare_state : (net : Net) (m : ModuleId) → state_of (bare net) m ≡ state_of net m
bare_state net Miniport = refl
bare_state net (Filter f) = refl
bare_state net (Binding b) = refl

pub bare_pool : (net : Net) (m : ModuleId) → pool_of (bare net) m ≡ pool_of net m
bare_pool net Miniport = refl
bare_pool net (Filter f) = refl
bare_pool net (Binding b) = refl

pub bare_giving : (net : Net) → next_giving (bare net) ≡ next_giving net
bare_giving net = refl

-- the rows and the setup that change a ledger by their fields
pub bare_issue : (net : Net) (list : ListNo) (owner : ModuleId) (config : ConfigNo) (direction : Direction) (cancel : Option ℕ) (origin : Origin) (frames : List (List ℕ))
    → bare (after net (row.Issue list owner config direction cancel origin frames)) ≡ with_issued owner (length frames) (bare net)
bare_issue net list owner config direction cancel origin frames = refl

pub bare_wire : (net : Net) (list : ListNo) (frames : List (List ℕ)) → bare (after net (row.Wire list frames)) ≡ with_wired (length frames) (bare net)
bare_wire net list frames = refl

pub bare_status : (net : Net) (number : StatusNo) (name : StatusName) (to : Target) → bare (after net (row.Status number name to)) ≡ with_status number.0 (bare net)
bare_status net number name to = refl

pub bare_out : (net : Net) (message : CrossNo) (way : OutWay) (frames : List (List ℕ)) → bare (after net (row.CrossOut message way frames)) ≡ with_out way (length frames) (bare net)
bare_out net message way frames = refl

pub bare_done : (net : Net) (request : OidNo) (status : OidStatus) (value : List ℕ) → bare (after net (row.OidDone request status value)) ≡ with_done request status (bare net)
bare_done net request status value = refl

pub bare_filter : (net : Net) (f : ℕ) (kind : FilterKind) (setup : Setup) → bare (with_filter f kind setup net) ≡ with_filter f kind setup (bare net)
bare_filter net f kind setup = refl
