-- Whom a row calls by which a list is home: the list's Issue row shows the direction that the state before that row
-- tells. And what every row stands for.
use Rattle.std.proofs.Common.{◌≡◌, List, ◌∷◌, ◌++◌, Option, Some, None, ap, ap₂, sym, subst, append_assoc, refl, ◌∙◌}
use Rattle.ndis_base.specs.declared.Direction.{Direction}
use Rattle.ndis_base.specs.declared.Direction.TheVariants as direction
use Rattle.ndis_base.specs.declared.ListNo.{ListNo}
use Rattle.ndis_base.specs.declared.ListStatus.{ListStatus}
use Rattle.ndis_base.specs.declared.ModuleId.{ModuleId}
use Rattle.journal_types.specs.declared.Row.{Row}
use Rattle.journal_types.specs.declared.Row.TheVariants as row
use Rattle.journal_types.specs.declared.StackHead.{StackHead}
use Rattle.journal_types.specs.declared.Turn.{Turn}
use Rattle.stack_rules.specs.declared.LiveList.{LiveList}
use Rattle.stack_rules.specs.Net.{Net, lists, list_of}
use Rattle.stack_rules.specs.Sound.{Sound}
use Rattle.home_laws.specs.Rows.{Label, IsIssued, issue_row, rows_of}
use Rattle.home_laws.proofs.Fits.{empty, registered_rows, Fits, AllFit, IsSane}
use Rattle.home_laws.proofs.Agreed.{Agrees, label_in}
use Rattle.home_laws.proofs.Registers.{AllFit-front, AllFit-back, sane_empty, sane_rows}
use Rattle.home_laws.proofs.Histories.{tells_rows}
use Rattle.home_laws.proofs.Events.{journal_fits}
use Rattle.promise_rules.specs.Rows.{issue_of}
use Rattle.promise_rules.specs.Completions.{gives}
use Rattle.promise_rules.specs.Calls.{asks, calls_at, direction_in, home_call, holder_call, asker_call}
use Rattle.family_laws.specs.Looked.{LooksBack}
use Rattle.family_laws.proofs.Lookups.{each_looks_back, rows_found}
use Rattle.book_lemmas.specs.Did.{calls_now, direction_of}
use Rattle.served_laws.proofs.Finds.{IsAt, is_at}
use Rattle.served_laws.proofs.Dones.{IsDoneTold}

-- the rows before a row of a sound journal fit, and so does the row
pub record IsPlace (before : List Row) (r : Row) : Type 0 where
  pub front : AllFit empty before
  pub sane : IsSane (registered_rows empty before)
  pub here : Fits (registered_rows empty before) r

pub place : (head : StackHead) (all : List Turn) (before later : List Row) (r : Row) → Sound head all → rows_of all ≡ before ++ r ∷ later → IsPlace before r
place head all before later r s is =
    let whole : AllFit empty (before ++ r ∷ later) = subst (AllFit empty) is (journal_fits head all s).fit in
    let front : AllFit empty before = AllFit-front empty before (r ∷ later) whole in
    record { front = front; sane = sane_rows empty before sane_empty front; here = (AllFit-back empty before (r ∷ later) whole).0 }

-- the direction of a live list is that of its label
direction_known : (o : Option LiveList) (label : Label) → label_in o ≡ Some label → direction_of o ≡ label.direction
direction_known None label e = cc
direction_known (Some l) label e = ap (λ (o : Option Label). shown o) e
  where
    shown : Option Label → Direction
    shown None = direction.Lent
    shown (Some label) = label.direction

home_told : (head : StackHead) (all : List Turn) (net : Net) (before later : List Row) (list : ListNo) (owner : ModuleId) (status : ListStatus) → Sound head all → rows_of all ≡ before ++ row.Home list owner status ∷ later →
    Agrees net (registered_rows empty before) → direction_in (issue_of all list.0) ≡ direction_of (list_of list.0 (lists net.things))
home_told head all net before later list owner status s is a =
    let home : Row = row.Home list owner status in
    let p : IsPlace before home = place head all before later home s is in
    let label : Label = p.here.label in
    let issued : IsIssued before list label = (tells_rows before p.front).issued list.0 label p.here.found in
    let issue : Row = issue_row list issued.config label in
    let there : IsAt before issue = is_at before issue issued.here in
    let split : rows_of all ≡ there.before ++ issue ∷ (there.later ++ home ∷ later) =
    is ∙ ap (λ rows. rows ++ home ∷ later) there.are ∙ append_assoc there.before (issue ∷ there.later) (home ∷ later) in
    let looks : LooksBack all there.before list issued.config label = each_looks_back head all s there.before (there.later ++ home ∷ later) list issued.config label split in
    ap direction_in looks.issue ∙ sym (direction_known (list_of list.0 (lists net.things)) label (a.live list.0 ∙ p.here.found))

-- what a row stands for by the state before it is what is promised of the journal
pub calls_told : (head : StackHead) (all : List Turn) (net : Net) (before later : List Row) (r : Row) → Sound head all → rows_of all ≡ before ++ r ∷ later → Agrees net (registered_rows empty before) → IsDoneTold (rows_of all) net r → calls_at all r ≡ calls_now net r
calls_told head all net before later (row.Home list owner status) s is a d = ap (home_call owner) (home_told head all net before later list owner status s is a)
calls_told head all net before later (row.OidDone request status value) s is a d =
    ap₂ (λ x y. holder_call x ++ asker_call y) (rows_found (gives request.0) all) (rows_found (asks request.0) all) ∙ sym d
calls_told head all net before later (row.Issue list owner config way cancel origin frames) s is a d = refl
calls_told head all net before later (row.Give list m handler) s is a d = refl
calls_told head all net before later (row.Pass list way to) s is a d = refl
calls_told head all net before later (row.Keep list m) s is a d = refl
calls_told head all net before later (row.TurnBack list m status) s is a d = refl
calls_told head all net before later (row.Wire list frames) s is a d = refl
calls_told head all net before later (row.Deliver list binding how frames) s is a d = refl
calls_told head all net before later (row.Phase whose) s is a d = refl
calls_told head all net before later (row.Config config filters) s is a d = refl
calls_told head all net before later (row.OidIssue request parent binding kind code value) s is a d = refl
calls_told head all net before later (row.OidGive request m) s is a d = refl
calls_told head all net before later (row.Status number name to) s is a d = refl
calls_told head all net before later (row.Seen number m) s is a d = refl
calls_told head all net before later (row.CrossOut message way frames) s is a d = refl
calls_told head all net before later (row.CrossIn stack message way frames) s is a d = refl
