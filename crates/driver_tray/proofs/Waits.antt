-- The tables go on to tell what waits, whatever row is written and whatever is told.
use Rattle.std.proofs.Common.{◌≡◌, ℕ, false, ◌-◌, ◌≤◌, List, [], ◌∷◌, ◌++◌, Option, refl, sym, ap, ◌∙◌, subst, arith}
use Rattle.ndis_base.specs.declared.ConfigNo.{ConfigNo}
use Rattle.ndis_base.specs.declared.ListNo.{ListNo}
use Rattle.ndis_base.specs.declared.ModuleId.{ModuleId}
use Rattle.ndis_base.specs.declared.OidKind.{OidKind}
use Rattle.ndis_base.specs.declared.OidNo.{OidNo}
use Rattle.ndis_base.specs.declared.OidStatus.{OidStatus}
use Rattle.ndis_base.specs.declared.Origin.{Origin}
use Rattle.ndis_base.specs.declared.StatusName.{StatusName}
use Rattle.ndis_base.specs.declared.StatusNo.{StatusNo}
use Rattle.ndis_base.specs.declared.Origin.TheVariants as origin
use Rattle.journal_types.specs.declared.Event.{Event}
use Rattle.journal_types.specs.declared.Event.TheVariants as event
use Rattle.journal_types.specs.declared.PhaseOf.{PhaseOf}
use Rattle.journal_types.specs.declared.PhaseOf.TheVariants as of
use Rattle.journal_types.specs.declared.Reply.{Reply}
use Rattle.journal_types.specs.declared.Reply.TheVariants as reply
use Rattle.journal_types.specs.declared.Row.TheVariants as row
use Rattle.journal_types.specs.declared.StackHead.{StackHead}
use Rattle.journal_types.specs.declared.Target.{Target}
use Rattle.buffer_pools.specs.declared.label.Label.{Label}
use Rattle.flat_journal.specs.declared.types.FlatRow.{FlatRow}
use Rattle.flat_journal.specs.declared.types.FlatRow.TheVariants as flat_row
use Rattle.flat_journal.specs.Payloads.{Payloads}
use Rattle.flat_journal.specs.Shown.{row_of}
use Rattle.stack_rules.specs.Net.{Net, start, told, after, lists, request_of}
use Rattle.rule_basics.specs.Live.{is_live}
use Rattle.rule_basics.proofs.Numbered.{numbered_after, numbered_start, next_is_free, lists-without_status, lists-status, lists-things_done}
use Rattle.waiting_lists.specs.Waiting.{WaitView, Tells}
use Rattle.waiting_lists.proofs.Tells.{tells_same, tells_given, tells_turned_back, tells_kept, tells_passed, tells_homed, tells_issued, with_clone}
use Rattle.driver_tray.specs.Tray.{IsSteady, issue_row}
use Rattle.driver_tray.specs.Waits.{HasWaits, waits_after}

-- nothing waits before the first turn
pub waits_start : (head : StackHead) (room : ℕ) → HasWaits (start head) (record { clones = []; crossed = []; room = room }) 0
waits_start head room = record { tells = record { clones = λ c o. refl; crossed = λ n. refl }; numbered = numbered_start head; room = omega arith }

pub waits_same : {net now : Net} {w : WaitView} {slack : ℕ} → now ≡ net → HasWaits net w slack → HasWaits now w slack
waits_same {net} {now} {w} {slack} e h = subst (λ (n : Net). HasWaits n w slack) (sym e) h

-- more room
pub waits_roomed : (net : Net) (w more : WaitView) (slack need : ℕ) → more ≡ record w { room = more.room } → need ≤ more.room → HasWaits net w slack → HasWaits net more need
waits_roomed net w more slack need e enough h =
    let so : HasWaits net (record w { room = more.room }) need = record { tells = record { clones = h.tells.clones; crossed = h.tells.crossed }; numbered = h.numbered; room = enough } in
    subst (λ (v : WaitView). HasWaits net v need) (sym e) so

-- a row that changes only lists, statuses, answers and messages
waits_steady : (net : Net) (p : Payloads) (r : FlatRow) (w : WaitView) (slack : ℕ) → IsSteady r → HasWaits net w slack → HasWaits (after net (row_of p r)) (waits_after r w) slack
waits_steady net p (flat_row.Issue list owner config direction cancel from frames) w slack s h = absurd s
waits_steady net p (flat_row.Give list m by) w slack s h =
    record { tells = tells_given net list m by w h.tells; numbered = numbered_after net (row.Give list m by) tt h.numbered; room = h.room }
waits_steady net p (flat_row.Pass list way to) w slack s h =
    record { tells = tells_passed net list way to w h.tells; numbered = numbered_after net (row.Pass list way to) tt h.numbered; room = h.room }
waits_steady net p (flat_row.Keep list m) w slack s h =
    record { tells = tells_kept net list m w h.tells; numbered = numbered_after net (row.Keep list m) tt h.numbered; room = h.room }
waits_steady net p (flat_row.TurnBack list m status) w slack s h =
    record { tells = tells_turned_back net list m status w h.tells; numbered = numbered_after net (row.TurnBack list m status) tt h.numbered; room = h.room }
waits_steady net p (flat_row.Home list owner status) w slack s h =
    record { tells = tells_homed net list owner status w h.tells; numbered = numbered_after net (row.Home list owner status) tt h.numbered; room = h.room }
waits_steady net p (flat_row.Wire list frames) w slack s h = absurd s
waits_steady net p (flat_row.Deliver list binding how frames) w slack s h =
    record { tells = tells_same h.tells refl; numbered = record { apart = h.numbered.apart; below = h.numbered.below }; room = h.room }
waits_steady net p (flat_row.Phase of) w slack s h = absurd s
waits_steady net p (flat_row.Config config filters) w slack s h = absurd s
waits_steady net p (flat_row.OidIssue request parent binding kind code value) w slack s h = absurd s
waits_steady net p (flat_row.OidGive request m) w slack s h = absurd s
waits_steady net p (flat_row.OidDone request status value) w slack s h = absurd s
waits_steady net p (flat_row.Status number name to) w slack s h = absurd s
waits_steady net p (flat_row.Seen number m) w slack s h =
    record { tells = tells_same h.tells (lists-without_status number.0 net.things); numbered = numbered_after net (row.Seen number m) tt h.numbered; room = h.room }
waits_steady net p (flat_row.CrossOut message way frames) w slack s h = absurd s
waits_steady net p (flat_row.CrossIn stack message way frames) w slack s h = h

pub waits_written : (net now : Net) (p : Payloads) (r : FlatRow) (w left : WaitView) (slack : ℕ) → IsSteady r → now ≡ after net (row_of p r) → left ≡ waits_after r w → HasWaits net w slack → HasWaits now left slack
waits_written net now p r w left slack s e f h =
    waits_same e (subst (λ (v : WaitView). HasWaits (after net (row_of p r)) v slack) (sym f) (waits_steady net p r w slack s h))

-- rows that tell states, a configuration, or frames on the wire
pub waits_phase : (net : Net) (f : PhaseOf) (w : WaitView) (slack : ℕ) → HasWaits net w slack → HasWaits (after net (row.Phase f)) w slack
waits_phase net (of.Module m s) w slack h = record { tells = tells_same h.tells refl; numbered = record { apart = h.numbered.apart; below = h.numbered.below }; room = h.room }
waits_phase net (of.Stack p) w slack h = record { tells = tells_same h.tells refl; numbered = record { apart = h.numbered.apart; below = h.numbered.below }; room = h.room }

pub waits_configured : (net : Net) (config : ConfigNo) (filters : List ℕ) (w : WaitView) (slack : ℕ) → HasWaits net w slack → HasWaits (after net (row.Config config filters)) w slack
waits_configured net config filters w slack h = record { tells = tells_same h.tells refl; numbered = record { apart = h.numbered.apart; below = h.numbered.below }; room = h.room }

pub waits_wired : (net : Net) (list : ListNo) (frames : List (List ℕ)) (w : WaitView) (slack : ℕ) → HasWaits net w slack → HasWaits (after net (row.Wire list frames)) w slack
waits_wired net list frames w slack h = record { tells = tells_same h.tells refl; numbered = record { apart = h.numbered.apart; below = h.numbered.below }; room = h.room }

-- a status on its way
pub waits_status : (net : Net) (number : StatusNo) (name : StatusName) (to : Target) (w : WaitView) (slack : ℕ) → HasWaits net w slack → HasWaits (after net (row.Status number name to)) w slack
waits_status net number name to w slack h =
    record { tells = tells_same h.tells (lists-status number.0 net.things _ refl); numbered = numbered_after net (row.Status number name to) tt h.numbered; room = h.room }

-- a request that is issued, which takes room for one, is given, or is done
pub waits_asked : (net : Net) (request : OidNo) (parent : Option OidNo) (binding : ℕ) (kind : OidKind) (code : ℕ) (value : List ℕ) (w : WaitView) (slack : ℕ) → HasWaits net w slack
    → HasWaits (after net (row.OidIssue request parent binding kind code value)) w (slack - 1)
waits_asked net request parent binding kind code value w slack h =
    record { tells = tells_same h.tells refl; numbered = record { apart = h.numbered.apart; below = h.numbered.below }; room = omega (arith, h.room) }

pub waits_request_given : (net : Net) (request : OidNo) (m : ModuleId) (w : WaitView) (slack : ℕ) → HasWaits net w slack → HasWaits (after net (row.OidGive request m)) w slack
waits_request_given net request m w slack h = record { tells = tells_same h.tells refl; numbered = record { apart = h.numbered.apart; below = h.numbered.below }; room = h.room }

pub waits_done : (net : Net) (request : OidNo) (status : OidStatus) (value : List ℕ) (w : WaitView) (slack : ℕ) → HasWaits net w slack → HasWaits (after net (row.OidDone request status value)) w slack
waits_done net request status value w slack h =
    record {
      tells = tells_same h.tells (lists-things_done (request_of request.0 net.requests) request status value net.things);
      numbered = numbered_after net (row.OidDone request status value) tt h.numbered;
      room = h.room;
    }

-- what an event and its reply tell beside the rows
pub waits_told : (net : Net) (e : Event) (r : Reply) (w : WaitView) (slack : ℕ) → HasWaits net w slack → HasWaits (told net e r) w slack
waits_told net (event.Insert kind position setup) (reply.Inserted f) w slack h = record { tells = tells_same h.tells refl; numbered = record { apart = h.numbered.apart; below = h.numbered.below }; room = h.room }
waits_told net (event.Replace old kind setup) (reply.Replaced f) w slack h = record { tells = tells_same h.tells refl; numbered = record { apart = h.numbered.apart; below = h.numbered.below }; room = h.room }
waits_told net (event.CrossTakeUp binding vlan) (reply.Taken message frames) w slack h = record { tells = tells_same h.tells refl; numbered = record { apart = h.numbered.apart; below = h.numbered.below }; room = h.room }
waits_told net _ _ w slack h = h

-- a list is issued under the next number, that is no clone or that is one
free_of : (net : Net) (n : ℕ) (w : WaitView) (slack : ℕ) → n ≡ net.next.list → HasWaits net w slack → is_live n (lists net.things) ≡ false
free_of net n w slack e h = ap (λ k. is_live k (lists net.things)) e ∙ next_is_free net h.numbered

pub waits_issued : (net : Net) (label : Label) (frames : List (List ℕ)) (w : WaitView) (slack : ℕ) → label.number.0 ≡ net.next.list → label.origin ≡ origin.Root → HasWaits net w slack → HasWaits (after net (issue_row label frames)) w slack
waits_issued net label frames w slack number root h =
    let told : Tells (after net (issue_row label frames)) (with_clone label.origin label.number w) =
    tells_issued net label.number label.owner label.config label.direction label.cancel label.origin frames w h.tells (free_of net label.number.0 w slack number h) in
    record {
      tells = subst (λ (o : Origin). Tells (after net (issue_row label frames)) (with_clone o label.number w)) root told;
      numbered = numbered_after net (issue_row label frames) number h.numbered;
      room = h.room;
    }

-- a copy is no clone
pub waits_copied : (net : Net) (label : Label) (lent : ListNo) (frames : List (List ℕ)) (w : WaitView) (slack : ℕ) → label.number.0 ≡ net.next.list → label.origin ≡ origin.Copy lent → HasWaits net w slack
    → HasWaits (after net (issue_row label frames)) w slack
waits_copied net label lent frames w slack number copy h =
    let told : Tells (after net (issue_row label frames)) (with_clone label.origin label.number w) =
    tells_issued net label.number label.owner label.config label.direction label.cancel label.origin frames w h.tells (free_of net label.number.0 w slack number h) in
    record {
      tells = subst (λ (o : Origin). Tells (after net (issue_row label frames)) (with_clone o label.number w)) copy told;
      numbered = numbered_after net (issue_row label frames) number h.numbered;
      room = h.room;
    }

-- the tables with one more clone
abbrev pub one_clone : ListNo → ListNo → WaitView → WaitView
one_clone n original w = record w { clones = w.clones ++ (n.0, original.0) ∷ []; room = w.room - 1 }

pub waits_cloned : (net : Net) (label : Label) (original : ListNo) (frames : List (List ℕ)) (w : WaitView) (slack : ℕ) → label.number.0 ≡ net.next.list → label.origin ≡ origin.Clone original → 1 ≤ slack
    → HasWaits net w slack → HasWaits (after net (issue_row label frames)) (one_clone label.number original w) (slack - 1)
waits_cloned net label original frames w slack number clone some h =
    let told : Tells (after net (issue_row label frames)) (with_clone label.origin label.number w) =
    tells_issued net label.number label.owner label.config label.direction label.cancel label.origin frames w h.tells (free_of net label.number.0 w slack number h) in
    let so : Tells (after net (issue_row label frames)) (with_clone (origin.Clone original) label.number w) =
    subst (λ (o : Origin). Tells (after net (issue_row label frames)) (with_clone o label.number w)) clone told in
    record {
      tells = record { clones = so.clones; crossed = so.crossed };
      numbered = numbered_after net (issue_row label frames) number h.numbered;
      room = omega (arith, h.room);
    }
