-- The event of a cancel ends.
use Rattle.std.proofs.Common.{◌≡◌, ℕ, ◌≤◌, false, length, flat_map, refl, sym, ap, ◌∙◌, subst, arith}
use Rattle.std.specs.Prelude.{Result, Ok, Err, OnErr}
use Rattle.ndis_base.specs.declared.Phase.{Phase}
use Rattle.ndis_base.specs.declared.Phase.TheVariants as phase
use Rattle.journal_types.specs.declared.Event.TheVariants as event
use Rattle.journal_types.specs.declared.Reply.TheVariants as reply
use Rattle.stack_rules.specs.declared.Choice.{Choice}
use Rattle.stack_rules.specs.Cancels.{cancelled_at, cancel_rows_at, queues, cancel_outcome}
use Rattle.stack_rules.specs.Net.{Net}
use Rattle.state_laws.specs.Shape.{IsShaped, IsDistinct}
use Rattle.state_laws.proofs.Events.{at_phase, shaped_journal}
use Rattle.book_lemmas.specs.Views.{BookView, HeldView}
use Rattle.book_parts.specs.Events.{IsBook, IsIdle, DidEvent, CanEnd}
use Rattle.book_parts.proofs.Ended.{idle_state}
use Rattle.book_parts.proofs.Events.{Ends, did_event}
use Rattle.drain_work.specs.Drains.{IsSame, IsRoomed, IsReadyFor}
use Rattle.drain_work.proofs.Sames.{same_roomed, ends_then}
use Rattle.cancel_work.specs.Cancels.{queues_from, kept_by, IsCounted, HasRoomToCancel, Cancelled}

-- what holds anyway
pub on_err_always : {A E : Type 0} (r : Result A E) (P : Type 0) → P → OnErr r P
on_err_always (Ok a) P p = tt
on_err_always (Err e) P p = p

-- no filter is twice in the order
distinct_at : (net : Net) (s : IsShaped net) (p : Phase) → net.phase ≡ p → IsDistinct net.modules.order
distinct_at net s phase.Halted e = (at_phase net phase.Halted s e).0.distinct
distinct_at net s phase.Paused e = (at_phase net phase.Paused s e).0.distinct
distinct_at net s phase.Restarting e = (at_phase net phase.Restarting s e).0.distinct
distinct_at net s phase.Running e = (at_phase net phase.Running s e).0.distinct
distinct_at net s phase.Pausing e = (at_phase net phase.Pausing s e).0.distinct

pub distinct : (v : BookView) → IsBook v → IsIdle v → IsDistinct v.tray.net.modules.order
distinct v k i = distinct_at v.tray.net (subst IsShaped (sym (idle_state v k i)) (shaped_journal v.tray.head v.tray.turns k.follows.sound)) v.tray.net.phase refl

-- no driver chooses anything in a cancel
abbrev no_choice : Choice
no_choice = record { keeps = false; refuses = false; shelf_empty = false }

-- once room was made
pub record IsBegun (old mid : BookView) (kept : ℕ) : Type 0 where
  pub same : IsSame old mid
  pub turns : 1 ≤ mid.tray.room.turns
  pub room : HasRoomToCancel mid (queues_from mid.tray.net.modules 0)

pub begun : (old mid : BookView) (kept : ℕ) → IsCounted (kept_by old.held (queues_from old.tray.net.modules 0)) kept → IsRoomed old.tray mid.tray → mid.held ≡ old.held → IsReadyFor kept mid.tray → IsBegun old mid kept
begun old mid kept c r held ready =
    let s : IsSame old mid = same_roomed old mid r held in
    let many : kept_by mid.held (queues_from mid.tray.net.modules 0) ≡ kept =
    ap (λ (h : HeldView). kept_by h (queues_from mid.tray.net.modules 0)) held ∙ ap (λ (n : Net). kept_by old.held (queues_from n.modules 0)) s.tray.net ∙ sym c.is in
    record {
      same = s;
      turns = ready.turns;
      room = record { rows = omega (arith, ready.rows, many); slack = omega (arith, ready.slack, many); low = omega (arith, c.low, many) };
    }

-- the rows were written
pub cancel_did : (old mid new : BookView) (id n kept : ℕ) → IsBook old → IsIdle old → IsBegun old mid kept → Cancelled mid new id (queues_from mid.tray.net.modules 0) n → DidEvent old new (event.Cancel id) (reply.Cancelled n)
cancel_did old mid new id n kept k i b d =
    let s : IsSame old mid = b.same in
    let rows : flat_map (cancel_rows_at mid.tray.net id) (queues mid.tray.net.modules) ≡ (cancel_outcome old.tray.net id).rows = ap (λ (x : Net). (cancel_outcome x id).rows) s.tray.net in
    let count : n ≡ length (flat_map (cancelled_at old.tray.net id) (queues old.tray.net.modules)) = d.count ∙ ap (λ (x : Net). length (flat_map (cancelled_at x id) (queues x.modules))) s.tray.net in
    let ends : Ends old new (cancel_outcome old.tray.net id).rows = subst (Ends old new) rows (ends_then s d.ends) in
    did_event old new (cancel_outcome old.tray.net id).rows (event.Cancel id) no_choice (reply.Cancelled n) k i ends (ap reply.Cancelled count) refl refl tt
    (d.shelf ∙ ap (λ (h : HeldView). h.shelf) s.held, d.seats ∙ ap (λ (h : HeldView). h.seats) s.held)

pub cancel_turn : (old mid new : BookView) (id n kept : ℕ) → IsBegun old mid kept → Cancelled mid new id (queues_from mid.tray.net.modules 0) n → CanEnd new
cancel_turn old mid new id n kept b d = record { room = omega (arith, b.turns, d.ends.used.turns) }
