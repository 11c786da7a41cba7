-- A pause, with its drains.
use Rattle.std.proofs.Common.{◌≡◌, ◌≢◌, ◌⊎◌, inl, inr, ◌<◌, ◌++◌, Bool, true, false, ℕ, List, length, refl, sym, ap, ◌∙◌, subst}
use Rattle.ndis_base.specs.declared.Phase.TheVariants as phase
use Rattle.ndis_base.specs.declared.Who.{Who}
use Rattle.journal_types.specs.declared.Event.TheVariants as event
use Rattle.journal_types.specs.declared.Reply.{Reply}
use Rattle.journal_types.specs.declared.Reply.TheVariants as reply
use Rattle.journal_types.specs.declared.Turn.{Turn}
use Rattle.flat_journal.specs.declared.types.FlatReply.{FlatReply}
use Rattle.flat_journal.specs.Payloads.{Payloads}
use Rattle.flat_journal.specs.Shown.{reply_of}
use Rattle.stack_rules.specs.Net.{Net, seen}
use Rattle.drain_laws.specs.Drains.{NoneCrossed}
use Rattle.run_laws.specs.Pausing.{pause_to_go, Waits}
use Rattle.run_laws.specs.Turns.{GoesOn, LeadsTo}
use Rattle.run_laws.proofs.Crossing.{none_cross_untaken}
use Rattle.run_laws.proofs.Pausing.{pauses, drains}
use Rattle.book_lemmas.specs.Views.{BookView}
use Rattle.book_runs.specs.Adds.{AddsTurns, IsOne, ArePauseSteps}
use Rattle.book_runs.specs.Runs.{IsInPhase, IsAnswer, IsWaiting, Turned, Drained, PausesOnce, pause_phase}
use Rattle.book_runs.proofs.Added.{one_of, as_kind, both, found_yes, found_no}
use Rattle.book_runs.proofs.Pumped.{net_before, phase_after, same_after, less_after, keeps_by}

pub drained_by : {old new : BookView} {w : Who} {r : Reply} → IsInPhase old phase.Pausing → 0 < length old.tray.net.things → Turned old new w event.Drain r → Drained w old new
drained_by {old} {new} {w} {r} at some t =
    let none : NoneCrossed (seen old.tray.head old.tray.turns) = none_cross_untaken old.tray.head old.tray.turns t.sound at.between.untaken in
    let g : GoesOn (seen old.tray.head old.tray.turns) t.turn reply.Moved phase.Pausing pause_to_go =
    drains old.tray.head old.tray.turns t.turn t.sound t.bound t.next t.told.what (sym (ap (λ (n : Net). n.phase) t.before) ∙ at.phase_is) none
    (subst (λ (n : Net). 0 < length n.things) t.before some) in
    record {
      now = record { between = t.between; phase_is = phase_after t g.leads.phase };
      fewer = less_after pause_to_go t g.less;
      keeps = keeps_by refl t;
      added = subst (λ q. AddsTurns (IsOne w event.Drain q) old new) (sym t.told.told ∙ g.leads.reply) (one_of t);
    }

-- a step of a pause waits: nothing changed, and something is left
pub record WaitsNow (w : Who) (old new : BookView) : Type 0 where
  pub now : IsInPhase new phase.Pausing
  pub same : new.tray.net ≡ old.tray.net
  pub some : 0 < length new.tray.net.things
  pub many : ℕ
  pub added : AddsTurns (IsOne w event.PauseNext (reply.Waiting many)) old new

pub waits_by : {old new : BookView} {w : Who} {r : Reply} → IsInPhase old phase.Pausing → Turned old new w event.PauseNext r → IsWaiting r → WaitsNow w old new
waits_by {old} {new} {w} {r} at t is_waiting = by_law (pauses old.tray.head old.tray.turns t.turn t.sound t.bound t.next t.told.what before)
  where
    before : (net_before old).phase ≡ phase.Pausing
    before = sym (ap (λ (n : Net). n.phase) t.before) ∙ at.phase_is

    waiting : (told : Reply) → t.turn.reply ≡ told → IsWaiting told
    waiting told is = subst IsWaiting (sym t.told.told ∙ is) is_waiting

    by_law : GoesOn (net_before old) t.turn reply.Next phase.Pausing pause_to_go ⊎ (LeadsTo (net_before old) t.turn reply.Paused phase.Paused ⊎ Waits (net_before old) t.turn) → WaitsNow w old new
    by_law (inl g) = absurd (waiting reply.Next g.leads.reply)
    by_law (inr (inl l)) = absurd (waiting reply.Paused l.reply)
    by_law (inr (inr h)) =
        let same : new.tray.net ≡ old.tray.net = same_after t h.stays.same in
        record {
          now = record { between = t.between; phase_is = ap (λ (n : Net). n.phase) same ∙ at.phase_is };
          same = same;
          some = subst (λ (n : Net). 0 < length n.things) (sym (same ∙ t.before)) h.some;
          many = h.many;
          added = subst (λ q. AddsTurns (IsOne w event.PauseNext q) old new) (sym t.told.told ∙ h.stays.reply) (one_of t);
        }

-- and then it drains
drained_step : (w : Who) (many : ℕ) (xs ys : List Turn) → IsOne w event.PauseNext (reply.Waiting many) xs → IsOne w event.Drain reply.Moved ys → ArePauseSteps w false (xs ++ ys)
drained_step w many xs ys p d = subst (λ ts. ArePauseSteps w false (ts ++ ys)) (sym p.only) (true, (many, p.told), subst (ArePauseSteps w true) (sym d.only) (d.told, tt))

pub waits_and_drains : {old mid new : BookView} {w : Who} → WaitsNow w old mid → Drained w mid new → PausesOnce w false old new
waits_and_drains {old} {mid} {new} {w} p d = record {
  now = d.now;
  fewer = λ _. subst (λ (n : Net). pause_to_go new.tray.net < pause_to_go n) p.same d.fewer;
  keeps = λ none. d.keeps (ap (λ (n : Net). n.requests) p.same ∙ none);
  added = both (IsOne w event.PauseNext (reply.Waiting p.many)) (IsOne w event.Drain reply.Moved) (ArePauseSteps w false) (drained_step w p.many) p.added d.added;
}

next_step : (w : Who) (xs : List Turn) → IsOne w event.PauseNext reply.Next xs → ArePauseSteps w false xs
next_step w xs o = subst (ArePauseSteps w false) (sym o.only) (false, o.told, tt)

-- a step of a pause that doesn't wait
pub paused_by : {old new : BookView} (w : Who) (answer : FlatReply) (done : Bool) (p : Payloads) → IsInPhase old phase.Pausing → Turned old new w event.PauseNext (reply_of p answer) → (IsWaiting (reply_of p answer) → ⊥)
    → IsAnswer reply.Paused answer done → PausesOnce w done old new
paused_by {old} {new} w answer done p at t no_wait a = by_law (pauses old.tray.head old.tray.turns t.turn t.sound t.bound t.next t.told.what before)
  where
    before : (net_before old).phase ≡ phase.Pausing
    before = sym (ap (λ (n : Net). n.phase) t.before) ∙ at.phase_is

    next_not_paused : reply.Next ≢ reply.Paused
    next_not_paused e = cc

    no_true : true ≡ false → ⊥
    no_true e = cc

    by_law : GoesOn (net_before old) t.turn reply.Next phase.Pausing pause_to_go ⊎ (LeadsTo (net_before old) t.turn reply.Paused phase.Paused ⊎ Waits (net_before old) t.turn) → PausesOnce w done old new
    by_law (inl g) =
        let told : reply_of p answer ≡ reply.Next = sym t.told.told ∙ g.leads.reply in
        let no : done ≡ false = found_no reply.Paused answer done p a (λ is. next_not_paused (sym told ∙ is)) in
        let goes : PausesOnce w false old new = record {
          now = record { between = t.between; phase_is = phase_after t g.leads.phase };
          fewer = λ _. less_after pause_to_go t g.less;
          keeps = keeps_by refl t;
          added = as_kind (IsOne w event.PauseNext reply.Next) (ArePauseSteps w false) (next_step w) (subst (λ r. AddsTurns (IsOne w event.PauseNext r) old new) told (one_of t));
        } in
        subst (λ b. PausesOnce w b old new) (sym no) goes
    by_law (inr (inl l)) =
        let told : reply_of p answer ≡ reply.Paused = sym t.told.told ∙ l.reply in
        let yes : done ≡ true = found_yes reply.Paused answer done p a told in
        let over : PausesOnce w true old new = record {
          now = record { between = t.between; phase_is = phase_after t l.phase };
          fewer = λ e. absurd (no_true e);
          keeps = keeps_by refl t;
          added = subst (λ r. AddsTurns (IsOne w event.PauseNext r) old new) told (one_of t);
        } in
        subst (λ b. PausesOnce w b old new) (sym yes) over
    by_law (inr (inr h)) = absurd (no_wait (subst IsWaiting (sym (sym t.told.told ∙ h.stays.reply)) tt))

pub in_phase : {v : BookView} (done x : Bool) → done ≡ x → IsInPhase v (pause_phase done) → IsInPhase v (pause_phase x)
in_phase {v} done x is k = subst (λ b. IsInPhase v (pause_phase b)) is k
