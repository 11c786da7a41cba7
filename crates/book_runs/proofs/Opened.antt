-- The opening: initialised, filters inserted, restarted.
use Rattle.std.proofs.Common.{◌≡◌, ◌≢◌, ◌⊎◌, inl, inr, ◌<◌, ◌≤◌, ◌+◌, ◌-◌, ℕ, Bool, true, false, cond, List, [], ◌∷◌, length, take, drop, get_or, refl, sym, ap, ◌∙◌, ap₂, subst, arith}
use Rattle.std.proofs.lemmas.List.{take_rest}
use Rattle.ndis_base.specs.declared.Phase.{Phase}
use Rattle.ndis_base.specs.declared.Phase.TheVariants as phase
use Rattle.ndis_base.specs.declared.Who.TheVariants as who
use Rattle.journal_types.specs.declared.Event.{Event}
use Rattle.journal_types.specs.declared.Event.TheVariants as event
use Rattle.journal_types.specs.declared.Refusal.TheVariants as refusal
use Rattle.journal_types.specs.declared.Reply.{Reply}
use Rattle.journal_types.specs.declared.Reply.TheVariants as reply
use Rattle.script_types.specs.declared.FilterSetup.{FilterSetup}
use Rattle.promise_rules.specs.declared.Opening.{Opening}
use Rattle.promise_rules.specs.declared.Opening.TheVariants.{Initialising, Inserting, Opened}
use Rattle.promise_rules.specs.Own.{opening_after}
use Rattle.stack_rules.specs.Net.{Net, seen}
use Rattle.run_laws.specs.Opening.{is_rewire}
use Rattle.run_laws.specs.Turns.{ChangesNothing, LeadsTo}
use Rattle.run_laws.proofs.Opening.{initializes, rewires}
use Rattle.driver_views.specs.States.{IsRisen}
use Rattle.book_lemmas.specs.Shelves.{Balks}
use Rattle.book_lemmas.specs.Views.{BookView}
use Rattle.book_runs.specs.Adds.{AddsTurns, OpensTo, is_refused, opening_asks, opening_goes}
use Rattle.book_runs.specs.Runs.{IsInPhase, Turned, RestartsAll, InsertsOne, InsertsEach, OpensStack, is_inserted}
use Rattle.book_runs.proofs.Added.{one_of, none_added, leads_until, opens_by, opens_then}
use Rattle.book_runs.proofs.Pumped.{net_before, phase_after, same_after}

pub inserted_to : (attached : ℕ) (f : FilterSetup) (fs : List FilterSetup) (r : Reply) → opening_after (Inserting attached) (f ∷ fs) r ≡ Inserting (cond (is_inserted r) (attached + 1) attached)
inserted_to attached f fs (reply.Inserted filter) = refl
inserted_to attached f fs _ = refl

pub insert_phase : {old new : BookView} {r : Reply} {kind : _} {position : ℕ} {setup : _} → IsInPhase old phase.Paused → Turned old new who.Own (event.Insert kind position setup) r → IsInPhase new phase.Paused
insert_phase {old} {new} at t =
    let stays = rewires old.tray.head old.tray.turns t.turn t.sound t.bound t.next (ap is_rewire t.told.what) in
    record { between = t.between; phase_is = phase_after t (stays ∙ sym (ap (λ (n : Net). n.phase) t.before) ∙ at.phase_is) }

-- a filter was asked for
inserted_one : {old new : BookView} (attached now : ℕ) (f : FilterSetup) (r : Reply) → IsInPhase old phase.Paused → Turned old new who.Own (event.Insert f.kind (attached + 1) f.setup) r
    → now ≡ cond (is_inserted r) (attached + 1) attached → InsertsOne attached f now old new
inserted_one {old} {new} attached now f r at t is = record {
  now = insert_phase at t;
  near = subst (λ n. n ≤ attached + 1) (sym is) (at_most (is_inserted r));
  added = λ fs. opens_by (Inserting attached) (f ∷ fs) (Inserting now) (event.Insert f.kind (attached + 1) f.setup) r refl (inserted_to attached f fs r ∙ ap Inserting (sym is)) (one_of t);
}
  where
    at_most : (b : Bool) → cond b (attached + 1) attached ≤ attached + 1
    at_most true = omega arith
    at_most false = omega arith

pub inserts_by : {old new : BookView} {e : Event} (attached now : ℕ) (f : FilterSetup) (r : Reply) → IsInPhase old phase.Paused → Turned old new who.Own e r → e ≡ event.Insert f.kind (attached + 1) f.setup
    → now ≡ cond (is_inserted r) (attached + 1) attached → InsertsOne attached f now old new
inserts_by {old} {new} attached now f r at t same is = inserted_one attached now f r at (subst (λ x. Turned old new who.Own x r) same t) is

-- a filter, and then the others
inserts_both : {old mid new : BookView} (attached now all : ℕ) (f : FilterSetup) (fs : List FilterSetup) → InsertsOne attached f now old mid → InsertsEach now fs all mid new → InsertsEach attached (f ∷ fs) all old new
inserts_both attached now all f fs o i =
    let longer : length (f ∷ fs) ≡ length fs + 1 = omega arith in
    record {
      now = i.now;
      most = omega (arith, i.most, o.near, longer);
      added = opens_then (Inserting attached) (f ∷ fs) (Inserting now) fs (Inserting all) [] (o.added fs) i.added;
    }

first_and_rest : (s : List FilterSetup) (f : FilterSetup) → 1 ≤ length s → f ≡ get_or s 0 f → f ∷ take (length s - 1) (drop 1 s) ≡ s
first_and_rest [] f some is = absurd (omega arith)
first_and_rest (x ∷ s) f some is = ap₂ (λ y ys. y ∷ ys) is (take_rest (x ∷ s) 1)

pub inserts_all : {old mid new : BookView} (attached now all : ℕ) (s : List FilterSetup) (f : FilterSetup) → 1 ≤ length s → f ≡ get_or s 0 f → InsertsOne attached f now old mid
    → InsertsEach now (take (length s - 1) (drop 1 s)) all mid new → InsertsEach attached s all old new
inserts_all {old} {mid} {new} attached now all s f some is o i = subst (λ fs. InsertsEach attached fs all old new) (first_and_rest s f some is) (inserts_both attached now all f _ o i)

pub inserts_none : {old : BookView} (attached : ℕ) (s : List FilterSetup) → length s < 1 → IsInPhase old phase.Paused → InsertsEach attached s attached old old
inserts_none {old} attached (f ∷ fs) none at = absurd (omega arith)
inserts_none {old} attached [] none at = record { now = at; most = omega arith; added = none_added (OpensTo (Inserting attached) [] (Inserting attached) []) old refl }

-- the adapter refused: the opening stops there
ok_not_refused : is_refused reply.Ok ≡ true → ⊥
ok_not_refused e = cc

-- the miniport counted that
counted_refusal : {old new : BookView} {r : Reply} → (t : Turned old new who.Own event.Initialize r) → t.turn.reply ≡ reply.Refused refusal.InitRefused → IsRisen old.held.miniport.refusals new.held.miniport.refusals
counted_refusal {old} {new} t is =
    subst (λ e. Balks e (reply.Refused refusal.InitRefused) old.held new.held) t.told.what (subst (λ q. Balks t.turn.event q old.held new.held) is t.adds.adds.refused)

pub refused_opens : {old new : BookView} (filters : List FilterSetup) (r : Reply) → IsInPhase old phase.Halted → Turned old new who.Own event.Initialize r → is_refused r ≡ true → OpensStack filters old new
refused_opens {old} {new} filters r at t refused = by_law (initializes old.tray.head old.tray.turns t.turn t.sound t.bound t.next t.told.what (sym (ap (λ (n : Net). n.phase) t.before) ∙ at.phase_is))
  where
    by_law : LeadsTo (net_before old) t.turn reply.Ok phase.Paused ⊎ ChangesNothing (net_before old) t.turn (reply.Refused refusal.InitRefused) → OpensStack filters old new
    by_law (inl l) = absurd (ok_not_refused (ap is_refused (sym (sym t.told.told ∙ l.reply)) ∙ refused))
    by_law (inr c) =
        let told : r ≡ reply.Refused refusal.InitRefused = sym t.told.told ∙ c.reply in
        record {
          between = t.between;
          ran = inr (ap (λ (n : Net). n.phase) (same_after t c.same) ∙ at.phase_is, counted_refusal t c.reply);
          left = filters;
          added = opens_by Initialising filters Opened event.Initialize r refl (ap (opening_after Initialising filters) told) (one_of t);
        }

-- it is initialised
pub record IsInitialized (filters : List FilterSetup) (old new : BookView) : Type 0 where
  pub now : IsInPhase new phase.Paused
  pub added : AddsTurns (OpensTo Initialising filters (Inserting 0) filters) old new

pub initialized_by : {old new : BookView} (filters : List FilterSetup) (r : Reply) → IsInPhase old phase.Halted → Turned old new who.Own event.Initialize r → is_refused r ≡ false → IsInitialized filters old new
initialized_by {old} {new} filters r at t accepted = by_law (initializes old.tray.head old.tray.turns t.turn t.sound t.bound t.next t.told.what (sym (ap (λ (n : Net). n.phase) t.before) ∙ at.phase_is))
  where
    refused_is : is_refused (reply.Refused refusal.InitRefused) ≡ false → ⊥
    refused_is e = cc

    by_law : LeadsTo (net_before old) t.turn reply.Ok phase.Paused ⊎ ChangesNothing (net_before old) t.turn (reply.Refused refusal.InitRefused) → IsInitialized filters old new
    by_law (inl l) =
        let told : r ≡ reply.Ok = sym t.told.told ∙ l.reply in
        record {
          now = record { between = t.between; phase_is = phase_after t l.phase };
          added = opens_by Initialising filters (Inserting 0) event.Initialize r refl (ap (opening_after Initialising filters) told) (one_of t);
        }
    by_law (inr c) = absurd (refused_is (ap is_refused (sym (sym t.told.told ∙ c.reply)) ∙ accepted))

-- the opening in its three parts
pub opens_in_all : {a b c d : BookView} (filters : List FilterSetup) (attached : ℕ) → IsInitialized filters a b → InsertsEach 0 filters attached b c → RestartsAll who.Own c d → OpensStack filters a d
opens_in_all filters attached i j r = record {
  between = r.now.between;
  ran = inl r.now.phase_is;
  left = [];
  added = opens_then Initialising filters (Inserting 0) filters Opened [] i.added (opens_then (Inserting 0) filters (Inserting attached) [] Opened [] j.added
      (leads_until who.Own opening_asks opening_goes (Inserting attached, []) (Opened, []) event.RestartNext reply.Next reply.Running refl refl refl r.added));
}
