-- A restart.
use Rattle.std.proofs.Common.{◌≡◌, ◌≢◌, ◌⊎◌, inl, inr, Bool, true, false, sym, ap, ◌∙◌, subst}
use Rattle.ndis_base.specs.declared.Phase.TheVariants as phase
use Rattle.ndis_base.specs.declared.Who.{Who}
use Rattle.journal_types.specs.declared.Event.TheVariants as event
use Rattle.journal_types.specs.declared.Reply.TheVariants as reply
use Rattle.flat_journal.specs.declared.types.FlatReply.{FlatReply}
use Rattle.flat_journal.specs.Payloads.{Payloads}
use Rattle.flat_journal.specs.Shown.{reply_of}
use Rattle.stack_rules.specs.Net.{Net}
use Rattle.run_laws.specs.Opening.{restart_to_go}
use Rattle.run_laws.specs.Turns.{GoesOn, LeadsTo}
use Rattle.run_laws.proofs.Opening.{restarts}
use Rattle.book_lemmas.specs.Views.{BookView}
use Rattle.book_runs.specs.Adds.{AddsTurns, IsOne}
use Rattle.book_runs.specs.Runs.{IsRestarting, IsAnswer, Turned, RestartsOnce}
use Rattle.book_runs.proofs.Added.{one_of, found_yes, found_no}
use Rattle.book_runs.proofs.Pumped.{net_before, phase_after, less_after}

next_not_running : reply.Next ≢ reply.Running
next_not_running e = cc

no_true : true ≡ false → ⊥
no_true e = cc

no_false : false ≡ true → ⊥
no_false e = cc

pub restarted_by : {old new : BookView} (w : Who) (answer : FlatReply) (done : Bool) (p : Payloads) → IsRestarting old → Turned old new w event.RestartNext (reply_of p answer) → IsAnswer reply.Running answer done → RestartsOnce w done old new
restarted_by {old} {new} w answer done p at t a = by_law (restarts old.tray.head old.tray.turns t.turn t.sound t.bound t.next t.told.what (before at.phase_is))
  where
    before : (old.tray.net.phase ≡ phase.Paused) ⊎ (old.tray.net.phase ≡ phase.Restarting) → ((net_before old).phase ≡ phase.Paused) ⊎ ((net_before old).phase ≡ phase.Restarting)
    before (inl is) = inl (sym (ap (λ (n : Net). n.phase) t.before) ∙ is)
    before (inr is) = inr (sym (ap (λ (n : Net). n.phase) t.before) ∙ is)

    by_law : LeadsTo (net_before old) t.turn reply.Running phase.Running ⊎ GoesOn (net_before old) t.turn reply.Next phase.Restarting restart_to_go → RestartsOnce w done old new
    by_law (inl l) =
        let told : reply_of p answer ≡ reply.Running = sym t.told.told ∙ l.reply in
        let yes : done ≡ true = found_yes reply.Running answer done p a told in
        let over : RestartsOnce w true old new = record {
          between = t.between;
          running = λ _. phase_after t l.phase;
          goes_on = λ e. absurd (no_true e);
          fewer = λ e. absurd (no_true e);
          added = subst (λ r. AddsTurns (IsOne w event.RestartNext r) old new) told (one_of t);
        } in
        subst (λ b. RestartsOnce w b old new) (sym yes) over
    by_law (inr g) =
        let told : reply_of p answer ≡ reply.Next = sym t.told.told ∙ g.leads.reply in
        let no : done ≡ false = found_no reply.Running answer done p a (λ is. next_not_running (sym told ∙ is)) in
        let more : RestartsOnce w false old new = record {
          between = t.between;
          running = λ e. absurd (no_false e);
          goes_on = λ _. record { between = t.between; phase_is = inr (phase_after t g.leads.phase) };
          fewer = λ _. less_after restart_to_go t g.less;
          added = subst (λ r. AddsTurns (IsOne w event.RestartNext r) old new) told (one_of t);
        } in
        subst (λ b. RestartsOnce w b old new) (sym no) more
