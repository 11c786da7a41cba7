-- A turn that may come next is what its event's outcome says.
use Rattle.std.proofs.Common.{◌≡◌, ℕ, ◌<◌, ◌≤◌, length, arith, ap, sym, subst, ◌∙◌}
use Rattle.std.proofs.lemmas.List.{length-replicate}
use Rattle.ndis_base.specs.declared.ModuleState.{ModuleState}
use Rattle.ndis_base.specs.declared.Phase.{Phase}
use Rattle.journal_types.specs.declared.Event.{Event}
use Rattle.journal_types.specs.declared.Reply.{Reply}
use Rattle.journal_types.specs.declared.Turn.{Turn}
use Rattle.stack_rules.specs.Net.{Net, after_turn}
use Rattle.stack_rules.specs.Outcome.{Outcome}
use Rattle.stack_rules.specs.Sound.{outcome, Next}
use Rattle.state_laws.specs.Shape.{StatesAre}
use Rattle.state_laws.proofs.Events.{state_after, turn_is}
use Rattle.run_laws.specs.Turns.{ChangesNothing, GoesOn, LeadsTo}

-- the turn answers what the outcome says, and leaves this state
pub record IsTurn (net : Net) (turn : Turn) (o : Outcome) (next : Net) : Type 0 where
  pub answer : turn.reply ≡ o.reply
  pub after : after_turn net turn ≡ next

pub turn_of : (net : Net) (turn : Turn) (e : Event) (n : Next net turn) → turn.event ≡ e → IsTurn net turn (outcome net e n.choice) (state_after net e (outcome net e n.choice))
turn_of net turn e n is = record {
  answer = n.reply ∙ ap (λ (v : Event). (outcome net v n.choice).reply) is;
  after = turn_is net turn n ∙ ap (λ (v : Event). state_after net v (outcome net v n.choice)) is;
}

pub leads : (net : Net) (turn : Turn) (o : Outcome) (next : Net) (r : Reply) (p : Phase) → IsTurn net turn o next → o.reply ≡ r → next.phase ≡ p → LeadsTo net turn r p
leads net turn o next r p t a b = record { reply = t.answer ∙ a; phase = ap (λ (m : Net). m.phase) t.after ∙ b }

pub nothing : (net : Net) (turn : Turn) (o : Outcome) (next : Net) (r : Reply) → IsTurn net turn o next → o.reply ≡ r → next ≡ net → ChangesNothing net turn r
nothing net turn o next r t a b = record { reply = t.answer ∙ a; same = t.after ∙ b }

pub goes_on : (net : Net) (turn : Turn) (o : Outcome) (next : Net) (r : Reply) (p : Phase) (to_go : Net → ℕ) → IsTurn net turn o next → o.reply ≡ r → next.phase ≡ p → to_go next < to_go net → GoesOn net turn r p to_go
goes_on net turn o next r p to_go t a b l = record { leads = leads net turn o next r p t a b; less = subst (λ m. to_go m < to_go net) (sym t.after) l }

-- as many bindings as the head has
pub some_bindings : (net : Net) (many : ℕ) (states : ℕ → ModuleState) → StatesAre many net.modules states → 1 ≤ length net.modules.bindings → 0 < many
some_bindings net many states h bound =
    let same : length net.modules.bindings ≡ many = ap length h.bindings ∙ length-replicate many (states 0) in
    omega (arith, same, bound)
