-- What the laws of sound journals tell of the first position that isn't Paused.
use Rattle.std.proofs.Common.{◌≡◌, ℕ, ◌+◌, ◌<◌, ◌≤◌, List, None, length, sym, ap, ◌∙◌, subst, arith}
use Rattle.ndis_base.specs.declared.Phase.TheVariants as phase
use Rattle.journal_types.specs.declared.StackHead.{StackHead}
use Rattle.journal_types.specs.declared.Turn.{Turn}
use Rattle.stack_rules.specs.Net.{Net, seen}
use Rattle.stack_rules.specs.Places.{outstanding}
use Rattle.stack_rules.specs.Pauses.{floors, first_unpaused}
use Rattle.stack_rules.specs.Sound.{Sound}
use Rattle.state_laws.specs.Shape.{AllBelow}
use Rattle.state_laws.proofs.Floors.{first_unpaused_is, length-floors}
use Rattle.state_laws.proofs.Events.{at_phase}
use Rattle.pause_laws.specs.Clear.{IsHeld}
use Rattle.pause_laws.proofs.Turns.{held_journal}
use Rattle.outstanding_laws.specs.Outstanding.{in_hand_at}
use Rattle.outstanding_laws.proofs.Counts.{each_is_in_hand}
use Rattle.book_lemmas.specs.Views.{BookView}
use Rattle.book_parts.specs.Events.{IsBook, IsIdle}
use Rattle.book_parts.proofs.Ended.{idle_state}
use Rattle.pause_work.specs.declared.floor.Floor.{Floor}
use Rattle.pause_work.specs.Positions.{IsAt, IsFound}
use Rattle.pause_work.specs.Hands.{all_count}
use Rattle.pause_work.proofs.Hands.{position_is}

pub record IsFront (net : Net) : Type 0 where
  pub within : first_unpaused net < length (floors net.modules)
  pub below : AllBelow net.next.filter net.modules.order
  pub in_hand : outstanding net (first_unpaused net) ≡ in_hand_at net (first_unpaused net)

front_seen : (head : StackHead) (turns : List Turn) → Sound head turns → 1 ≤ length head.bindings → (seen head turns).phase ≡ phase.Pausing → IsFront (seen head turns)
front_seen head turns s bound e =
    let net : Net = seen head turns in
    let held : IsHeld net = held_journal head turns s in
    let f = at_phase net phase.Pausing held.shape e in
    let front : ℕ = held.shape.front in
    let here : first_unpaused net ≡ front = first_unpaused_is net (length net.head.bindings) front (front + 1) f.1.some f.1.within f.1.states in
    record {
      within = omega (arith, here, f.1.within, length-floors net.modules);
      below = f.0.below;
      in_hand = each_is_in_hand head turns s bound e;
    }

pub front_is : (v : BookView) → IsBook v → IsIdle v → v.tray.net.phase ≡ phase.Pausing → IsFront v.tray.net
front_is v k i e =
    let is : v.tray.net ≡ seen v.tray.head v.tray.turns = idle_state v k i in
    subst IsFront (sym is) (front_seen v.tray.head v.tray.turns k.follows.sound k.bound (sym (ap (λ (n : Net). n.phase) is) ∙ e))

-- what the position has in hand is what it has outstanding
pub outstanding_is : (v : BookView) (f : Floor) → IsBook v → IsIdle v → v.tray.net.phase ≡ phase.Pausing → IsAt v.tray.net.modules (first_unpaused v.tray.net) f
    → all_count v (first_unpaused v.tray.net) f ≡ outstanding v.tray.net (first_unpaused v.tray.net)
outstanding_is v f k i e at = position_is v (first_unpaused v.tray.net) f k.stands.agrees at ∙ sym (front_is v k i e).in_hand

-- there is such a position
pub never_none : (v : BookView) (i : ℕ) → IsBook v → IsIdle v → v.tray.net.phase ≡ phase.Pausing → i ≡ first_unpaused v.tray.net → IsFound v.tray.net.modules i None → ⊥
never_none v i k d e is none = omega (arith, (front_is v k d e).within, is, none)

pub counted : (v : BookView) (f : Floor) (n i : ℕ) → IsBook v → IsIdle v → v.tray.net.phase ≡ phase.Pausing → i ≡ first_unpaused v.tray.net → IsAt v.tray.net.modules i f → n ≡ all_count v i f
    → n ≡ outstanding v.tray.net (first_unpaused v.tray.net)
counted v f n i k d e is at count =
    count ∙ ap (λ j. all_count v j f) is ∙ outstanding_is v f k d e (subst (λ j. IsAt v.tray.net.modules j f) is at)
