-- What the laws tell of a stack that is Paused.
use Rattle.std.proofs.Common.{◌≡◌, ◌≤◌, length, sym, ap, ◌∙◌, subst}
use Rattle.ndis_base.specs.declared.Phase.{Phase}
use Rattle.ndis_base.specs.declared.Phase.TheVariants as phase
use Rattle.stack_rules.specs.Net.{Net, lists, seen}
use Rattle.state_laws.specs.Shape.{IsShaped}
use Rattle.state_laws.proofs.Events.{at_phase, shaped_journal}
use Rattle.pause_laws.proofs.Turns.{none_while_paused}
use Rattle.order_laws.specs.Orders.{AreAsMany}
use Rattle.order_laws.proofs.Attached.{each_is_as_many}
use Rattle.order_laws.proofs.Bounds.{each_order_fits}
use Rattle.book_lemmas.specs.Views.{BookView}
use Rattle.book_lemmas.proofs.Between.{listed}
use Rattle.book_parts.specs.Events.{IsBook, IsIdle}
use Rattle.book_parts.proofs.Ended.{idle_state}
use Rattle.rewire_work.specs.Rested.{IsAtRest}

paused_not_halted : (p : Phase) → p ≡ phase.Paused → p ≡ phase.Halted → ⊥
paused_not_halted p e k = cc

pub at_rest : (old : BookView) → IsBook old → IsIdle old → old.tray.net.phase ≡ phase.Paused → IsAtRest old.tray.net
at_rest old k i e =
    let is : old.tray.net ≡ seen old.tray.head old.tray.turns = idle_state old k i in
    let paused : (seen old.tray.head old.tray.turns).phase ≡ phase.Paused = ap (λ (n : Net). n.phase) (sym is) ∙ e in
    let shaped : IsShaped old.tray.net = subst IsShaped (sym is) (shaped_journal old.tray.head old.tray.turns k.follows.sound) in
    let many : AreAsMany (seen old.tray.head old.tray.turns) = each_is_as_many old.tray.head old.tray.turns k.follows.sound in
    record {
      nothing = ap (λ (n : Net). lists n.things) is ∙ none_while_paused old.tray.head old.tray.turns k.follows.sound paused;
      wired = (at_phase old.tray.net phase.Paused shaped e).0;
      few = subst (λ (n : Net). length n.modules.order ≤ 16) (sym is) (each_order_fits old.tray.head old.tray.turns k.follows.sound);
      as_many = ap (λ (n : Net). length n.modules.filters) is ∙ many.attached (λ h. paused_not_halted _ paused h) ∙ ap (λ (n : Net). length n.modules.order) (sym is);
      ordered = (listed (record { is = is; sound = k.follows.sound; bound = k.bound }) (λ h. paused_not_halted _ e h)).ordered;
    }
