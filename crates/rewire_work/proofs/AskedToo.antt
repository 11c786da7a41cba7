-- What a removal's function asks of its last step, and what it ensures.
use Rattle.std.proofs.Common.{◌≡◌, ℕ, ◌≤◌, List, Some, None, sym, subst}
use Rattle.journal_types.specs.declared.Event.TheVariants as event
use Rattle.journal_types.specs.declared.Refusal.{Refusal}
use Rattle.flat_journal.specs.declared.types.FlatReply.TheVariants as flat_reply
use Rattle.driver_tray.specs.Tray.{TrayView}
use Rattle.book_lemmas.specs.Views.{BookView}
use Rattle.book_parts.specs.Events.{IsBook, IsIdle, IsUnmoved}
use Rattle.rewire_work.specs.Refusals.{rewire_refusal}
use Rattle.rewire_work.specs.Rested.{IsAtRest, IsRoomed}
use Rattle.rewire_work.specs.Seated.{Removes}
use Rattle.rewire_work.proofs.Begun.{roomed, begins_room, roomed_book, roomed_idle}
use Rattle.rewire_work.proofs.Causes.{paused_first}
use Rattle.rewire_work.proofs.Done.{IsDone, still_unmoved}
use Rattle.rewire_work.proofs.DoneToo.{remove_refused, remove_done}
use Rattle.rewire_work.proofs.Rested.{at_rest}

-- the book with more room, and this shelf
abbrev pub with_shelf : BookView → TrayView → List ℕ → BookView
with_shelf old t shelf = record { tray = t; held = record old.held { shelf = shelf } }

module _ (old : BookView) (t : TrayView) (shelf : List ℕ) (k : IsBook old) (room : IsRoomed old.tray t) (same : shelf ≡ old.held.shelf) where
  pub shelf_unmoved : IsUnmoved old (with_shelf old t shelf)
  shelf_unmoved = subst (λ ss. IsUnmoved old (with_shelf old t ss)) (sym same) (still_unmoved old t k room)

  pub shelf_book : IsBook (with_shelf old t shelf)
  shelf_book = subst (λ ss. IsBook (with_shelf old t ss)) (sym same) (roomed_book old t k (begins_room old.tray t room))

  pub shelf_rest : IsIdle old → (f : ℕ) → rewire_refusal t.net f ≡ None → IsAtRest t.net
  shelf_rest i f e = at_rest (roomed old t) (roomed_book old t k (begins_room old.tray t room)) (roomed_idle old t i (begins_room old.tray t room)) (paused_first t.net _ e)

  pub not_removed : IsIdle old → 1 ≤ t.room.turns → (f : ℕ) (cause : Refusal) → rewire_refusal t.net f ≡ Some cause → IsDone old (with_shelf old t shelf) (event.Remove f) (flat_reply.Refused cause)
  not_removed i turns f cause e =
      subst (λ ss. IsDone old (with_shelf old t ss) (event.Remove f) (flat_reply.Refused cause)) (sym same) (remove_refused old t f cause k i room turns e)

  pub was_removed : IsIdle old → 1 ≤ t.room.turns → (new : BookView) (f : ℕ) → rewire_refusal t.net f ≡ None → Removes f (with_shelf old t shelf) new → IsDone old new (event.Remove f) flat_reply.Removed
  was_removed i turns new f e r = remove_done old t new f k i room turns e (subst (λ ss. Removes f (with_shelf old t ss) new) same r)
